-- Justified, final, conflicting finals: source document 002, section 2, with bonds as weights; for the finality of the
-- root, source document 001.
use Rattle.std.specs.Prelude.{ℕ, zero, suc, List, [], ◌∷◌, ◌++◌, Bool, false, cond, ◌&&◌, ◌||◌, not, length, get_or, eqb}
use Rattle.model.specs.Answer.{Answer, answer, row}
use Rattle.model.specs.Lists.{any_below}
use Rattle.model.specs.Model.{Model, place_held}
use Rattle.model.specs.Support.{link?, Link}
use Rattle.model.specs.Tree.{Child, Conflict, child?, conflict?}
use Rattle.model.specs.declared.Status.{Status}
use Rattle.model.specs.declared.Status.TheVariants.{Plain as PlainStatus, Justified as JustifiedStatus, Final as FinalStatus}

-- "Justified: the root, or the target of a supermajority link with a justified source." Over any relation for the links.
pub data JustifiedBy (L : ℕ → ℕ → Type 0) : ℕ → Type 0 where
  root : JustifiedBy L 0
  link : {s t : ℕ} → JustifiedBy L s → L s t → JustifiedBy L t

abbrev pub Justified : Model → ℕ → Type 0
Justified m p = JustifiedBy (Link m) p

-- "with a supermajority link to a direct child": what seals a justified checkpoint
pub record Sealed (m : Model) (p : ℕ) : Type 0 where
  pub child : ℕ
  pub direct : Child m.checkpoints p child
  pub linked : Link m p child

-- "Final: justified, with a supermajority link to a direct child." The root is final from the header on, with no link
-- (request K1): for this one checkpoint source document 001 decides, "The genesis is finalized." A root that was moved
-- up (K7) was final before the move (row 70), and stays it.
pub data Final (m : Model) : ℕ → Type 0 where
  genesis : Final m 0
  sealed : {p : ℕ} → Justified m p → Sealed m p → Final m p

-- two final checkpoints conflict
pub record ConflictingFinals (m : Model) : Type 0 where
  pub one : ℕ
  pub other : ℕ
  pub one-final : Final m one
  pub other-final : Final m other
  pub conflict : Conflict m.checkpoints one other

-- the answers that compute these

-- for each of the first n places, whether it is justified: a source's place is below its target's, so one pass will do
unfoldable pub justified_marks : Model → ℕ → List Bool
justified_marks m zero = []
justified_marks m (suc n) =
    let marks = justified_marks m n in
    marks ++ (eqb n 0 || any_below n (λ s. get_or marks s false && link? m s n)) ∷ []

unfoldable pub justified? : Model → ℕ → Bool
justified? m p = get_or (justified_marks m (length m.checkpoints)) p false

unfoldable pub sealed? : Model → ℕ → Bool
sealed? m p = any_below (length m.checkpoints) (λ c. child? m.checkpoints p c && link? m p c)

unfoldable pub final? : Model → ℕ → Bool
final? m p = eqb p 0 || (justified? m p && sealed? m p)

-- the standing of a place, by the rules
unfoldable pub status : Model → ℕ → Status
status m p = cond (final? m p) FinalStatus (cond (justified? m p) JustifiedStatus PlainStatus)

-- what is answered of it: 41 where the place isn't held
unfoldable pub status_at : Model → ℕ → Answer Status
status_at m p = row 41 (not (place_held m p)) (answer (status m p))

-- the conflict answer
unfoldable pub conflicting? : Model → Bool
conflicting? m =
    any_below (length m.checkpoints) (λ a.
    any_below (length m.checkpoints) (λ b.
    final? m a && final? m b && conflict? m.checkpoints a b))
