-- What two conflicting final checkpoints imply, and what no list that passes does: the two statements of this crate.
use Rattle.std.specs.Prelude.{ℕ, ◌*◌, ◌-◌, ◌≤◌, ◌≡◌, List}
use Rattle.model.specs.Answer.{answer}
use Rattle.model.specs.Bytes.{AreBytes}
use Rattle.model.specs.Checker.{check}
use Rattle.model.specs.Evidence.{KeepsRules, our_list}
use Rattle.model.specs.Exact.{Passed}
use Rattle.model.specs.Finality.{ConflictingFinals}
use Rattle.model.specs.Lists.{All}
use Rattle.model.specs.Model.{Model, start, quota}
use Rattle.model.specs.Rule.{Permitted}
use Rattle.model.specs.Run.{Event, OfBytes, after}
use Rattle.model.specs.Support.{total}

-- "our list passes the list checker", and it names, by the p and q that are held, "q × named ≥ (2p − q) × total"; they
-- are permitted, so the minus is never cut off, and the share is never nothing
pub record ShareNamed (m : Model) : Type 0 where
  pub named : ℕ
  pub passes : check m (our_list m) ≡ answer named
  pub permitted : Permitted (quota m)
  pub share : (2 * (quota m).p - (quota m).q) * total m.members ≤ (quota m).q * named
  -- so by a quorum of 2 of 3 parts, or of more, it "names at least a third of all bonds", which means 3 × sum ≥ total
  pub third : 2 * (quota m).q ≤ 3 * (quota m).p → total m.members ≤ 3 * named

-- for every run: any root name, any list of readings of bytes and moves of the root
abbrev pub AccountableSafety : Type 0
AccountableSafety = (name : List ℕ) (es : List Event) → All OfBytes es → ConflictingFinals (after (start name) es) → ShareNamed (after (start name) es)

-- what a list that passes says, and that each id in it has votes that break a condition
pub record NamesViolators (m : Model) (l : List ℕ) (s : ℕ) : Type 0 where
  pub passed : Passed m l s
  pub guilty : All (λ c. KeepsRules m c.id → ⊥) passed.listed

-- no list that the checker passes, whoever wrote it, names a member whose votes keep both conditions
abbrev pub NoInnocentNamed : Type 0
NoInnocentNamed = (m : Model) (l : List ℕ) (s : ℕ) → AreBytes l → check m l ≡ answer s → NamesViolators m l s
