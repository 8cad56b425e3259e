-- What an allowed move says of breaking pairs and of dropped votes, in the forms that a tie keeps.
use Prim.Native.Nat.{ℕ}
use mathlib.Core.Path.{subst}
use Rattle.model.specs.Exact.{FirstPair, Violation}
use Rattle.model.specs.Model.{Model, vote_at}
use Rattle.model.specs.WellFormed.{WellFormed}
use Rattle.model.proofs.Charges.{all-at, charges-first, violation_charged}
use Rattle.moves.specs.Allowed.{Allowed}
use Rattle.moves.specs.Part.{Kept}
use Rattle.comparison.proofs.Tied.{Low}

-- the first breaking pair of an id, of two kept votes
pub record FirstKept (m : Model) (r id : ℕ) : Type 0 where
  pub one : ℕ
  pub other : ℕ
  pub first : FirstPair m id one other
  pub one_kept : Kept m.checkpoints r (vote_at m.votes one).source
  pub other-kept : Kept m.checkpoints r (vote_at m.votes other).source

module _ (m : Model) (good : WellFormed m) (r : ℕ) (allowed : Allowed m r) where
  pub first-kept : (id : ℕ) → Violation m id → FirstKept m r id
  first-kept id v =
      let x = violation_charged m good id v in
      let c = x.charge in
      let kept = all-at x.in_list allowed.shown in
      subst (FirstKept m r) x.names
      (record {
        one = c.earlier;
        other = c.later;
        first = all-at x.in_list (charges-first m);
        one_kept = kept.0.source;
        other-kept = kept.1.source;
      })

  -- a vote whose source is dropped is dropped
  pub low-sources : Low m r
  low-sources k h out = allowed.low k h (λ v. out v.source)
