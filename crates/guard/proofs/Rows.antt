-- Which row a vote meets at a guard, by its heights and the record; and what a call comes to then.
use Prim.Native.Nat.{ℕ, ◌<◌, ◌≤◌}
use mathlib.Core.Path.{◌≡◌, ap}
use Rattle.std.proofs.Common.{arith}
use Rattle.std.specs.Prelude.{Ok, Err}
use Rattle.std.proofs.lemmas.Bool.Decides.{nat_tests}
use Rattle.model.specs.Answer.{refused, answer, row}
use Rattle.model.specs.Refusals.{refusal_number}
use Rattle.model.specs.declared.Refusal.{Refusal}
use Rattle.guard.specs.Signing.{last_signed, guard_rows, rewritten_by, IsSigning}
use Rattle.guard.specs.declared.Guard.{Guard}

module _ (g : Guard) (s t : ℕ) where
  -- rows 65 to 67 pass a vote that climbs, and rises from the last one where there is one
  pub passes : s < t → ((g.used ≡ 0 → ⊥) → g.target.0 < t) → ((g.used ≡ 0 → ⊥) → g.source.0 ≤ s)
      → guard_rows g s t ≡ answer tt
  unfolding guard_rows row
  passes climbs rises keeps = grind (arith, nat_tests, climbs, rises, keeps)

  -- a call's answer, and the record that goes with it

  pub signs : answer tt ≡ guard_rows g s t → IsSigning g s t (Ok tt) (last_signed s t)
  unfolding rewritten_by
  signs e = record { answered = e; rewritten = ap (λ x. rewritten_by x g s t) e }

  pub refuses : (r : Refusal) → refused (refusal_number r) ≡ guard_rows g s t → IsSigning g s t (Err r) g
  unfolding rewritten_by
  refuses r e = record { answered = e; rewritten = ap (λ x. rewritten_by x g s t) e }
