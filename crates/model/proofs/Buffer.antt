-- A text that is written into a lent buffer, or that finds it too short.
use Prim.Native.Nat.{ℕ, ◌<◌, ◌≤◌}
use native.Mathlib.Omega.{arith}
use mathlib.Core.Path.{◌≡◌, ap, ◌∙◌}
use mathlib.Core.List.{List, ◌++◌}
use borrow.Author.Tests.{lt-ltb, le-ltb}
use lib.ListN.{length, drop}
use Rattle.model.specs.Answer.{answer, row}
use Rattle.model.specs.Buffer.{write_text, buffer_after, Written}
use Rattle.model.specs.declared.Refusal.TheVariants.{BufferTooShort}
use Rattle.std.specs.Prelude.{Ok, Err}

module _ (text before : List ℕ) where
  pub too_short : length before < length text → Written text before (Err BufferTooShort) before
  unfolding row write_text buffer_after
  too_short h = record { answered = rw (lt-ltb _ _ h); buffer = rw (lt-ltb _ _ h) }

  pub all-written : {n : ℕ} {after : List ℕ} → n ≡ length text → n ≤ length before → after ≡ text ++ drop n before
      → Written text before (Ok n) after
  unfolding row write_text buffer_after
  all-written {n} e h whole =
      let fits : length text ≤ length before = omega arith in
      record {
        answered = rw (le-ltb _ _ fits) (ap answer e);
        buffer = rw (le-ltb _ _ fits) (whole ∙ ap (λ (k : ℕ). text ++ drop k before) e);
      }
