-- `text::put_right` meets its contract: blanks, and the digits after them.
use Prim.Native.Nat.{ℕ, ◌-◌}
use native.Mathlib.Omega.{arith}
use mathlib.Core.Path.{◌≡◌, ap, ap₂, ◌∙◌}
use mathlib.Core.List.{List, ◌++◌}
use lib.ListN.{length, take, length-replicate}
use Rattle.io.specs.Digits.{IsDigitCount, last_digits}
use Rattle.model.specs.Paper.{right, blanks}
use Rattle.model.specs.Report.{decimal}
use Rattle.text.proofs.Decimal.{decimal-is}
use Rattle.text.proofs.Putting.{kept, spelled, next}
use Rattle.text.proofs.put_right.Goals as goal

-- the digits are those of the number, and so many
wide : (k n : ℕ) (out : List ℕ) → k ≡ length (take k out) → take k out ≡ last_digits 10 k n → IsDigitCount 10 1 n k → k ≡ length (decimal n)
wide k n out inside e few = inside ∙ ap length (e ∙ decimal-is k n few)

pub overflow_sub-columns : goal.overflow_sub-columns
overflow_sub-columns c =
    let d = c.decimal-k in
    omega (arith, c.requires, wide d.result c.args.n d.new.out d.ensures.in_bounds.1 d.ensures.digits d.ensures.len)

pub put-requires : goal.put-requires
put-requires c =
    let d = c.decimal-k in
    let before = length-replicate {A = ℕ} (c.args.columns - d.result) 32 in
    omega (arith, c.requires, wide d.result c.args.n d.new.out d.ensures.in_bounds.1 d.ensures.digits d.ensures.len, d.ensures.in_bounds.1, before, c.fill-from.ensures.past, kept c.fill-from.ensures)

pub returns : goal.returns
unfolding right
returns c =
    let d = c.decimal-k in
    spelled (next c.fill-from.ensures c.put.ensures)
    (ap₂ (λ (k : ℕ) (t : List ℕ). blanks (c.args.columns - k) ++ t) (wide d.result c.args.n d.new.out d.ensures.in_bounds.1 d.ensures.digits d.ensures.len) (d.ensures.digits ∙ decimal-is d.result c.args.n d.ensures.len))
