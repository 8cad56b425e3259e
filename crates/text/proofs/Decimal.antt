-- The digits that `io` writes are those of the number in decimal.
use Prim.Native.Nat.{ℕ, zero, suc, ◌+◌, ◌*◌, ◌-◌, ◌/◌, ◌%◌, ◌^◌, ◌<◌, ◌≤◌}
use native.Mathlib.Nat.{mod-lt, mod-eq_of_lt, pow-suc, pow-le-pow_right, div-add-mod'}
use native.Mathlib.Omega.{arith, by_contra}
use mathlib.Core.Path.{◌≡◌, ap, ap₂, ◌∙◌}
use mathlib.Core.List.{List, [], ◌∷◌, ◌++◌}
use borrow.Author.Tests.{lt-ltb, le-ltb}
use Rattle.model.specs.Report.{digits, decimal}
use Rattle.io.specs.Digits.{IsDigitCount, hex_digit_ascii}
use Rattle.io.specs.Digits as Io

glyph_is : (d : ℕ) → d < 10 → hex_digit_ascii d ≡ 48 + d
glyph_is d h = rw (lt-ltb d 10 h)

-- `fuel` bounds how many digits the definition may take; it has more than it needs
fewest_digits : (k fuel n : ℕ) → IsDigitCount 10 1 n k → n < fuel → Io.last_digits 10 k n ≡ digits fuel n
unfolding digits
fewest_digits zero fuel n few more = absurd (omega (arith, few.0))
fewest_digits (suc k) zero n few more = absurd (omega arith)
fewest_digits (suc zero) (suc f) n few more =
    let low : n < 10 = few.1 in
    rw (digits, lt-ltb n 10 low) (ap (λ (d : ℕ). d ∷ []) (ap hex_digit_ascii (mod-eq_of_lt low) ∙ glyph_is n low))
fewest_digits (suc (suc j)) (suc f) n few more =
    let whole = div-add-mod' n 10 in
    let last = mod-lt n {m = 10} (omega arith) in
    let top : n < 10 ^ suc j * 10 = rw (pow-suc 10 (suc j)) at few.1 in
    let less : suc (suc j) - 1 ≡ suc j = omega arith in
    let same : suc j - 1 ≡ j = omega arith in
    let bottom : 10 ^ suc j ≤ n = rw less at (few.2 (omega arith)) in
    let two : 10 ≤ n = omega (arith, pow-suc 10 j, pow-le-pow_right {n = 10} (omega arith) {i = 0} {j = j} (omega arith)) in
    rw (digits, le-ltb n 10 two)
    (ap₂ (λ (l : List ℕ) (d : ℕ). l ++ (d ∷ []))
    (fewest_digits (suc j) f (n / 10) (omega arith, omega arith, λ _. rw same (omega (arith, pow-suc 10 j))) (omega arith))
    (glyph_is (n % 10) last))

pub decimal-is : (k n : ℕ) → IsDigitCount 10 1 n k → Io.last_digits 10 k n ≡ decimal n
unfolding decimal
decimal-is k n few = fewest_digits k (suc n) n few (omega arith)

-- a number of 64 bits has at most 20 digits
pub few-digits : (k n : ℕ) → IsDigitCount 10 1 n k → n < 2 ^ 64 → k ≤ 20
few-digits k n few low =
    by_contra k 20 (λ more. omega (arith, few.2 (omega arith), pow-le-pow_right {n = 10} (omega arith) {i = 20} {j = k - 1} (omega arith)))
