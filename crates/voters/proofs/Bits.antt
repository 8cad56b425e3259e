-- Bits of a number, one at a time; the words of a link's voters; counts and sums over them.
use Prim.Native.Nat.{ℕ, zero, suc, ◌+◌, ◌-◌, ◌*◌, ◌/◌, ◌%◌, ◌^◌, ◌<◌, ◌≤◌}
use native.Mathlib.Omega.{arith}
use native.Mathlib.Nat.{div-one, zero-div, div-div-eq-div-mul, pow-succ', add-suc, suc-mul}
use native.Mathlib.Numerals.{add-one}
use mathlib.Core.Path.{◌≡◌, refl, sym, ap, ap₂, ◌∙◌}
use mathlib.Core.Logic.{⊎_elim}
use mathlib.Core.Bool.{Bool, true, false, cond, ◌||◌, or-false}
use borrow.Author.Tests.{lt-ltb, le-ltb, eq-eqb, ne_eqb, eqb-true, eqb-false}
use lib.Bits.{bit_or, or_shr, or_mod}
use lib.Count.{ones, ones_step}
use lib.Dec.{eqb, eqb-zero-suc, eqb-suc-zero, eqb-suc-suc}
use lib.Pow.{pow_pos, shl_exact}
use Rattle.model.proofs.Lists.{decided, lt_or_ge}
use Rattle.voters.specs.declared.Voters.{Voters}
use Rattle.voters.specs.Bits.{bit, among, sum_below, count_below}

-- ---- a bit: the lowest, and the bits of the half

bit-zero : (n : ℕ) → bit n 0 ≡ eqb (n % 2) 1
unfolding bit
bit-zero n = ap (λ (x : ℕ). eqb (x % 2) 1) (div-one n)

bit-next : (n i : ℕ) → bit n (suc i) ≡ bit (n / 2) i
unfolding bit
bit-next n i = ap (λ (x : ℕ). eqb (x % 2) 1) (ap (λ (y : ℕ). n / y) (pow-succ' 2 i) ∙ sym (div-div-eq-div-mul n 2 (2 ^ i)))

bit-none : (i : ℕ) → bit 0 i ≡ false
unfolding bit
bit-none i = rw (zero-div (2 ^ i))

-- a power of two has one bit
bit_power : (i j : ℕ) → bit (2 ^ i) j ≡ eqb j i
bit_power zero zero = bit-zero 1
bit_power zero (suc j) = bit-next 1 j ∙ bit-none j ∙ sym (eqb-suc-zero j)
bit_power (suc i) zero =
    bit-zero (2 ^ suc i) ∙ ap (λ (x : ℕ). eqb x 1) (let e : 2 ^ suc i % 2 ≡ 0 = omega (arith, pow-succ' 2 i) in e) ∙ sym (eqb-zero-suc i)
bit_power (suc i) (suc j) =
    bit-next (2 ^ suc i) j ∙ ap (λ (x : ℕ). bit x j) (let e : 2 ^ suc i / 2 ≡ 2 ^ i = omega (arith, pow-succ' 2 i) in e) ∙ bit_power i j ∙ sym (eqb-suc-suc j i)

or_digit : (u v : ℕ) → u < 2 → v < 2 → eqb (bit_or u v) 1 ≡ (eqb u 1 || eqb v 1)
or_digit zero zero h l = refl
or_digit zero (suc zero) h l = refl
or_digit (suc zero) zero h l = refl
or_digit (suc zero) (suc zero) h l = refl
or_digit zero (suc (suc v)) h l = absurd (omega arith)
or_digit (suc zero) (suc (suc v)) h l = absurd (omega arith)
or_digit (suc (suc u)) v h l = absurd (omega arith)

bit-bit_or : (a b j : ℕ) → bit (bit_or a b) j ≡ (bit a j || bit b j)
unfolding bit
bit-bit_or a b j =
    ap (λ (x : ℕ). eqb (x % 2) 1) (or_shr a b j)
    ∙ ap (λ (x : ℕ). eqb x 1) (or_mod (a / 2 ^ j) (b / 2 ^ j) 1)
    ∙ or_digit (a / 2 ^ j % 2) (b / 2 ^ j % 2) (omega arith) (omega arith)

-- one more bit of a word of 64
bit-set : (a i j : ℕ) → i < 64 → bit (bit_or a ((1 * 2 ^ i) % 2 ^ 64)) j ≡ (bit a j || eqb j i)
bit-set a i j h =
    ap (λ (x : ℕ). bit (bit_or a x) j) (shl_exact 1 i 64 (omega arith) (omega arith) ∙ (let e : 1 * 2 ^ i ≡ 2 ^ i = omega arith in e))
    ∙ bit-bit_or a (2 ^ i) j
    ∙ ap (◌||◌ (bit a j)) (bit_power i j)

-- ---- the two words

module _ (v : Voters) where
  pub among-low : (i : ℕ) → i < 64 → among v i ≡ bit v.lo i
  unfolding among
  among-low i h = rw (lt-ltb i 64 h)

  pub among-high : (i : ℕ) → 64 ≤ i → among v i ≡ bit v.hi (i - 64)
  unfolding among
  among-high i h = rw (le-ltb i 64 h)

apart : (i j : ℕ) → (j ≡ i → ⊥) → (b : Bool) → b ≡ (b || eqb j i)
apart i j h b = sym (ap (◌||◌ b) (ne_eqb j i h) ∙ or-false b)

shifted : (i j : ℕ) → 64 ≤ i → 64 ≤ j → eqb (j - 64) (i - 64) ≡ eqb j i
shifted i j h l = ⊎_elim
    (λ e. eq-eqb (j - 64) (i - 64) (ap (λ (x : ℕ). x - 64) (eqb-true j i e)) ∙ sym e)
    (λ e. ne_eqb (j - 64) (i - 64) (λ q. eqb-false j i e (omega arith)) ∙ sym e)
    (decided (eqb j i))

-- the bit of a member below 64 is set in the lower word, any other in the upper one
pub insert_low : (v : Voters) (i j : ℕ) → i < 64 → among (record { lo = bit_or v.lo ((1 * 2 ^ i) % 2 ^ 64); hi = v.hi }) j ≡ (among v j || eqb j i)
insert_low v i j h =
    let w : Voters = record { lo = bit_or v.lo ((1 * 2 ^ i) % 2 ^ 64); hi = v.hi } in
    ⊎_elim
    (λ l. among-low w j l ∙ bit-set v.lo i j h ∙ ap (λ (b : Bool). b || eqb j i) (sym (among-low v j l)))
    (λ l. among-high w j l ∙ sym (among-high v j l) ∙ apart i j (λ q. omega arith) (among v j))
    (lt_or_ge j 64)

pub insert_high : (v : Voters) (i j : ℕ) → 64 ≤ i → i < 128 → among (record { lo = v.lo; hi = bit_or v.hi ((1 * 2 ^ (i - 64)) % 2 ^ 64) }) j ≡ (among v j || eqb j i)
insert_high v i j l h =
    let w : Voters = record { lo = v.lo; hi = bit_or v.hi ((1 * 2 ^ (i - 64)) % 2 ^ 64) } in
    ⊎_elim
    (λ k. among-low w j k ∙ sym (among-low v j k) ∙ apart i j (λ q. omega arith) (among v j))
    (λ k.
    among-high w j k ∙ bit-set v.hi (i - 64) (j - 64) (omega arith)
    ∙ ap₂ ◌||◌ (sym (among-high v j k)) (shifted i j l k))
    (lt_or_ge j 64)

-- ---- sums over the numbers below a bound

pub sum_same : (n : ℕ) (p q : ℕ → Bool) (f g : ℕ → ℕ) → ((i : ℕ) → i < n → p i ≡ q i) → ((i : ℕ) → i < n → f i ≡ g i) → sum_below n p f ≡ sum_below n q g
unfolding sum_below
sum_same zero p q f g h l = refl
sum_same (suc n) p q f g h l =
    ap₂ ◌+◌ (sum_same n p q f g (λ i k. h i (omega arith)) (λ i k. l i (omega arith))) (ap₂ (λ (b : Bool) (x : ℕ). cond b x 0) (h n (omega arith)) (l n (omega arith)))

pub sum_first : (n : ℕ) (p : ℕ → Bool) (f : ℕ → ℕ) → sum_below (suc n) p f ≡ cond (p 0) (f 0) 0 + sum_below n (λ i. p (suc i)) (λ i. f (suc i))
unfolding sum_below
sum_first zero p f = omega arith
sum_first (suc n) p f = omega (arith, sum_first n p f)

pub sum-append : (n k : ℕ) (p : ℕ → Bool) (f : ℕ → ℕ) → sum_below (n + k) p f ≡ sum_below n p f + sum_below k (λ i. p (n + i)) (λ i. f (n + i))
unfolding sum_below
sum-append n zero p f = omega (arith, ap (λ (x : ℕ). sum_below x p f) (let e : n + 0 ≡ n = omega arith in e))
sum-append n (suc k) p f = ap (λ (x : ℕ). sum_below x p f) (add-suc n k) ∙ omega (arith, sum-append n k p f)

cond_le : (b : Bool) {x y : ℕ} → x ≤ y → cond b x 0 ≤ y
cond_le true h = h
cond_le false h = omega arith

pub sum_bound : (n b : ℕ) (p : ℕ → Bool) (f : ℕ → ℕ) → ((i : ℕ) → i < n → f i ≤ b) → sum_below n p f ≤ n * b
unfolding sum_below
sum_bound zero b p f h = omega arith
sum_bound (suc n) b p f h = omega (arith, sum_bound n b p f (λ i l. h i (omega arith)), cond_le (p n) (h n (omega arith)), suc-mul n b)

-- ---- the number of set bits

digit : (n : ℕ) → n % 2 ≡ cond (bit n 0) 1 0
digit n = go (n % 2) refl (omega arith) ∙ ap (λ (b : Bool). cond b 1 0) (sym (bit-zero n))
  where
    go : (d : ℕ) → n % 2 ≡ d → d < 2 → n % 2 ≡ cond (eqb (n % 2) 1) 1 0
    go zero e h = rw e
    go (suc zero) e h = rw e
    go (suc (suc d)) e h = absurd (omega arith)

ones_count : (k n : ℕ) → n < 2 ^ k → ones n ≡ count_below k (bit n)
unfolding sum_below ones
ones_count zero n h = ap ones (let e : n ≡ 0 = omega arith in e)
ones_count (suc k) n h =
    ones_step n
    ∙ ap₂ ◌+◌ (digit n) (ones_count k (n / 2) (omega (arith, pow-succ' 2 k)) ∙ sum_same k _ _ _ _ (λ i l. sym (bit-next n i)) (λ i l. refl))
    ∙ sym (sum_first k (bit n) (λ i. 1))

pub number_law : (v : Voters) → v.lo < 2 ^ 64 → v.hi < 2 ^ 64 → ones v.lo + ones v.hi ≡ count_below 128 (among v)
number_law v h l =
    ap₂ ◌+◌
    (ones_count 64 v.lo h ∙ sum_same 64 _ _ _ _ (λ i k. sym (among-low v i k)) (λ i k. refl))
    (ones_count 64 v.hi l ∙ sum_same 64 _ _ _ _ (λ i k. sym (among-high v (64 + i) (omega arith) ∙ ap (bit v.hi) (let e : 64 + i - 64 ≡ i = omega arith in e))) (λ i k. refl))
    ∙ sym (sum-append 64 64 (among v) (λ i. 1))

-- ---- a loop that sums: before the first turn, a turn that adds, a turn that does not, after the last

module _ (p : ℕ → Bool) (f : ℕ → ℕ) where
  pub sum-none : 0 ≡ sum_below 0 p f
  unfolding sum_below
  sum-none = refl

  sum-next : (b : Bool) {i s : ℕ} → p i ≡ b → s ≡ sum_below i p f → s + cond b (f i) 0 ≡ sum_below (i + 1) p f
  unfolding sum_below
  sum-next b {i} {s} e so = rw (add-one, e, so)

  pub sum_with : {i s : ℕ} → p i ≡ true → s ≡ sum_below i p f → s + f i ≡ sum_below (i + 1) p f
  sum_with e so = sum-next true e so

  pub sum_without : {i s : ℕ} → p i ≡ false → s ≡ sum_below i p f → s ≡ sum_below (i + 1) p f
  sum_without {i} {s} e so = (let z : s ≡ s + 0 = omega arith in z) ∙ sum-next false e so

pub among_none : (i : ℕ) → among (record { lo = 0; hi = 0 }) i ≡ false
among_none i =
    let v : Voters = record { lo = 0; hi = 0 } in
    ⊎_elim (λ h. among-low v i h ∙ bit-none i) (λ h. among-high v i h ∙ bit-none (i - 64)) (lt_or_ge i 64)

-- a word of set bits
bit-all : (k i : ℕ) → i < k → bit (2 ^ k - 1) i ≡ true
bit-all zero i h = absurd (omega arith)
bit-all (suc k) zero h =
    bit-zero (2 ^ suc k - 1) ∙ ap (λ (x : ℕ). eqb x 1) (let e : (2 ^ suc k - 1) % 2 ≡ 1 = omega (arith, pow-succ' 2 k, pow_pos k) in e)
bit-all (suc k) (suc i) h =
    bit-next (2 ^ suc k - 1) i ∙ ap (λ (x : ℕ). bit x i) (let e : (2 ^ suc k - 1) / 2 ≡ 2 ^ k - 1 = omega (arith, pow-succ' 2 k, pow_pos k) in e) ∙ bit-all k i (omega arith)

pub all_among : (i : ℕ) → i < 128 → among (record { lo = 18446744073709551615; hi = 18446744073709551615 }) i ≡ true
all_among i h =
    let v : Voters = record { lo = 18446744073709551615; hi = 18446744073709551615 } in
    ⊎_elim (λ l. among-low v i l ∙ bit-all 64 i l) (λ l. among-high v i l ∙ bit-all 64 (i - 64) (omega arith)) (lt_or_ge i 64)
