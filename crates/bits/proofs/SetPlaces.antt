-- The places of a bundle's set bits, one place after the other: what a loop over the places has passed.
use Prim.Native.Nat.{ℕ, zero, suc, ◌+◌, ◌/◌, ◌<◌, ◌≤◌}
use native.Mathlib.Omega.{arith}
use native.Mathlib.Numerals.{add-one}
use mathlib.Core.Path.{◌≡◌, refl, sym, ap, ap₂, ◌∙◌}
use mathlib.Core.List.{List, [], ◌∷◌, ◌++◌, append-nil}
use mathlib.Core.Logic.{⊎_elim}
use mathlib.Core.Bool.{Bool, true, false, cond, ◌&&◌, ◌||◌, and-false}
use borrow.Author.Tests.{lt-leb}
use lib.Dec.{leb}
use lib.ListN.{length, drop, get_or, length-append}
use lib.Seq.{get_or-take, get_or-drop}
use Rattle.model.specs.Bits.{bit_set}
use Rattle.model.specs.Bytes.{part}
use Rattle.model.specs.Lists.{any, concat_below}
use Rattle.model.proofs.Lists.{or_left, or_right, or_nothing, both, lt_or_ge, any_append}

-- the byte that has the bit
pub byte_of : (s : List ℕ) (at p : ℕ) → p < 128 → get_or (part at 16 s) (p / 8) 0 ≡ get_or s (at + p / 8) 0
byte_of s at p h = get_or-take 16 (drop at s) (p / 8) 0 (omega arith) ∙ get_or-drop at s (p / 8) 0

-- the places below n whose bits are set
abbrev pub set_below : List ℕ → ℕ → List ℕ
set_below bits n = concat_below n (λ p. cond (bit_set bits p) (p ∷ []) [])

module _ (bits : List ℕ) (p : ℕ) where
  pub one_more : bit_set bits p ≡ true → set_below bits (p + 1) ≡ set_below bits p ++ p ∷ []
  unfolding concat_below
  one_more e = rw (add-one, e)

  pub none_more : bit_set bits p ≡ false → set_below bits (p + 1) ≡ set_below bits p ++ []
  unfolding concat_below
  none_more e = rw (add-one, e)

  -- what some place says, with one place more
  pub any-more : (q : ℕ → Bool) {hit : Bool} {b : Bool} → hit ≡ any q (set_below bits p) → b ≡ bit_set bits p
      → (hit || (b && q p)) ≡ any q (set_below bits (p + 1))
  any-more q {hit} {b} e here = go (bit_set bits p) refl
    where
      go : (c : Bool) → bit_set bits p ≡ c → (hit || (b && q p)) ≡ any q (set_below bits (p + 1))
      go true t =
          ap₂ (λ (x y : Bool). x || (y && q p)) e (here ∙ t)
          ∙ sym (any_append q 0 (set_below bits p) p)
          ∙ ap (any q) (sym (one_more t))
      go false t =
          ap₂ (λ (x y : Bool). x || (y && q p)) e (here ∙ t)
          ∙ or_nothing (any q (set_below bits p))
          ∙ ap (any q) (sym (none_more t ∙ append-nil (set_below bits p)))

  -- and how many there are
  pub length_more : {n : ℕ} → n ≡ length (set_below bits p) → bit_set bits p ≡ true → n + 1 ≡ length (set_below bits (p + 1))
  length_more e here = omega (arith, e, ap length (one_more here), length-append (set_below bits p) (p ∷ []))

  pub length-same : {n : ℕ} → n ≡ length (set_below bits p) → bit_set bits p ≡ false → n ≡ length (set_below bits (p + 1))
  length-same e here = omega (arith, e, ap length (none_more here), length-append (set_below bits p) [])

-- a place whose bit is set is among them
pub among : (bits : List ℕ) (q : ℕ → Bool) (n p : ℕ) → p < n → bit_set bits p ≡ true → q p ≡ true → any q (set_below bits n) ≡ true
among bits q zero p h set e = absurd (omega arith)
among bits q (suc n) p h set e =
    let more : any q (set_below bits (suc n)) ≡ (any q (set_below bits n) || (bit_set bits n && q n)) =
    ap (λ (k : ℕ). any q (set_below bits k)) (omega arith) ∙ sym (any-more bits n q refl refl) in
    more
    ∙ ⊎_elim
    (λ l. or_left (any q (set_below bits n)) _ (among bits q n p l set e))
    (λ g.
    let same : p ≡ n = omega arith in
    or_right (any q (set_below bits n)) (bit_set bits n && q n)
    (both (ap (bit_set bits) (sym same) ∙ set) (ap q (sym same) ∙ e)))
    (lt_or_ge p n)

-- where no place from `from` on is set, none is among them
pub none_from : (bits : List ℕ) (from n : ℕ) → ((k : ℕ) → from ≤ k → k < n → bit_set bits k ≡ false) → any (leb from) (set_below bits n) ≡ false
unfolding concat_below any
none_from bits from zero none = refl
none_from bits from (suc n) none =
    ap (λ (k : ℕ). any (leb from) (set_below bits k)) (sym (add-one n))
    ∙ sym (any-more bits n (leb from) (sym (none_from bits from n (λ k l h. none k l (omega arith)))) refl)
    ∙ ⊎_elim
    (λ l. ap (λ (b : Bool). bit_set bits n && b) (lt-leb from n l) ∙ and-false (bit_set bits n))
    (λ l. ap (λ (b : Bool). b && leb from n) (none n l (omega arith)))
    (lt_or_ge n from)

-- of the places below n at most n are set
pub few-set : (bits : List ℕ) (n : ℕ) → length (set_below bits n) ≤ n
unfolding concat_below
few-set bits zero = omega arith
few-set bits (suc n) = go (few-set bits n) (bit_set bits n)
  where
    go : length (set_below bits n) ≤ n → (b : Bool) → length (set_below bits n ++ cond b (n ∷ []) []) ≤ suc n
    go few true = omega (arith, length-append (set_below bits n) (n ∷ []))
    go few false = omega (arith, length-append (set_below bits n) [])
