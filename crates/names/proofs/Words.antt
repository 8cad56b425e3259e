-- Names that differ in a word are not the same: a search may pass over them.
use Prim.Native.Nat.{ℕ, zero, suc, ◌+◌, ◌*◌, ◌-◌, ◌<◌, ◌≤◌}
use native.Mathlib.Omega.{arith}
use mathlib.Core.Path.{◌≡◌, refl, sym, ap, ◌∙◌, subst}
use mathlib.Core.List.{List, [], ◌∷◌}
use mathlib.Core.Bool.{Bool, false}
use borrow.Author.Count.{below_more}
use lib.ListN.{take, drop}
use lib.Seq.{drop-drop, take-take}
use Rattle.model.specs.Bytes.{part}
use Rattle.model.specs.Lists.{same_bytes}
use Rattle.model.proofs.Lists.{not_so, same_eq}
use Rattle.wire.specs.Words.{le_of}
use Rattle.names.specs.Rows.{rows}
use Rattle.search.proofs.Search.{Passed, passed-more}
use Rattle.names.proofs.Rows.{rows_at}

-- a part of the front of a list is a part of the list
part_of_front : (d n k : ℕ) (l : List ℕ) → d + k ≤ n → part d k (take n l) ≡ part d k l
part_of_front zero n k l h = take-take k n l (omega arith)
part_of_front (suc d) zero k l h = absurd (omega arith)
part_of_front (suc d) (suc n) k [] h = refl
part_of_front (suc d) (suc n) k (x ∷ l) h = part_of_front d n k l (omega arith)

-- the word at byte d of the name at an offset
pub word_of : (l : List ℕ) (at d : ℕ) → d + 8 ≤ 32 → le_of (part (at + d) 8 l) ≡ le_of (part d 8 (part at 32 l))
word_of l at d h = ap le_of (rw (part_of_front d 32 8 (drop at l) h, drop-drop d at l))

module _ (names s : List ℕ) (at : ℕ) where
  -- the name of s at `at` is the one looked for
  abbrev sought : List ℕ → Bool
  sought n = same_bytes n (part at 32 s)

  -- from place `from` on, no name before place n is the one
  abbrev pub Others : ℕ → ℕ → Type 0
  Others from n = (k : ℕ) → k < n → from ≤ k → sought (part (k * 32) 32 names) ≡ false

  -- the name at place k, which the table has at o, has another word at byte d
  pub other_word : (k d o : ℕ) {x y : ℕ}
      → d + 8 ≤ 32
      → o ≡ k * 32 + d
      → x ≡ le_of (part o 8 names)
      → y ≡ le_of (part (at + d) 8 s)
      → (x ≡ y → ⊥)
      → sought (part (k * 32) 32 names) ≡ false
  other_word k d o h e theirs ours differ = not_so (λ same.
      differ
      (theirs
      ∙ ap (λ (p : ℕ). le_of (part p 8 names)) e
      ∙ word_of names (k * 32) d h
      ∙ ap (λ (l : List ℕ). le_of (part d 8 l)) (same_eq (part (k * 32) 32 names) (part at 32 s) same)
      ∙ sym (ours ∙ word_of s at d h)))

  -- one place more
  pub others-more : {from n : ℕ} (i : ℕ)
      → n ≡ i + 1
      → sought (part (i * 32) 32 names) ≡ false
      → Others from i
      → Others from n
  others-more {from} i next here so =
      subst
      (Others from)
      (sym next)
      (below_more (λ k. from ≤ k → sought (part (k * 32) 32 names) ≡ false) i so (λ _. here))

  -- where the first `count` names are searched, i of them are passed
  abbrev pub NamesPassed : ℕ → ℕ → Type 0
  NamesPassed count i = Passed sought (rows count names) i

  -- the others are passed
  pub others-passed : (count from n : ℕ)
      → from ≤ n
      → n ≤ count
      → Others from n
      → NamesPassed count from
      → NamesPassed count n
  others-passed count from n low high others so =
      subst (NamesPassed count) (let e : from + (n - from) ≡ n = omega arith in e) (go (n - from) (omega arith))
    where
      go : (g : ℕ) → from + g ≤ n → NamesPassed count (from + g)
      go zero h = subst (NamesPassed count) (let e : from ≡ from + 0 = omega arith in e) so
      go (suc g) h =
          subst
          (NamesPassed count)
          (let e : from + g + 1 ≡ from + suc g = omega arith in e)
          (passed-more
          sought
          (rows_at count (from + g) names (omega arith))
          (others (from + g) (omega arith) (omega arith))
          (go g (omega arith)))
