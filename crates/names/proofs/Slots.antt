-- The slots of the names passed are marked: a name whose slot is not marked is none of them.
use Prim.Native.Nat.{ℕ, ◌+◌, ◌*◌, ◌%◌, ◌<◌}
use native.Mathlib.Omega.{arith}
use mathlib.Core.Path.{◌≡◌, sym, ap, ◌∙◌}
use mathlib.Core.Logic.{⊎_elim}
use mathlib.Core.List.{List}
use mathlib.Core.Bool.{Bool, true, false}
use borrow.Author.Count.{below_more}
use borrow.Author.Tests.{eqb-true, eqb-false}
use lib.Dec.{eqb}
use lib.ListN.{length, get_or, set, replicate, length-set, length-replicate}
use lib.Seq.{get_or-set_same, get_or-set_other}
use Rattle.model.specs.Bytes.{part}
use Rattle.model.specs.Lists.{any_below, same_bytes}
use Rattle.model.proofs.Lists.{Below, below-found, clash, decided, not_so, same_eq}
use Rattle.wire.specs.Words.{le_of}
use Rattle.names.specs.Slots.{slots, pair_at, slot_of}
use Rattle.names.proofs.Words.{word_of}

-- the slot, by the words of the name at an offset
pub slot_is : (l : List ℕ) (at : ℕ) {a b c d : ℕ}
    → a ≡ le_of (part at 8 l)
    → b ≡ le_of (part (at + 8) 8 l)
    → c ≡ le_of (part (at + 16) 8 l)
    → d ≡ le_of (part (at + 24) 8 l)
    → (a % slots + b % slots * 1286 + (c % slots + d % slots * 1286) * 1238) % slots ≡ slot_of (part at 32 l)
unfolding slot_of pair_at
slot_is l at ea eb ec ed =
    rw (
      ea ∙ ap (λ (n : ℕ). le_of (part n 8 l)) (let e : at ≡ at + 0 = omega arith in e) ∙ word_of l at 0 (omega arith),
      eb ∙ word_of l at 8 (omega arith),
      ec ∙ word_of l at 16 (omega arith),
      ed ∙ word_of l at 24 (omega arith),
    )

module _ (names : List ℕ) where
  -- the slot of the name at a place
  abbrev slot_at : ℕ → ℕ
  slot_at i = slot_of (part (i * 32) 32 names)

  -- whether the names at two places are the same
  abbrev same : ℕ → ℕ → Bool
  same i j = same_bytes (part (i * 32) 32 names) (part (j * 32) 32 names)

  -- the slot of each of the first j names is marked
  pub record Marked (marks : List Bool) (j : ℕ) : Type 0 where
    pub long : length marks ≡ slots
    pub each : (i : ℕ) → i < j → get_or marks (slot_at i) false ≡ true

  pub marked-none : Marked (replicate slots false) 0
  marked-none = record { long = length-replicate slots false; each = λ i h. absurd (omega arith) }

  pub marked_more : {marks : List Bool} (j k : ℕ)
      → k ≡ slot_at j
      → k < slots
      → Marked marks j
      → Marked (set marks k true) (j + 1)
  marked_more {marks} j k e inside so =
      record {
        long = length-set marks k true ∙ so.long;
        each = below_more
            (λ i. marked (slot_at i))
            j
            (λ i h. still (slot_at i) (so.each i h))
            (ap (λ (n : ℕ). get_or (set marks k true) n false) (sym e) ∙ here);
      }
    where
      marked : ℕ → Type 0
      marked n = get_or (set marks k true) n false ≡ true

      here : marked k
      here = get_or-set_same marks k true false (omega (arith, so.long))

      still : (n : ℕ) → get_or marks n false ≡ true → marked n
      still n old = ⊎_elim
          (λ q. ap (λ (x : ℕ). get_or (set marks k true) x false) (eqb-true n k q) ∙ here)
          (λ q. get_or-set_other marks k n true false (eqb-false n k q) ∙ old)
          (decided (eqb n k))

  -- a name whose slot is not marked is none of those before it
  pub new-name : {marks : List Bool} (j k : ℕ)
      → k ≡ slot_at j
      → get_or marks k false ≡ false
      → Marked marks j
      → any_below j (λ i. same i j) ≡ false
  new-name {marks} j k e free so = not_so (λ t. held (below-found j (λ i. same i j) t))
    where
      held : Below j (λ i. same i j) → ⊥
      held b =
          let equal = same_eq (part (b.at * 32) 32 names) (part (j * 32) 32 names) b.passes in
          clash
          (sym (ap (λ (l : List ℕ). get_or marks (slot_of l) false) equal) ∙ so.each b.at b.inside)
          (ap (λ (n : ℕ). get_or marks n false) (sym e) ∙ free)
