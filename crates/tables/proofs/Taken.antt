-- Tables of which the first n entries are lent: what is said of these is said of the whole tables, up to n.
use Prim.Native.Nat.{ℕ, ◌+◌, ◌<◌, ◌≤◌}
use native.Mathlib.Omega.{arith}
use mathlib.Core.Path.{◌≡◌, refl, sym, ap, ◌∙◌}
use mathlib.Core.List.{List, []}
use mathlib.Core.Bool.{Bool, true, false, ◌&&◌, ◌||◌}
use borrow.Author.Tests.{ltb-true}
use lib.Dec.{eqb, ltb}
use lib.ListN.{length, take}
use lib.Seq.{get_or-take, length-take-le, take-take}
use Rattle.model.specs.declared.Height.{Height}
use Rattle.model.specs.declared.Place.{Place}
use Rattle.model.specs.Lists.{all_below}
use Rattle.model.specs.Tree.{ancestor?}
use Rattle.search.proofs.Pointwise.{all_same}
use Rattle.tables.specs.Keys.{Packed}
use Rattle.tables.specs.Places.{Falling, place_at, height_at, tree_of, is_step, is_sound}
use Rattle.tables.proofs.Ancestry.{tree-tabulate}

module _ (n : ℕ) where
  pub place-taken : (ps : List Place) (i : ℕ) → i < n → place_at (take n ps) i ≡ place_at ps i
  place-taken ps i h = ap (λ (p : Place). p.0) (get_or-take n ps i (record { 0 = 0 }) h)

  pub height-taken : (hs : List Height) (i : ℕ) → i < n → height_at (take n hs) i ≡ height_at hs i
  height-taken hs i h = ap (λ (x : Height). x.0) (get_or-take n hs i (record { 0 = 0 }) h)

  -- ---- the tree

  module _ (ps : List Place) where
    pub falling-taken : Falling n ps → Falling n (take n ps)
    falling-taken falling i later inside = omega (arith, place-taken ps i inside, falling i later inside)

    pub ancestor-taken : (s t : ℕ) → ancestor? (tree_of n (take n ps)) s t ≡ ancestor? (tree_of n ps) s t
    unfolding tree_of
    ancestor-taken s t =
        tree-tabulate n (take n ps) (λ i. record { name = []; parent = place_at ps i; height = 0 })
        (λ i h. sym (place-taken ps i h)) s t

    step-taken : (hs : List Height) (i : ℕ) → i < n → is_step (take n ps) (take n hs) i ≡ is_step ps hs i
    step-taken hs i h = ap (λ (b : Bool). eqb i 0 || b) (rw (place-taken ps i h, height-taken hs i h) (go (ltb p i) refl))
      where
        p : ℕ
        p = place_at ps i

        go : (b : Bool)
            → ltb p i ≡ b
            → (ltb p i && eqb (height_at hs i) (height_at (take n hs) p + 1))
            ≡ (ltb p i && eqb (height_at hs i) (height_at hs p + 1))
        go true e =
            ap (λ (x : ℕ). ltb p i && eqb (height_at hs i) (x + 1))
            (height-taken hs p (omega (arith, ltb-true p i e)))
        go false e = rw e refl

    pub steps-taken : (hs : List Height)
        → all_below n (λ i. is_step (take n ps) (take n hs) i) ≡ all_below n (λ i. is_step ps hs i)
    steps-taken hs = all_same n _ _ (step-taken hs)

  -- ---- the votes

  pub packed-taken : {voters : List ℕ} {sources targets : List Place} {keys : List ℕ}
      → n ≤ length voters
      → Packed (take n voters) (take n sources) (take n targets) (length (take n voters)) keys
      → Packed voters sources targets n keys
  packed-taken {voters} {sources} {targets} {keys} fit so = record {
    long = so.long;
    each = λ i h. so.each i (omega (arith, long)) ∙ rw (get_or-take n voters i 0 h, place-taken sources i h, place-taken targets i h);
    narrow = λ i h.
        let both = so.narrow i (omega (arith, long)) in
        (omega (arith, both.0, place-taken sources i h), omega (arith, both.1, place-taken targets i h));
  }
    where
      long : length (take n voters) ≡ n
      long = length-take-le n voters fit

-- a vote is sound by the first of the ids and of the parents
pub sound-taken : (m n : ℕ) (ids : List ℕ) (ps : List Place) (id s t : ℕ)
    → is_sound m (take m ids) n (take n ps) id s t ≡ is_sound m ids n ps id s t
sound-taken m n ids ps id s t = rw (take-take m m ids (omega arith), ancestor-taken n ps s t)
