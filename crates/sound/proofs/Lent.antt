-- Row 40's parts, asked of the entries that are lent, are those asked of the whole arrays.
use Prim.Native.Nat.{ℕ, ◌*◌, ◌<◌, ◌≤◌}
use native.Mathlib.Omega.{arith}
use mathlib.Core.Path.{◌≡◌, ap, ap₂}
use mathlib.Core.List.{List}
use mathlib.Core.Bool.{Bool, ◌&&◌, not}
use lib.Dec.{eqb, ltb, leb}
use lib.ListN.{length, take, get_or}
use lib.Seq.{get_or-take, length-take-le}
use Rattle.model.specs.Bytes.{part}
use Rattle.model.specs.Limits.{bond_limit, root_height_limit}
use Rattle.model.specs.Lists.{pair_below, same_bytes}
use Rattle.model.specs.declared.Height.{Height}
use Rattle.model.specs.declared.Place.{Place}
use Rattle.search.proofs.Pointwise.{all_same, pair_same}
use Rattle.tables.specs.Places.{place_at}
use Rattle.tables.proofs.Taken.{place-taken, height-taken, steps-taken, sound-taken}
use Rattle.sound.specs.Parts.{members_pass, tree_passes, votes_pass}

pub members-lent : (n : ℕ) (ids bonds : List ℕ)
    → n ≤ length ids
    → members_pass (take n ids) (take n bonds) (length (take n ids)) ≡ members_pass ids bonds n
members-lent n ids bonds fit =
    rw (length-take-le n ids fit)
    (ap₂ (λ (a b : Bool). a && not b)
    (all_same n _ _ (λ i h. ap (λ (x : ℕ). ltb 0 x && leb x bond_limit) (get_or-take n bonds i 0 h)))
    (pair_same n _ _ (λ i j h l. ap₂ eqb (get_or-take n ids i 0 (omega arith)) (get_or-take n ids j 0 l))))

pub tree-lent : (n : ℕ) (names : List ℕ) (parents : List Place) (heights : List Height)
    → 0 < n
    → n ≤ length parents
    → tree_passes names (take n parents) (take n heights) (length (take n parents))
    ≡ tree_passes names parents heights n
tree-lent n names parents heights rooted fit =
    rw (length-take-le n parents fit)
    (ap₂ (λ (x : ℕ) (b : Bool). leb x root_height_limit && b && not (pair_below n (λ i j. same_bytes (part (i * 32) 32 names) (part (j * 32) 32 names))))
    (height-taken n heights 0 rooted) (steps-taken n parents heights))

module _ (m : ℕ) (ids : List ℕ) (c : ℕ) (parents : List Place) (n : ℕ) (voters : List ℕ) (sources targets : List Place) where
  pub votes-lent : m ≤ length ids
      → c ≤ length parents
      → n ≤ length voters
      → votes_pass (take m ids) (length (take m ids)) (take c parents) (length (take c parents))
      (take n voters) (take n sources) (take n targets) (length (take n voters))
      ≡ votes_pass ids m parents c voters sources targets n
  votes-lent members checkpoints votes =
      rw (length-take-le m ids members, length-take-le c parents checkpoints, length-take-le n voters votes)
      (ap₂ (λ (a b : Bool). a && not b)
      (all_same n _ _ (λ k h.
      rw (get_or-take n voters k 0 h, place-taken n sources k h, place-taken n targets k h)
      (sound-taken m c ids parents (get_or voters k 0) (place_at sources k) (place_at targets k))))
      (pair_same n _ _ (λ i j h l.
      let k : i < n = omega arith in
      rw (
        get_or-take n voters i 0 k,
        get_or-take n voters j 0 l,
        place-taken n sources i k,
        place-taken n sources j l,
        place-taken n targets i k,
        place-taken n targets j l,
      ))))
