-- Votes as numbers: three parts, of which the lower two are below 65536, are one number, and the number has them all.
use Prim.Native.Nat.{ℕ, ◌<◌}
use native.Mathlib.Omega.{arith}
use mathlib.Core.Path.{◌≡◌}
use mathlib.Core.List.{List}
use mathlib.Core.Bool.{true, ◌&&◌}
use borrow.Author.Tests.{eq-eqb, eqb-true}
use lib.Dec.{eqb}
use lib.ListN.{get_or}
use Rattle.model.specs.declared.Place.{Place}
use Rattle.model.proofs.Lists.{both, and_left, and_right}
use Rattle.tables.specs.Keys.{pack, Packed}
use Rattle.tables.specs.Places.{place_at, is_vote}
use Rattle.search.proofs.Below.{same_test}

module _ (a b c x y z : ℕ) where
  pub same-pack : b < 65536 → c < 65536 → y < 65536 → z < 65536 → eqb (pack a b c) (pack x y z) ≡ (eqb a x && eqb b y && eqb c z)
  same-pack hb hc hy hz = same_test there back
    where
      there : eqb (pack a b c) (pack x y z) ≡ true → (eqb a x && eqb b y && eqb c z) ≡ true
      there h =
          let e : pack a b c ≡ pack x y z = eqb-true (pack a b c) (pack x y z) h in
          both (both (eq-eqb a x (omega arith)) (eq-eqb b y (omega arith))) (eq-eqb c z (omega arith))

      back : (eqb a x && eqb b y && eqb c z) ≡ true → eqb (pack a b c) (pack x y z) ≡ true
      back h =
          let high : (eqb a x && eqb b y) ≡ true = and_left (eqb a x && eqb b y) (eqb c z) h in
          eq-eqb (pack a b c) (pack x y z)
          (omega (arith, eqb-true a x (and_left (eqb a x) (eqb b y) high), eqb-true b y (and_right (eqb a x) (eqb b y) high), eqb-true c z (and_right (eqb a x && eqb b y) (eqb c z) h)))

module _ (voters : List ℕ) (sources targets : List Place) where
  module _ {n : ℕ} {keys : List ℕ} (so : Packed voters sources targets n keys) where
    -- the same number is the same vote
    pub packed_is : (i id s t : ℕ) → i < n → s < 65536 → t < 65536 → eqb (get_or keys i 0) (pack id s t) ≡ is_vote voters sources targets id s t i
    packed_is i id s t h hs ht =
        rw (so.each i h) (same-pack (get_or voters i 0) (place_at sources i) (place_at targets i) id s t (so.narrow i h).0 (so.narrow i h).1 hs ht)

    pub packed_same : (i j : ℕ) → i < n → j < n → eqb (get_or keys i 0) (get_or keys j 0) ≡ is_vote voters sources targets (get_or voters j 0) (place_at sources j) (place_at targets j) i
    packed_same i j hi hj =
        rw (so.each j hj) (packed_is i (get_or voters j 0) (place_at sources j) (place_at targets j) hi (so.narrow j hj).0 (so.narrow j hj).1)
