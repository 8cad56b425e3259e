-- One step of the tree, from a checkpoint to its parent: the test of it.
use Prim.Native.Nat.{ℕ, ◌+◌, ◌<◌, ◌≤◌}
use native.Mathlib.Omega.{arith}
use mathlib.Core.Path.{◌≡◌, refl}
use mathlib.Core.Logic.{⊎_elim}
use mathlib.Core.List.{List}
use mathlib.Core.Bool.{true, false, and-false, or-true}
use borrow.Author.Tests.{eq-eqb, ne_eqb, lt-ltb, le-ltb, eqb-true, ltb-true}
use lib.Dec.{eqb, ltb}
use Rattle.model.specs.declared.Place.{Place}
use Rattle.model.specs.declared.Height.{Height}
use Rattle.model.specs.Lists.{all_below}
use Rattle.model.proofs.Lists.{and_left, or_cases}
use Rattle.tables.specs.Places.{place_at, height_at, is_step, Falling}
use Rattle.search.proofs.Below.{all-each}

module _ (ps : List Place) (hs : List Height) where
  -- the root takes no step
  pub root-sound : true ≡ all_below 1 (λ i. is_step ps hs i)
  unfolding all_below
  root-sound = refl

  pub not_smaller : {i : ℕ} → 0 < i → i ≤ place_at ps i → is_step ps hs i ≡ false
  not_smaller {i} later e = simp (ne_eqb i 0 (λ q. omega arith), le-ltb (place_at ps i) i e)

  pub not_higher : {i : ℕ} → 0 < i → (height_at hs i ≡ height_at hs (place_at ps i) + 1 → ⊥) → is_step ps hs i ≡ false
  not_higher {i} later e = simp (ne_eqb i 0 (λ q. omega arith), ne_eqb (height_at hs i) (height_at hs (place_at ps i) + 1) e, and-false)

  pub one_higher : {i : ℕ} → place_at ps i < i → height_at hs i ≡ height_at hs (place_at ps i) + 1 → is_step ps hs i ≡ true
  one_higher {i} smaller e =
      simp (lt-ltb (place_at ps i) i smaller, eq-eqb (height_at hs i) (height_at hs (place_at ps i) + 1) e, or-true)

  -- in a sound tree every parent is at a smaller place
  pub sound-falls : (n : ℕ) → true ≡ all_below n (λ i. is_step ps hs i) → Falling n ps
  sound-falls n e i later inside =
      ⊎_elim
      (λ q. absurd (omega (arith, eqb-true i 0 q)))
      (λ q. ltb-true (place_at ps i) i (and_left (ltb (place_at ps i) i) (eqb (height_at hs i) (height_at hs (place_at ps i) + 1)) q))
      (or_cases (eqb i 0) _ (all-each n (λ k. is_step ps hs k) e i inside))
