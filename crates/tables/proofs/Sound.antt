-- The test of a vote, at the two ways out: a target that is not held, and one that is.
use Prim.Native.Nat.{ℕ, ◌<◌, ◌≤◌}
use mathlib.Core.Path.{◌≡◌, refl}
use mathlib.Core.List.{List}
use mathlib.Core.Bool.{Bool, false, ◌&&◌, and-false, and-true}
use borrow.Author.Tests.{lt-ltb, le-ltb}
use lib.Dec.{eqb, ltb}
use lib.ListN.{length, get_or}
use lib.Seq.{take-length}
use Rattle.model.specs.declared.Place.{Place}
use Rattle.model.specs.Lists.{any_below}
use Rattle.model.specs.Tree.{ancestor?}
use Rattle.tables.specs.Places.{tree_of, is_sound}
use Rattle.search.proofs.Below.{found_among}
use Rattle.tables.proofs.Tables.{ids_all}

module _ (ids : List ℕ) (parents : List Place) (id s t : ℕ) where
  pub no_target : length parents ≤ t → false ≡ is_sound (length ids) ids (length parents) parents id s t
  no_target h = rw (le-ltb t (length parents) h, and-false)

  pub with_target : {held above : Bool}
      → t < length parents
      → held ≡ any_below (length ids) (λ i. eqb (get_or ids i 0) id)
      → above ≡ ancestor? (tree_of (length parents) parents) s t
      → (held && ltb s (length parents) && above) ≡ is_sound (length ids) ids (length parents) parents id s t
  with_target h among up =
      rw (lt-ltb t (length parents) h, and-true, among, take-length, found_among (λ x. eqb x id) (ids_all ids) refl, up)
