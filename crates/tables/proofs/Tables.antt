-- The held ids as a list: the one at an index, and how many there are.
use Prim.Native.Nat.{ℕ, suc, ◌<◌}
use native.Mathlib.Omega.{arith}
use mathlib.Core.Path.{◌≡◌, refl, sym, ap, ap₂}
use mathlib.Core.Logic.{⊎_elim}
use mathlib.Core.List.{List, [], ◌∷◌}
use mathlib.Core.Bool.{Bool, true, false, cond, ◌&&◌}
use borrow.Author.Tests.{ltb-true, ltb-false}
use lib.Dec.{ltb}
use lib.ListN.{length, get_or}
use Rattle.std.proofs.Common.{Option, Some, None, MatchOption, position}
use Rattle.std.specs.List.{list_all, position_or_len}
use Rattle.std.proofs.lemmas.List.Folds.{list_all_at}
use Rattle.std.proofs.lemmas.List.Recursion.{is_position_or_len}
use Rattle.model.specs.Lists.{all_below, first_index}
use Rattle.model.proofs.Lists.{first_le, all_true, true_all, clash, decided}
use Rattle.search.proofs.Below.{Elements, same_test}

pub ids_all : (l : List ℕ) → Elements 0 l (length l) (λ i. get_or l i 0)
ids_all l = record { many = refl; each = λ i h. record { inside = h; here = refl } }

-- the first index of the model is that of std
module _ {A : Type 0} (p : A → Bool) (d : A) (xs : List A) where
  first-is : first_index p xs ≡ position_or_len p xs
  unfolding first_index
  first-is = is_position_or_len (first_index p) p refl (λ x ys. ap (cond (p x) 0) (omega arith)) xs

  pub first-position : {r : Option ℕ}
      → r ≡ position p xs
      → MatchOption r (first_index p xs ≡ length xs) (λ i. (i ≡ first_index p xs) × (i < length xs))
  first-position {r} e = rw e (go (ltb (position_or_len p xs) (length xs)) refl)
    where
      go : (b : Bool)
          → ltb (position_or_len p xs) (length xs) ≡ b
          → MatchOption (cond b (Some (position_or_len p xs)) None) (first_index p xs ≡ length xs)
          (λ i. (i ≡ first_index p xs) × (i < length xs))
      go true t = (sym first-is, ltb-true (position_or_len p xs) (length xs) t)
      go false f = omega (arith, first-is, first_le p d xs, ltb-false (position_or_len p xs) (length xs) f)

-- std's test of each element is the model's of each index
module _ {A : Type 0} (p : A → Bool) (d : A) where
  each-all : (xs : List A) → ((i : ℕ) → i < length xs → p (get_or xs i d) ≡ true) → list_all p xs ≡ true
  each-all [] h = refl
  each-all (x ∷ xs) h = ap₂ ◌&&◌ (h 0 (omega arith)) (each-all xs (λ i l. h (suc i) (omega arith)))

  pub all-of : (xs : List A) → list_all p xs ≡ all_below (length xs) (λ i. p (get_or xs i d))
  all-of xs = same_test there back
    where
      there : list_all p xs ≡ true → all_below (length xs) (λ i. p (get_or xs i d)) ≡ true
      there e = true_all (length xs) (λ i. p (get_or xs i d))
          (λ i h. ⊎_elim (λ t. t) (λ f. clash e (list_all_at p xs i d h f)) (decided (p (get_or xs i d))))

      back : all_below (length xs) (λ i. p (get_or xs i d)) ≡ true → list_all p xs ≡ true
      back e = each-all xs (all_true (length xs) (λ i. p (get_or xs i d)) e)
