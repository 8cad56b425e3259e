-- A search from the first element on, over a list of any kind: no element that was passed passes the test, so the index of
-- the first that does is the number passed and its index in what remains.
use Prim.Native.Nat.{ℕ, suc, ◌+◌, ◌<◌, ◌≤◌}
use native.Mathlib.Omega.{arith}
use native.Mathlib.Numerals.{add-one}
use mathlib.Core.Path.{◌≡◌, ap}
use mathlib.Core.List.{List}
use mathlib.Core.Bool.{Bool, true, false, cond}
use lib.ListN.{length, drop, get_or, drop_of_length-le}
use lib.Seq.{drop-cons}
use Rattle.model.specs.Lists.{first_index}

-- the list's element at i is x; `d` stands past the end
pub record Element {A : Type 0} (d : A) (xs : List A) (i : ℕ) (x : A) : Type 0 where
  pub inside : i < length xs
  pub here : get_or xs i d ≡ x

-- the first i elements are passed
abbrev pub Passed : {A : Type 0} → (A → Bool) → List A → ℕ → Type 0
Passed p xs i = first_index p xs ≡ i + first_index p (drop i xs)

module _ {A : Type 0} (p : A → Bool) where
  pub passed_none : (xs : List A) → Passed p xs 0
  passed_none xs = omega arith

  first-at : (b : Bool) {d x : A} {xs : List A} {i : ℕ} → Element d xs i x → p x ≡ b → first_index p (drop i xs) ≡ cond b 0 (suc (first_index p (drop (i + 1) xs)))
  unfolding first_index
  first-at b {d} {x} {xs} {i} at e = rw (add-one, drop-cons xs i d at.inside, at.here, e)

  pub passed-more : {d x : A} {xs : List A} {i : ℕ} → Element d xs i x → p x ≡ false → Passed p xs i → Passed p xs (i + 1)
  passed-more at e so = omega (arith, first-at false at e)

  pub found_here : {d x : A} {xs : List A} {i : ℕ} → Element d xs i x → p x ≡ true → Passed p xs i → i ≡ first_index p xs
  found_here at e so = omega (arith, first-at true at e)

  pub found_none : (xs : List A) {n i : ℕ} → length xs ≡ n → n ≤ i → Passed p xs i → i ≡ first_index p xs
  unfolding first_index
  found_none xs {n} {i} long h so = omega (arith, ap (first_index p) (drop_of_length-le xs {i = i} (omega arith)))
