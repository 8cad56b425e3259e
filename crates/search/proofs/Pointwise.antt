-- The searches ask for no more than what the test says of each element: for a caller that has the same test of another list.
use Prim.Native.Nat.{ℕ, zero, suc, ◌<◌, ◌≤◌}
use native.Mathlib.Omega.{arith}
use mathlib.Core.Path.{◌≡◌, refl, sym, ap, ap₂, ◌∙◌}
use mathlib.Core.Bool.{Bool, true, false, ◌&&◌, ◌||◌, not}
use mathlib.Core.List.{List}
use lib.ListN.{length, take, get_or}
use lib.Seq.{get_or-take, length-take-le}
use Rattle.model.specs.Lists.{any_below, all_below, pair_below}

pub any_same : (n : ℕ) (p q : ℕ → Bool) → ((i : ℕ) → i < n → p i ≡ q i) → any_below n p ≡ any_below n q
unfolding any_below
any_same zero p q e = refl
any_same (suc n) p q e = ap₂ ◌||◌ (any_same n p q (λ i h. e i (omega arith))) (e n (omega arith))

-- all pass exactly when none fails
pub all_any : (n : ℕ) (p : ℕ → Bool) → all_below n p ≡ not (any_below n (λ i. not (p i)))
unfolding all_below any_below
all_any zero p = refl
all_any (suc n) p = rw (all_any n p) (neither (any_below n (λ i. not (p i))) (p n))
  where
    neither : (a b : Bool) → (not a && b) ≡ not (a || not b)
    neither true b = refl
    neither false true = refl
    neither false false = refl

pub all_same : (n : ℕ) (p q : ℕ → Bool) → ((i : ℕ) → i < n → p i ≡ q i) → all_below n p ≡ all_below n q
all_same n p q e = all_any n p ∙ ap not (any_same n (λ i. not (p i)) (λ i. not (q i)) (λ i h. ap not (e i h))) ∙ sym (all_any n q)

pub pair_same : (n : ℕ) (p q : ℕ → ℕ → Bool) → ((i j : ℕ) → i < j → j < n → p i j ≡ q i j) → pair_below n p ≡ pair_below n q
unfolding pair_below
pair_same n p q e =
    any_same n (λ j. any_below j (λ i. p i j)) (λ j. any_below j (λ i. q i j)) (λ j h. any_same j (λ i. p i j) (λ i. q i j) (λ i l. e i j l h))

-- ---- the first n elements of a list, lent as a slice

pub any_taken : (n : ℕ) (xs : List ℕ) (p : ℕ → Bool) → n ≤ length xs → any_below (length (take n xs)) (λ i. p (get_or (take n xs) i 0)) ≡ any_below n (λ i. p (get_or xs i 0))
any_taken n xs p h =
    ap (λ (k : ℕ). any_below k (λ i. p (get_or (take n xs) i 0))) (length-take-le n xs h)
    ∙ any_same n (λ i. p (get_or (take n xs) i 0)) (λ i. p (get_or xs i 0)) (λ i l. ap p (get_or-take n xs i 0 l))

pub pair_taken : (n : ℕ) (xs : List ℕ) (p : ℕ → ℕ → Bool) → n ≤ length xs → pair_below (length (take n xs)) (λ i j. p (get_or (take n xs) i 0) (get_or (take n xs) j 0)) ≡ pair_below n (λ i j. p (get_or xs i 0) (get_or xs j 0))
pair_taken n xs p h =
    ap (λ (k : ℕ). pair_below k (λ i j. p (get_or (take n xs) i 0) (get_or (take n xs) j 0))) (length-take-le n xs h)
    ∙ pair_same n (λ i j. p (get_or (take n xs) i 0) (get_or (take n xs) j 0)) (λ i j. p (get_or xs i 0) (get_or xs j 0)) (λ i j l m. ap₂ p (get_or-take n xs i 0 (omega arith)) (get_or-take n xs j 0 m))
