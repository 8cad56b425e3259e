-- Loops over the numbers below a bound, that ask whether some number passes a test, whether some two do, or whether all do.
use Prim.Native.Nat.{ℕ, zero, suc, ◌+◌, ◌<◌, ◌≤◌}
use native.Mathlib.Omega.{arith}
use native.Mathlib.Numerals.{add-one}
use mathlib.Core.Path.{◌≡◌, refl, sym, ap, ◌∙◌}
use mathlib.Core.List.{List}
use mathlib.Core.Logic.{⊎_elim}
use mathlib.Core.Bool.{Bool, true, false, ◌&&◌, ◌||◌, and-false, or-false, or_assoc}
use borrow.Author.Tests.{ltb-true, lt-ltb}
use lib.Dec.{ltb}
use lib.ListN.{length}
use Rattle.model.specs.Lists.{any_below, all_below, pair_below, first_index}
use Rattle.model.proofs.Lists.{and_left, Below, below-found, found_below, first_least, first_passes, lt_or_ge, decided, clash}
use Rattle.search.proofs.Search.{Element}

-- ---- before the first turn

pub any_none : (b : Bool) (p : ℕ → Bool) → b ≡ (b || any_below 0 p)
unfolding any_below
any_none b p = sym (or-false b)

pub all_none : (p : ℕ → Bool) → true ≡ all_below 0 p
unfolding all_below
all_none p = refl

pub pair-none : (same : ℕ → ℕ → Bool) → false ≡ pair_below 0 same
unfolding pair_below
pair-none same = any_none false (λ j. any_below j (λ i. same i j))

-- ---- one turn more

-- `hit` says whether b, or the test of some number below i, is true; so it does with the number i
pub any-more : (b : Bool) (i : ℕ) (p : ℕ → Bool) {hit : Bool} → hit ≡ (b || any_below i p) → (hit || p i) ≡ (b || any_below (i + 1) p)
unfolding any_below
any-more b i p so = rw (so, add-one, or_assoc)

-- `ok` says whether every number below i passes; so it does with the number i
pub all_more : (i : ℕ) (p : ℕ → Bool) {ok x : Bool} → ok ≡ all_below i p → x ≡ p i → (ok && x) ≡ all_below (i + 1) p
unfolding all_below
all_more i p so e = rw (so, e, add-one)

-- some two below j, or one below j together with j: some two below j + 1
pub pair-more : (j : ℕ) (same : ℕ → ℕ → Bool) {hit here : Bool} → hit ≡ pair_below j same → here ≡ any_below j (λ i. same i j) → (hit || here) ≡ pair_below (j + 1) same
unfolding pair_below any_below
pair-more j same so e = rw (add-one, so, e)

-- ---- a way out before the last turn

-- what fails at i fails of all, where i is below the bound
pub all-fails : (n i : ℕ) (p : ℕ → Bool) → i < n → p i ≡ false → false ≡ all_below n p
unfolding all_below
all-fails zero i p h e = absurd (omega arith)
all-fails (suc n) i p h e =
    ⊎_elim (λ l. rw (← all-fails n i p l e)) (λ l. let q : n ≡ i = omega arith in rw (q, e, and-false)) (lt_or_ge i n)

-- what all below n pass, each of them passes
pub all-each : (n : ℕ) (p : ℕ → Bool) → true ≡ all_below n p → (i : ℕ) → i < n → p i ≡ true
all-each n p e i h = ⊎_elim (λ t. t) (λ f. clash (sym e) (sym (all-fails n i p h f))) (decided (p i))

-- what all below n pass, all below fewer pass
pub all_fewer : (m n : ℕ) (p : ℕ → Bool) → m ≤ n → true ≡ all_below n p → true ≡ all_below m p
unfolding all_below
all_fewer m zero p h e = let q : m ≡ 0 = omega arith in rw q e
all_fewer m (suc n) p h e =
    ⊎_elim
    (λ l. all_fewer m n p (omega arith) (sym (and_left (all_below n p) (p n) (sym e))))
    (λ l. let q : m ≡ suc n = omega arith in rw q e)
    (lt_or_ge m (suc n))

-- ---- a search says whether some element passes

pub same_test : {a b : Bool} → (a ≡ true → b ≡ true) → (b ≡ true → a ≡ true) → a ≡ b
same_test {a} {b} f g = go a b f g
  where
    go : (x y : Bool) → (x ≡ true → y ≡ true) → (y ≡ true → x ≡ true) → x ≡ y
    go true true f g = refl
    go true false f g = sym (f refl)
    go false true f g = g refl
    go false false f g = refl

-- the n elements of a list are f 0, f 1, ..
pub record Elements {A : Type 0} (d : A) (xs : List A) (n : ℕ) (f : ℕ → A) : Type 0 where
  pub many : length xs ≡ n
  pub each : (i : ℕ) → i < n → Element d xs i (f i)

pub found_among : {A : Type 0} (p : A → Bool) {d : A} {xs : List A} {n r : ℕ} {f : ℕ → A} → Elements d xs n f → r ≡ first_index p xs → ltb r n ≡ any_below n (λ i. p (f i))
found_among p {d} {xs} {n} {r} {f} els e = same_test there back
  where
    there : ltb r n ≡ true → any_below n (λ i. p (f i)) ≡ true
    there h =
        let l : first_index p xs < n = omega (arith, ltb-true r n h) in
        found_below n (λ i. p (f i)) (first_index p xs) l (ap p (sym (els.each (first_index p xs) l).here) ∙ first_passes p d xs (omega (arith, els.many)))

    back : any_below n (λ i. p (f i)) ≡ true → ltb r n ≡ true
    back h = lt-ltb r n (below (below-found n (λ i. p (f i)) h))
      where
        below : Below n (λ i. p (f i)) → r < n
        below b = omega (arith, b.inside, first_least p d xs b.at (ap p (els.each b.at b.inside).here ∙ b.passes))
