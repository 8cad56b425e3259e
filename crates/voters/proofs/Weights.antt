-- What the members behind a link weigh: nobody weighs nothing, and nobody's sum is too large.
use Prim.Native.Nat.{ℕ, zero, suc, ◌*◌, ◌<◌, ◌≤◌}
use native.Mathlib.Omega.{arith}
use mathlib.Core.Path.{◌≡◌, refl, sym, ap, ◌∙◌}
use mathlib.Core.List.{List}
use mathlib.Core.Bool.{Bool, false, cond}
use mathlib.Core.Logic.{⊎_elim}
use lib.ListN.{length, get_or, take}
use lib.Seq.{length-take-le}
use Rattle.model.specs.Limits.{bond_limit}
use Rattle.model.proofs.Lists.{lt_or_ge}
use Rattle.voters.specs.declared.Voters.{Voters}
use Rattle.voters.specs.Bits.{nobody, among, sum_below}
use Rattle.voters.specs.declared.Bar.{Bar}
use Rattle.voters.specs.Weights.{Bonds, weight_of, enough, carried}
use Rattle.voters.proofs.Bits.{among_none, sum_bound, sum_same}
use Rattle.std.proofs.lemmas.List.{get_or-take}

pub sum-zero : (n : ℕ) (p : ℕ → Bool) (f : ℕ → ℕ) → ((i : ℕ) → i < n → p i ≡ false) → sum_below n p f ≡ 0
unfolding sum_below
sum-zero zero p f h = refl
sum-zero (suc n) p f h = omega (arith, sum-zero n p f (λ i l. h i (omega arith)), ap (λ (b : Bool). cond b (f n) 0) (h n (omega arith)))

module _ (bonds : List ℕ) (members : ℕ) where
  pub nobody_weighs : (v : Voters) → v.lo ≡ 0 → v.hi ≡ 0 → 0 ≡ weight_of bonds members v
  nobody_weighs v lo hi =
      let e : v ≡ nobody = λ i. record { lo = lo i; hi = hi i } in
      sym (ap (weight_of bonds members) e ∙ sum-zero members (among nobody) (λ i. get_or bonds i 0) (λ i h. among_none i))

  pub weight-bound : (v : Voters) {weight : ℕ}
      → Bonds bonds members → weight ≡ weight_of bonds members v → weight ≤ 128 * bond_limit
  weight-bound v h e = omega (arith, sum_bound members bond_limit (among v) (λ i. get_or bonds i 0) h.each, h.fit)

-- the first n bonds of an array, as a list of their own: they are sound, and sums over them are the array's
module _ (bonds : List ℕ) (n : ℕ) (h : Bonds bonds n) where
  first_long : length (take n bonds) ≡ n
  first_long = length-take-le n bonds h.long

  pub first_good : Bonds (take n bonds) (length (take n bonds))
  first_good = rw first_long (record {
    fit = h.fit;
    long = omega (arith, first_long);
    each = λ i l. rw (get_or-take n bonds i 0 l) (h.each i l);
  })

  pub sum_first_bonds : (p : ℕ → Bool)
      → sum_below (length (take n bonds)) p (λ i. get_or (take n bonds) i 0) ≡ sum_below n p (λ i. get_or bonds i 0)
  sum_first_bonds p = rw first_long (sum_same n p p _ _ (λ i l. refl) (λ i l. get_or-take n bonds i 0 l))

  pub weight-first : (v : Voters) → weight_of (take n bonds) (length (take n bonds)) v ≡ weight_of bonds n v
  weight-first v = sum_first_bonds (among v)

  pub carried-first : (bar : Bar) (v : Voters)
      → carried (take n bonds) (length (take n bonds)) bar v ≡ carried bonds n bar v
  carried-first bar v = ap (λ (x : ℕ). enough x bar) (weight-first v)

-- numbers from n on that fail the test add nothing
pub sum_more : (k n : ℕ) (p : ℕ → Bool) (f : ℕ → ℕ) → n ≤ k → ((i : ℕ) → n ≤ i → p i ≡ false) → sum_below k p f ≡ sum_below n p f
unfolding sum_below
sum_more zero n p f h e = ap (λ (x : ℕ). sum_below x p f) (let q : 0 ≡ n = omega arith in q)
sum_more (suc k) n p f h e = ⊎_elim
    (λ l. omega (arith, sum_more k n p f (omega arith) e, ap (λ (b : Bool). cond b (f k) 0) (e k (omega arith))))
    (λ l. ap (λ (x : ℕ). sum_below x p f) (let q : suc k ≡ n = omega arith in q))
    (lt_or_ge n (suc k))
