-- The numbers that pass a test, by rising number: the one at an index, and the index of one.
use Prim.Native.Nat.{ℕ, zero, suc, ◌+◌, ◌<◌, ◌≤◌}
use native.Mathlib.Omega.{arith}
use mathlib.Core.Path.{◌≡◌, refl, sym, ap, ◌∙◌, subst}
use mathlib.Core.Logic.{⊎_elim}
use mathlib.Core.List.{List, [], ◌∷◌, ◌++◌}
use mathlib.Core.Bool.{Bool, true, false}
use lib.ListN.{length, get_or, length-append, get_or-append}
use lib.Seq.{get_or-append_seam}
use Rattle.model.proofs.Lists.{lt_or_ge, decided, all_append, all_map}
use Rattle.model.specs.Lists.{picked, All, none, each}

module _ (p : ℕ → Bool) where
  -- how many pass below k
  abbrev pub rank : ℕ → ℕ
  rank k = length (picked p k)

  -- the number at an index among those below n
  abbrev pub nth : ℕ → ℕ → ℕ
  nth n i = get_or (picked p n) i 0

  pub picked-yes : (n : ℕ) → p n ≡ true → picked p (suc n) ≡ picked p n ++ n ∷ []
  unfolding picked
  picked-yes n e = rw e

  pub picked-no : (n : ℕ) → p n ≡ false → picked p (suc n) ≡ picked p n
  unfolding picked
  picked-no n e = rw e

  pub rank-zero : rank 0 ≡ 0
  unfolding picked
  rank-zero = refl

  pub rank-yes : (n : ℕ) → p n ≡ true → rank (suc n) ≡ rank n + 1
  rank-yes n e = ap length (picked-yes n e) ∙ length-append (picked p n) (n ∷ [])

  pub rank-no : (n : ℕ) → p n ≡ false → rank (suc n) ≡ rank n
  rank-no n e = ap length (picked-no n e)

  pub picked-below : (n : ℕ) → All (λ k. k < n) (picked p n)
  unfolding picked
  picked-below zero = none
  picked-below (suc n) =
      let old = all_map {Q = λ k. k < suc n} (λ k h. omega arith) (picked-below n) in
      ⊎_elim
      (λ e. subst (All (λ k. k < suc n)) (sym (picked-yes n e)) (all_append old (each (omega arith) none)))
      (λ e. subst (All (λ k. k < suc n)) (sym (picked-no n e)) old)
      (decided (p n))

  rank_up : (n : ℕ) → rank n ≤ rank (suc n)
  rank_up n = ⊎_elim (λ e. omega (arith, rank-yes n e)) (λ e. omega (arith, rank-no n e)) (decided (p n))

  -- no more pass below k than there are
  pub rank_le : (k : ℕ) → rank k ≤ k
  rank_le zero = omega (arith, rank-zero)
  rank_le (suc k) =
      ⊎_elim
      (λ e. omega (arith, rank-yes k e, rank_le k))
      (λ e. omega (arith, rank-no k e, rank_le k))
      (decided (p k))

  pub rank_mono : (k n : ℕ) → k ≤ n → rank k ≤ rank n
  rank_mono k zero h = let e : k ≡ 0 = omega arith in subst (λ (j : ℕ). rank j ≤ rank 0) (sym e) (omega arith)
  rank_mono k (suc n) h =
      ⊎_elim
      (λ l. omega (arith, rank_mono k n (omega arith), rank_up n))
      (λ l. let e : suc n ≡ k = omega arith in subst (λ (j : ℕ). rank j ≤ rank (suc n)) e (omega arith))
      (lt_or_ge k (suc n))

  pub rank_lt : (k n : ℕ) → k < n → p k ≡ true → rank k < rank n
  rank_lt k n h e = omega (arith, rank-yes k e, rank_mono (suc k) n h)

  nth-older : (n i : ℕ) → i < rank n → nth (suc n) i ≡ nth n i
  nth-older n i h =
      ⊎_elim
      (λ e. ap (λ (l : List ℕ). get_or l i 0) (picked-yes n e) ∙ get_or-append (picked p n) (n ∷ []) 0 i h)
      (λ e. ap (λ (l : List ℕ). get_or l i 0) (picked-no n e))
      (decided (p n))

  nth-newest : (n : ℕ) → p n ≡ true → nth (suc n) (rank n) ≡ n
  nth-newest n e = ap (λ (l : List ℕ). get_or l (rank n) 0) (picked-yes n e) ∙ get_or-append_seam (picked p n) n [] 0

  -- the one that passes stands at its rank
  pub nth-rank : (n k : ℕ) → k < n → p k ≡ true → nth n (rank k) ≡ k
  nth-rank zero k h e = absurd (omega arith)
  nth-rank (suc n) k h e =
      ⊎_elim
      (λ l. nth-older n (rank k) (rank_lt k n l e) ∙ nth-rank n k l e)
      (λ l.
      let q : n ≡ k = omega arith in
      subst (λ (j : ℕ). p j ≡ true → nth (suc n) (rank j) ≡ j) q (nth-newest n) e)
      (lt_or_ge k n)

  -- what stands at an index: a number below n, that passes, of that rank
  pub record Nth (n i x : ℕ) : Type 0 where
    pub below : x < n
    pub passes : p x ≡ true
    pub ranks : rank x ≡ i

  pub nth-is : (n i : ℕ) → i < rank n → Nth n i (nth n i)
  nth-is zero i h = absurd (omega (arith, rank-zero))
  nth-is (suc n) i h =
      ⊎_elim
      (λ l. subst (Nth (suc n) i) (sym (nth-older n i l)) (wider (nth-is n i l)))
      (λ l.
      ⊎_elim
      (λ e. newest e (omega (arith, rank-yes n e)))
      (λ e. absurd (omega (arith, rank-no n e)))
      (decided (p n)))
      (lt_or_ge i (rank n))
    where
      wider : {x : ℕ} → Nth n i x → Nth (suc n) i x
      wider t = record { below = omega (arith, t.below); passes = t.passes; ranks = t.ranks }

      newest : p n ≡ true → i ≡ rank n → Nth (suc n) i (nth (suc n) i)
      newest e q =
          subst (Nth (suc n) i) (sym (nth-newest n e) ∙ ap (nth (suc n)) (sym q))
          (record { below = omega arith; passes = e; ranks = sym q })

  pub nth-rises : (n i j : ℕ) → i < j → j < rank n → nth n i < nth n j
  nth-rises n i j h l =
      ⊎_elim
      (λ q. q)
      (λ q.
      let one = (nth-is n i (omega arith)).ranks in
      let other = (nth-is n j l).ranks in
      absurd (omega (arith, rank_mono (nth n j) (nth n i) q, one, other)))
      (lt_or_ge (nth n i) (nth n j))
