-- A loop that fills an array from the front: the first n elements are those of a function of the index.
use Prim.Native.Nat.{ℕ, ◌+◌, ◌<◌}
use native.Mathlib.Omega.{arith}
use mathlib.Core.Path.{◌≡◌, sym, ◌∙◌, subst}
use mathlib.Core.List.{List}
use borrow.Author.Count.{below_more}
use lib.ListN.{length, get_or, set, length-set}
use lib.Seq.{get_or-set_same, get_or-set_other}

-- each entry before n is as it should be, and now that at n
pub each_more : {A : Type 0} (P : ℕ → A → Type 0) (d : A) (n : ℕ) (l : List A) (x : A) → n < length l → P n x → ((k : ℕ) → k < n → P k (get_or l k d)) → (k : ℕ) → k < n + 1 → P k (get_or (set l n x) k d)
each_more P d n l x h here so =
    below_more
    (λ k. P k (get_or (set l n x) k d))
    n
    (λ k b. subst (P k) (sym (get_or-set_other l n k x d (λ e. omega arith))) (so k b))
    (subst (P n) (sym (get_or-set_same l n x d h)) here)

pub record Filled {A : Type 0} (d : A) (size : ℕ) (f : ℕ → A) (l : List A) (n : ℕ) : Type 0 where
  pub long : length l ≡ size
  pub each : (i : ℕ) → i < n → get_or l i d ≡ f i

module _ {A : Type 0} (d : A) (size : ℕ) (f : ℕ → A) where
  pub filled_none : (l : List A) → length l ≡ size → Filled d size f l 0
  filled_none l h = record { long = h; each = λ i l. absurd (omega arith) }

  pub filled_more : (l : List A) (n : ℕ) (x : A) → n < size → x ≡ f n → Filled d size f l n → Filled d size f (set l n x) (n + 1)
  filled_more l n x room e so = record { long = length-set l n x ∙ so.long; each = each_more (λ i y. y ≡ f i) d n l x (omega (arith, so.long)) e so.each }
