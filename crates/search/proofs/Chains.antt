-- Numbers in chains by their slots, and a walk of one chain: what it has found and what is left make the whole.
use Prim.Native.Nat.{ℕ, zero, suc, ◌+◌, ◌-◌, ◌%◌, ◌<◌, ◌≤◌}
use native.Mathlib.Omega.{arith}
use native.Mathlib.Numerals.{add-one}
use mathlib.Core.Path.{◌≡◌, refl, sym, ap, ap₂, ◌∙◌, subst}
use mathlib.Core.Logic.{⊎_elim}
use mathlib.Core.List.{List}
use mathlib.Core.Bool.{Bool, true, false, cond, ◌&&◌, ◌||◌, or-false, or_assoc, or_comm, and-false}
use borrow.Author.Tests.{eqb-true, eqb-false, eq-eqb}
use lib.Dec.{eqb}
use lib.ListN.{length, get_or, set, replicate, length-set, length-replicate, get_or-replicate}
use lib.Seq.{get_or-set_same, get_or-set_other}
use Rattle.model.specs.Lists.{any_below}
use Rattle.model.proofs.Lists.{decided, lt_or_ge}
use Rattle.search.specs.Chains.{last_below, Linked, Bucketed, Chain, slot_of, Indexed}
use Rattle.search.proofs.Pointwise.{any_same}

-- ---- the last number that passes a test

module _ (p : ℕ → Bool) where
  last_step : (b : Bool) (n : ℕ) → p n ≡ b → last_below (suc n) p ≡ cond b (suc n) (last_below n p)
  unfolding last_below
  last_step b n e = rw e

  pub last-next : (b : Bool) (n : ℕ) → p n ≡ b → last_below (n + 1) p ≡ cond b (n + 1) (last_below n p)
  last-next b n e = rw add-one (last_step b n e)

  pub last_le : (n : ℕ) → last_below n p ≤ n
  unfolding last_below
  last_le zero = omega arith
  last_le (suc n) = go (p n) (last_le n)
    where
      go : (b : Bool) → last_below n p ≤ n → cond b (suc n) (last_below n p) ≤ suc n
      go true ih = omega arith
      go false ih = omega arith

  last_again : (n : ℕ) → last_below (last_below n p) p ≡ last_below n p
  unfolding last_below
  last_again zero = refl
  last_again (suc n) = go (p n) refl (last_again n)
    where
      go : (b : Bool) → p n ≡ b → last_below (last_below n p) p ≡ last_below n p → last_below (cond b (suc n) (last_below n p)) p ≡ cond b (suc n) (last_below n p)
      go true e ih = last_step true n e
      go false e ih = ih

  -- nothing from the last that passes on passes
  pub last-above : (n k : ℕ) → k < n → last_below n p ≤ k → p k ≡ false
  last-above zero k h l = absurd (omega arith)
  last-above (suc n) k h l = ⊎_elim
      (λ e. absurd (omega (arith, last_step true n e)))
      (λ e. ⊎_elim
      (λ b. last-above n k b (omega (arith, last_step false n e)))
      (λ b. subst (λ (j : ℕ). p j ≡ false) (let q : n ≡ k = omega arith in q) e)
      (lt_or_ge k n))
      (decided (p n))

  last-passes : (k : ℕ) → last_below (suc k) p ≡ suc k → p k ≡ true
  last-passes k e = ⊎_elim (λ t. t) (λ f. absurd (omega (arith, last_step false k f, last_le k))) (decided (p k))

  -- the last that passes does
  pub last-at : (n k : ℕ) → last_below n p ≡ suc k → p k ≡ true
  last-at n k e = last-passes k (subst (λ (x : ℕ). last_below x p ≡ x) e (last_again n))

  -- no number from the last that passes on makes a difference
  any_last : (q : ℕ → Bool) (n : ℕ) → any_below n (λ k. p k && q k) ≡ any_below (last_below n p) (λ k. p k && q k)
  unfolding last_below any_below
  any_last q zero = refl
  any_last q (suc n) = go (p n) refl (any_last q n)
    where
      f : ℕ → Bool
      f k = p k && q k

      go : (b : Bool) → p n ≡ b → any_below n f ≡ any_below (last_below n p) f → (any_below n f || (p n && q n)) ≡ any_below (cond b (suc n) (last_below n p)) f
      go true e ih = refl
      go false e ih = ap (λ (b : Bool). any_below n f || (b && q n)) e ∙ or-false (any_below n f) ∙ ih

last-same : (n : ℕ) (p q : ℕ → Bool) → ((i : ℕ) → i < n → p i ≡ q i) → last_below n p ≡ last_below n q
unfolding last_below
last-same zero p q e = refl
last-same (suc n) p q e = ap₂ (λ (b : Bool) (x : ℕ). cond b (suc n) x) (e n (omega arith)) (last-same n p q (λ i h. e i (omega arith)))

-- ---- putting the numbers into chains

-- the slots of other numbers are no matter
pub bucketed-same : {slot other : ℕ → ℕ} {size count : ℕ} {head next : List ℕ} → ((i : ℕ) → i < count → slot i ≡ other i) → Bucketed slot size count head next → Bucketed other size count head next
bucketed-same {slot} {other} {size} {count} e so =
    record {
      heads = λ t h. so.heads t h ∙ last-same count (λ i. eqb (slot i) t) (λ i. eqb (other i) t) (λ i l. ap (λ (x : ℕ). eqb x t) (e i l));
      linked = record {
        long = so.linked.long;
        nexts = λ k h. so.linked.nexts k h ∙ last-same k (λ i. eqb (slot i) (slot k)) (λ i. eqb (other i) (other k)) (λ i l. ap₂ eqb (e i (omega arith)) (e k h));
      };
    }

module _ (slot : ℕ → ℕ) where
  pub bucketed-none : (size : ℕ) → Bucketed slot size 0 (replicate size 0) (replicate 4096 0)
  unfolding last_below
  bucketed-none size =
      record {
        heads = λ t h. get_or-replicate size t 0 0 h;
        linked = record { long = length-replicate {A = ℕ} 4096 0; nexts = λ k h. absurd (omega arith) };
      }

  pub bucketed-more : {size : ℕ} (head next : List ℕ) (k : ℕ) → length head ≡ size → k < 4096 → slot k < size → Bucketed slot size k head next → Bucketed slot size (k + 1) (set head (slot k) (k + 1)) (set next k (get_or head (slot k) 0))
  bucketed-more {size} head next k long room inside so =
      record { heads = heads; linked = record { long = length-set next k last ∙ so.linked.long; nexts = nexts } }
    where
      last : ℕ
      last = get_or head (slot k) 0

      on : ℕ → ℕ → Bool
      on t i = eqb (slot i) t

      heads : (t : ℕ) → t < size → get_or (set head (slot k) (k + 1)) t 0 ≡ last_below (k + 1) (on t)
      heads t h = ⊎_elim
          (λ e.
          ap (λ (x : ℕ). get_or (set head (slot k) (k + 1)) x 0) (sym (eqb-true (slot k) t e))
          ∙ get_or-set_same head (slot k) (k + 1) 0 (omega arith)
          ∙ sym (last-next (on t) true k e))
          (λ e.
          get_or-set_other head (slot k) t (k + 1) 0 (λ q. eqb-false (slot k) t e (sym q))
          ∙ so.heads t h
          ∙ sym (last-next (on t) false k e))
          (decided (on t k))

      nexts : (j : ℕ) → j < k + 1 → get_or (set next k last) j 0 ≡ last_below j (on (slot j))
      nexts j h = ⊎_elim
          (λ l. get_or-set_other next k j last 0 (λ q. omega arith) ∙ so.linked.nexts j l)
          (λ l.
          subst (λ (x : ℕ). get_or (set next k last) x 0 ≡ last_below x (on (slot x))) (let q : k ≡ j = omega arith in q)
          (get_or-set_same next k last 0 (omega (arith, so.linked.long)) ∙ so.heads (slot k) inside))
          (lt_or_ge j k)

  module _ {count : ℕ} {next : List ℕ} (so : Linked slot count next) where
    -- a chain goes on with an earlier number
    pub linked-earlier : (k : ℕ) → k < count → get_or next k 0 ≤ k
    linked-earlier k h = omega (arith, so.nexts k h, last_le (λ i. eqb (slot i) (slot k)) k)

    -- the numbers of slot t that are below n are a chain
    pub linked-chain : (t n : ℕ) {from : ℕ} → n ≤ count → from ≡ last_below n (λ i. eqb (slot i) t) → Chain (λ i. eqb (slot i) t) n next from
    linked-chain t n h e =
        record {
          head = e;
          nexts = λ k l q. so.nexts k (omega arith) ∙ ap (λ (x : ℕ). last_below k (λ i. eqb (slot i) x)) (eqb-true (slot k) t q);
        }

-- ---- the walk of a chain

-- the walk from `from` has come to `at`: `hit` and what the numbers below `at` say make what all numbers of the chain say
pub record Walked (test : ℕ → Bool) (next : List ℕ) (from : ℕ) (hit : Bool) (at : ℕ) : Type 0 where
  pub low : at ≤ from
  pub here : (on : ℕ → Bool) (count : ℕ) → Chain on count next from → last_below at on ≡ at
  pub whole : (on : ℕ → Bool) (count : ℕ) → Chain on count next from → (hit || any_below at (λ k. on k && test k)) ≡ any_below count (λ k. on k && test k)

module _ (test : ℕ → Bool) (next : List ℕ) (from : ℕ) where
  pub walked_none : Walked test next from false from
  walked_none =
      record {
        low = omega arith;
        here = λ on count chain. rw chain.head (last_again on count);
        whole = λ on count chain. ap (λ (n : ℕ). any_below n (λ k. on k && test k)) chain.head ∙ sym (any_last on test count);
      }

  closes : (f : ℕ → Bool) (k a : ℕ) (old : Bool) {new x w : Bool} → any_below a f ≡ any_below k f → new ≡ (old || x) → f k ≡ x → (old || any_below (suc k) f) ≡ w → (new || any_below a f) ≡ w
  unfolding any_below
  closes f k a old {new} {x} {w} rest add e so =
      ap₂ ◌||◌ add rest ∙ or_assoc old x (any_below k f) ∙ ap (◌||◌ old) (or_comm x (any_below k f) ∙ ap (◌||◌ (any_below k f)) (sym e)) ∙ so

  more : (k : ℕ) {hit new : Bool} → get_or next k 0 ≤ k → new ≡ (hit || test k) → Walked test next from hit (suc k) → Walked test next from new (get_or next k 0)
  more k {hit} earlier add so =
      record {
        low = omega (arith, so.low);
        here = λ on count chain. rw (follows on count chain) (last_again on k);
        whole = λ on count chain.
            closes (λ j. on j && test j) k (get_or next k 0) hit
            (ap (λ (n : ℕ). any_below n (λ j. on j && test j)) (follows on count chain) ∙ sym (any_last on test k))
            add
            (ap (λ (b : Bool). b && test k) (last-passes on k (so.here on count chain)))
            (so.whole on count chain);
      }
    where
      follows : (on : ℕ → Bool) (count : ℕ) → Chain on count next from → get_or next k 0 ≡ last_below k on
      follows on count chain = chain.nexts k (omega (arith, so.low, chain.head, last_le on count)) (last-passes on k (so.here on count chain))

  -- one number more
  pub walked_more : (at : ℕ) {hit new : Bool} → 0 < at → get_or next (at - 1) 0 ≤ at - 1 → new ≡ (hit || test (at - 1)) → Walked test next from hit at → Walked test next from new (get_or next (at - 1) 0)
  walked_more at {hit} h earlier add so =
      more (at - 1) earlier add (subst (λ (n : ℕ). Walked test next from hit n) (let e : at ≡ suc (at - 1) = omega arith in e) so)

  pub walked_all : {at : ℕ} {hit : Bool} → at ≤ 0 → Walked test next from hit at → (on : ℕ → Bool) (count : ℕ) → Chain on count next from → hit ≡ any_below count (λ k. on k && test k)
  unfolding any_below
  walked_all {at} {hit} z so on count chain =
      sym (or-false hit) ∙ ap (λ (n : ℕ). hit || any_below n (λ k. on k && test k)) (let e : 0 ≡ at = omega arith in e) ∙ so.whole on count chain

-- ---- equal numbers are in one chain

pub same_slot : (numbers : List ℕ) (n : ℕ) (x : ℕ) → any_below n (λ k. eqb (slot_of numbers k) (x % 4093) && eqb (get_or numbers k 0) x) ≡ any_below n (λ k. eqb (get_or numbers k 0) x)
same_slot numbers n x = any_same n (λ k. eqb (slot_of numbers k) (x % 4093) && eqb (get_or numbers k 0) x) (λ k. eqb (get_or numbers k 0) x) (λ k h. each (get_or numbers k 0))
  where
    each : (y : ℕ) → (eqb (y % 4093) (x % 4093) && eqb y x) ≡ eqb y x
    each y = ⊎_elim
        (λ e. ap (λ (b : Bool). b && eqb y x) (eq-eqb (y % 4093) (x % 4093) (ap (λ (z : ℕ). z % 4093) (eqb-true y x e))))
        (λ e. rw e (and-false (eqb (y % 4093) (x % 4093))))
        (decided (eqb y x))

-- ---- numbers that are looked for

pub indexed-none : Indexed 0 (replicate 4096 0) (replicate 4093 0) (replicate 4096 0)
indexed-none = record { numbers-long = length-replicate {A = ℕ} 4096 0; heads-long = length-replicate {A = ℕ} 4093 0; bucketed = bucketed-none _ _ }

module _ {count : ℕ} {numbers heads nexts : List ℕ} (so : Indexed count numbers heads nexts) where
  pub indexed-more : (x : ℕ) → count < 4096 → Indexed (count + 1) (set numbers count x) (set heads (x % 4093) (count + 1)) (set nexts count (get_or heads (x % 4093) 0))
  indexed-more x room =
      record {
        numbers-long = length-set numbers count x ∙ so.numbers-long;
        heads-long = length-set heads (x % 4093) (count + 1) ∙ so.heads-long;
        bucketed = subst (λ (s : ℕ). Bucketed (slot_of (set numbers count x)) 4093 (count + 1) (set heads s (count + 1)) (set nexts count (get_or heads s 0))) new
            (bucketed-more (slot_of (set numbers count x)) heads nexts count so.heads-long room (omega arith) (bucketed-same old so.bucketed));
      }
    where
      new : slot_of (set numbers count x) count ≡ x % 4093
      new = ap (λ (y : ℕ). y % 4093) (get_or-set_same numbers count x 0 (omega (arith, so.numbers-long)))

      old : (i : ℕ) → i < count → slot_of numbers i ≡ slot_of (set numbers count x) i
      old i h = ap (λ (y : ℕ). y % 4093) (sym (get_or-set_other numbers count i x 0 (λ q. omega arith)))

  -- the head of a number's chain
  module _ (x : ℕ) where
    abbrev on : ℕ → Bool
    on i = eqb (slot_of numbers i) (x % 4093)

    head-is : get_or heads (x % 4093) 0 ≡ last_below count on
    head-is = so.bucketed.heads (x % 4093) (omega arith)

    pub head-low : get_or heads (x % 4093) 0 ≤ count
    head-low = omega (arith, head-is, last_le on count)

    pub in_chain : Chain on count nexts (get_or heads (x % 4093) 0)
    in_chain = linked-chain (slot_of numbers) so.bucketed.linked (x % 4093) count (omega arith) head-is
