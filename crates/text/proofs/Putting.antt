-- Texts written one after another into a lent buffer.
use Prim.Native.Nat.{ℕ, ◌+◌, ◌≤◌}
use native.Mathlib.Omega.{arith}
use native.Mathlib.Numerals.{add-one}
use mathlib.Core.Path.{◌≡◌, sym, ap, ap₂, subst, ◌∙◌}
use mathlib.Core.List.{List, [], ◌++◌, append_assoc, append-nil}
use lib.ListN.{length, take, drop, length-append, length-drop, take-append-drop}
use lib.Seq.{length-take-le, take_at, drop_at, drop-drop}
use Rattle.model.specs.Lists.{concat_below}
use Rattle.text.specs.Put.{Put}

-- no text
pub none : (l : List ℕ) (at : ℕ) → at ≤ length l → Put l at [] l at
none l at fits =
    let same : at + 0 ≡ at = omega arith in
    record {
      fits = omega arith;
      past = sym same;
      left = sym (take-append-drop at l) ∙ ap₂ (λ (x : List ℕ) (k : ℕ). x ++ drop k l) (sym (append-nil (take at l))) (sym same);
    }

module _ {l m : List ℕ} {at n : ℕ} {a : List ℕ} (first : Put l at a m n) where
  head-long : length (take at l ++ a) ≡ at + length a
  head-long = length-append (take at l) a ∙ ap (λ (k : ℕ). k + length a) (length-take-le at l (omega (arith, first.fits)))

  -- a text leaves the buffer's length
  pub kept : length m ≡ length l
  kept = ap length first.left ∙ length-append (take at l ++ a) (drop (at + length a) l) ∙ omega (arith, head-long, length-drop (at + length a) l, first.fits)

  -- the same text, otherwise spelled
  pub spelled : {b : List ℕ} → a ≡ b → Put l at b m n
  spelled e = subst (λ (t : List ℕ). Put l at t m n) e first

  -- a text, and another right after it
  pub next : {b o : List ℕ} {k : ℕ} → Put m n b o k → Put l at (a ++ b) o k
  next {b} {o} {k} second =
      let long : n ≡ at + length a = first.past in
      record {
        fits = omega (arith, second.fits, long, length-append a b, kept);
        past = second.past ∙ omega (arith, long, length-append a b);
        left = second.left ∙ ap₂ (λ (p q : List ℕ). p ++ b ++ q) front back ∙ ap (λ (t : List ℕ). t ++ drop (at + length (a ++ b)) l) (append_assoc (take at l) a b);
      }
    where
      front : take n m ≡ take at l ++ a
      front = ap₂ take first.past first.left ∙ take_at (take at l ++ a) (drop (at + length a) l) (at + length a) head-long

      back : drop (n + length b) m ≡ drop (at + length (a ++ b)) l
      back =
          let further : at + length a + length b ≡ at + length (a ++ b) = omega (arith, length-append a b) in
          sym (drop-drop (length b) n m)
          ∙ ap (drop (length b)) (ap₂ (λ (i : ℕ) (t : List ℕ). drop i t) first.past first.left ∙ drop_at (take at l ++ a) (drop (at + length a) l) (at + length a) head-long)
          ∙ drop-drop (length b) (at + length a) l
          ∙ ap (λ (i : ℕ). drop i l) further

-- an ending, written as one piece, is that of an answer between two other texts
pub ended : {l m o : List ℕ} {at n k : ℕ} {a : List ℕ} {A : Type 0} (f : A → List ℕ) (b d : List ℕ) {s t : A} → s ≡ t → Put l at a m n → Put m n (b ++ f t ++ d) o k → Put l at (a ++ b ++ f s ++ d) o k
ended {a = a} f b d told first ending = spelled (next first ending) (ap (λ t. a ++ (b ++ f t ++ d)) (sym told) ∙ simp append_assoc)

-- the pieces that a function gives, one after another

module _ (f : ℕ → List ℕ) {l : List ℕ} {at : ℕ} where
  pub concat_none : at ≤ length l → Put l at (concat_below 0 f) l at
  unfolding concat_below
  concat_none fits = none l at fits

  pub concat_more : (i : ℕ) {m o : List ℕ} {n k : ℕ}
      → Put l at (concat_below i f) m n → Put m n (f i) o k → Put l at (concat_below (i + 1) f) o k
  unfolding concat_below
  concat_more i before piece = spelled (next before piece) (ap (λ (j : ℕ). concat_below j f) (sym (add-one i)))
