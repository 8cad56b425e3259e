-- Texts in columns: how long a number is, and lines of 64 columns.
use Prim.Native.Nat.{ℕ, zero, suc, ◌+◌, ◌-◌, ◌*◌, ◌/◌, ◌%◌, ◌^◌, ◌<◌, ◌≤◌}
use native.Mathlib.Nat.{pow-suc, mod-lt, add-suc, mul-suc, mul-le-mul_left}
use native.Mathlib.Omega.{arith}
use mathlib.Core.Path.{◌≡◌, refl, sym, ap, ◌∙◌, subst, subst₂}
use mathlib.Core.Logic.{⊎_elim}
use mathlib.Core.List.{List, [], ◌∷◌, ◌++◌, append_assoc, append-nil}
use mathlib.Core.Bool.{Bool, true, false, ◌&&◌, ◌||◌, not}
use borrow.Author.Tests.{lt-ltb, le-ltb, ltb-true, leb-true}
use lib.ListN.{length, replicate, take, drop, length-append, length-replicate, length-drop}
use lib.Seq.{take-append-le, drop-append-le, drop-append-add}
use lib.Dec.{ltb, leb}
use Rattle.model.specs.Bytes.{part}
use Rattle.model.specs.Exact.{Printed, Lines, no_line, one_more}
use Rattle.model.specs.Lists.{All, none, each, any, concat_below}
use Rattle.model.specs.Paper.{blanks, left, right}
use Rattle.model.specs.Report.{digits, decimal, newline}
use Rattle.model.proofs.Lists.{all_append, and_left, and_right, lt_or_ge, clash}

-- ---- numbers

digits-few : (fuel k x : ℕ) → x < 10 ^ suc k → length (digits fuel x) ≤ suc k
unfolding digits
digits-few zero k x h = omega arith
digits-few (suc fuel) zero x h = rw (digits, lt-ltb x 10 h) (omega arith)
digits-few (suc fuel) (suc k) x h = ⊎_elim
    (λ l. rw (digits, lt-ltb x 10 l) (omega arith))
    (λ l. rw (digits, le-ltb x 10 l)
    (omega (
      arith,
      length-append (digits fuel (x / 10)) ((48 + x % 10) ∷ []),
      digits-few fuel k (x / 10)
          (omega (arith, pow-suc 10 (suc k))),
    )))
    (lt_or_ge x 10)

-- a number below a power of ten has no more digits than that power has zeros
pub decimal-few : (k x : ℕ) → x < 10 ^ suc k → length (decimal x) ≤ suc k
unfolding decimal
decimal-few k x h = digits-few (suc x) k x h

digits_printed : (fuel x : ℕ) → All Printed (digits fuel x)
unfolding digits
digits_printed zero x = none
digits_printed (suc fuel) x = ⊎_elim
    (λ l. rw (digits, lt-ltb x 10 l) (each {x = 48 + x} (omega arith, omega arith) none))
    (λ l. rw (digits, le-ltb x 10 l)
    (all_append (digits_printed fuel (x / 10))
    (each {x = 48 + x % 10} (omega arith, omega (arith, mod-lt x {m = 10} (omega arith))) none)))
    (lt_or_ge x 10)

pub decimal_printed : (x : ℕ) → All Printed (decimal x)
unfolding decimal
decimal_printed x = digits_printed (suc x) x

-- ---- texts

pub printed_repeat : (n b : ℕ) → Printed b → All Printed (replicate n b)
printed_repeat zero b p = none
printed_repeat (suc n) b p = each p (printed_repeat n b p)

-- a text whose every byte passes the test
pub text_printed : (xs : List ℕ) → any (λ b. not (leb 32 b && ltb b 127)) xs ≡ false → All Printed xs
unfolding any
text_printed [] e = none
text_printed (x ∷ xs) e = go (text_printed xs) (leb 32 x && ltb x 127) refl e
  where
    go : (any (λ b. not (leb 32 b && ltb b 127)) xs ≡ false → All Printed xs) → (b : Bool)
        → (leb 32 x && ltb x 127) ≡ b → (not b || any (λ b. not (leb 32 b && ltb b 127)) xs) ≡ false
        → All Printed (x ∷ xs)
    go rest true b q =
        each
        (leb-true 32 x (and_left (leb 32 x) (ltb x 127) b), ltb-true x 127 (and_right (leb 32 x) (ltb x 127) b))
        (rest q)
    go rest false b q = clash refl q

module _ (n : ℕ) (text : List ℕ) (fits : length text ≤ n) where
  long : length (blanks (n - length text)) ≡ n - length text
  long = length-replicate (n - length text) 32

  pub left-long : length (left n text) ≡ n
  unfolding left
  left-long = length-append text (blanks (n - length text)) ∙ omega (arith, long)

  pub right-long : length (right n text) ≡ n
  unfolding right
  right-long = length-append (blanks (n - length text)) text ∙ omega (arith, long)

pub blanks_printed : (n : ℕ) → All Printed (blanks n)
blanks_printed n = printed_repeat n 32 (omega arith, omega arith)

module _ (n : ℕ) {text : List ℕ} (printed : All Printed text) where
  pub left_printed : All Printed (left n text)
  unfolding left
  left_printed = all_append printed (blanks_printed (n - length text))

  pub right_printed : All Printed (right n text)
  unfolding right
  right_printed = all_append (blanks_printed (n - length text)) printed

-- ---- lines

pub one_line : {columns : List ℕ} → length columns ≡ 64 → All Printed columns → Lines 1 (columns ++ newline)
one_line long printed = one_more no_line long printed

pub lines_join : {n k : ℕ} {a b : List ℕ} → Lines n a → Lines k b → Lines (n + k) (a ++ b)
lines_join {n} {a = a} before no_line = subst₂ Lines (let e : n ≡ n + 0 = omega arith in e) (sym (append-nil a)) before
lines_join {n} {a = a} before (one_more {n = k} {text} {columns} after wide printed) =
    subst₂ Lines (sym (add-suc n k)) (append_assoc a text (columns ++ newline))
    (one_more (lines_join before after) wide printed)

pub lines_concat : (n k : ℕ) (f : ℕ → List ℕ) → ((i : ℕ) → i < n → Lines k (f i)) → Lines (k * n) (concat_below n f)
unfolding concat_below
lines_concat zero k f each-one = subst (λ (i : ℕ). Lines i []) (let e : 0 ≡ k * 0 = omega arith in e) no_line
lines_concat (suc n) k f each-one =
    subst (λ (i : ℕ). Lines i (concat_below n f ++ f n)) (sym (mul-suc k n))
    (lines_join (lines_concat n k f (λ i h. each-one i (omega arith))) (each-one n (omega arith)))

pub lines_long : {n : ℕ} {text : List ℕ} → Lines n text → length text ≡ 65 * n
unfolding newline
lines_long no_line = refl
lines_long (one_more {n} {text} {columns} before wide printed) =
    omega (arith, length-append text (columns ++ newline), length-append columns newline, lines_long before, wide)

-- ---- parts of what is put together

pub concat_long : (n long : ℕ) (f : ℕ → List ℕ) → ((i : ℕ) → i < n → length (f i) ≡ long)
    → length (concat_below n f) ≡ long * n
unfolding concat_below
concat_long zero long f each-one = omega arith
concat_long (suc n) long f each-one =
    length-append (concat_below n f) (f n)
    ∙ omega (arith, concat_long n long f (λ i h. each-one i (omega arith)), each-one n (omega arith), mul-suc long n)

pub part-front : (at k : ℕ) (xs ys : List ℕ) → at + k ≤ length xs → part at k (xs ++ ys) ≡ part at k xs
part-front at k xs ys h =
    ap (take k) (drop-append-le at xs ys (omega arith))
    ∙ take-append-le k (drop at xs) ys (omega (arith, length-drop at xs))

pub part-back : (n at k : ℕ) (xs ys : List ℕ) → length xs ≡ n → part (n + at) k (xs ++ ys) ≡ part at k ys
part-back n at k xs ys e =
    ap (λ (i : ℕ). part (i + at) k (xs ++ ys)) (sym e) ∙ ap (take k) (drop-append-add xs ys at)

-- the pieces of one length: what stands in the i-th of them
pub part_concat : (n long : ℕ) (f : ℕ → List ℕ) → ((i : ℕ) → i < n → length (f i) ≡ long)
    → (i at k : ℕ) → i < n → at + k ≤ long → part (long * i + at) k (concat_below n f) ≡ part at k (f i)
unfolding concat_below
part_concat zero long f each-one i at k h fits = absurd (omega arith)
part_concat (suc n) long f each-one i at k h fits = ⊎_elim
    (λ l. inside l ∙ part_concat n long f (λ i h. each-one i (omega arith)) i at k l fits)
    last
    (lt_or_ge i n)
  where
    whole : length (concat_below n f) ≡ long * n
    whole = concat_long n long f (λ i h. each-one i (omega arith))

    inside : i < n → part (long * i + at) k (concat_below n f ++ f n) ≡ part (long * i + at) k (concat_below n f)
    inside l =
        part-front (long * i + at) k (concat_below n f) (f n)
        (omega (arith, whole, mul-suc long i, mul-le-mul_left long l))

    last : n ≤ i → part (long * i + at) k (concat_below n f ++ f n) ≡ part at k (f i)
    last l =
        let e : n ≡ i = omega arith in
        subst (λ (j : ℕ). part (long * j + at) k (concat_below n f ++ f n) ≡ part at k (f j)) e
        (part-back (long * n) at k (concat_below n f) (f n) whole)
