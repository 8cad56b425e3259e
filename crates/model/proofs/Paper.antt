-- The board paper is laid out as request K2 words it: lines of 64 columns, pages of 50 lines, a row for each
-- checkpoint.
use Prim.Native.Nat.{ℕ, ◌+◌, ◌*◌, ◌/◌, ◌%◌, ◌^◌, ◌<◌, ◌≤◌}
use native.Mathlib.Nat.{div-add-mod', mod-lt}
use native.Mathlib.Omega.{arith}
use mathlib.Core.Path.{◌≡◌, refl, sym, ap, ◌∙◌, subst}
use mathlib.Core.Logic.{⊎_elim}
use mathlib.Core.List.{List, ◌++◌}
use borrow.Author.Tests.{lt-ltb, le-ltb}
use lib.ListN.{length, replicate, length-append, length-replicate}
use lib.Seq.{take_all}
use Rattle.model.specs.Bytes.{part, ascii}
use Rattle.model.specs.Exact.{Printed, Lines, line_of, line_for, PaperExact, BestExact, shown, zeros}
use Rattle.model.specs.Limits.{member_limit, checkpoint_limit, bond_limit}
use Rattle.model.specs.Lists.{All, any, concat_below}
use Rattle.model.specs.Model.{Model}
use Rattle.model.specs.Paper.{best_support, blanks, left, right, row_text, checkpoint_row, blank_row, row_at, heading}
use Rattle.model.specs.Paper.{foot, page, pages, paper}
use Rattle.model.specs.Report.{decimal, newline, status_text}
use Rattle.model.specs.Support.{Support}
use Rattle.model.specs.WellFormed.{WellFormed}
use Rattle.model.specs.declared.Status.{Status}
use Rattle.model.specs.declared.Status.TheVariants.{Plain, Justified, Final}
use Rattle.model.proofs.Best.{best_exact}
use Rattle.model.proofs.Columns.{decimal-few, decimal_printed, text_printed, blanks_printed, printed_repeat}
use Rattle.model.proofs.Columns.{left-long, right-long, left_printed, right_printed}
use Rattle.model.proofs.Columns.{one_line, lines_join, lines_concat, lines_long, part-front, part-back}
use Rattle.model.proofs.Columns.{concat_long, part_concat}
use Rattle.model.proofs.Lists.{all_append, lt_or_ge}
use Rattle.model.proofs.Support.{support-fits}
use Rattle.model.proofs.Tree.{height-low}

status_printed : (s : Status) → All Printed (status_text s)
unfolding any ascii status_text
status_printed Plain = text_printed _ refl
status_printed Justified = text_printed _ refl
status_printed Final = text_printed _ refl

pub status-short : (s : Status) → length (status_text s) ≤ 12
unfolding ascii status_text
status-short Plain = omega arith
status-short Justified = omega arith
status-short Final = omega arith

-- ---- the lines

module _ (place height : ℕ) (standing : Status) (number bonds : ℕ) where
  pub row_line : place < 10 ^ 5 → height < 10 ^ 10 → number < 10 ^ 5 → bonds < 10 ^ 24
      → Lines 1 (row_text place height standing number bonds)
  unfolding row_text
  row_line p h n b =
      one_line
      (omega (
        arith,
        length-append (one ++ blanks 2 ++ two ++ blanks 2 ++ three ++ blanks 2 ++ four ++ blanks 2) five,
        length-append (one ++ blanks 2 ++ two ++ blanks 2 ++ three ++ blanks 2 ++ four) (blanks 2),
        length-append (one ++ blanks 2 ++ two ++ blanks 2 ++ three ++ blanks 2) four,
        length-append (one ++ blanks 2 ++ two ++ blanks 2 ++ three) (blanks 2),
        length-append (one ++ blanks 2 ++ two ++ blanks 2) three,
        length-append (one ++ blanks 2 ++ two) (blanks 2),
        length-append (one ++ blanks 2) two,
        length-append one (blanks 2),
        right-long 5 (decimal place) (decimal-few 4 place p),
        right-long 10 (decimal height) (decimal-few 9 height h),
        left-long 12 (status_text standing) (status-short standing),
        right-long 5 (decimal number) (decimal-few 4 number n),
        right-long 24 (decimal bonds) (decimal-few 23 bonds b),
      ))
      (all_append
      (all_append
      (all_append
      (all_append
      (all_append
      (all_append
      (all_append
      (all_append (right_printed 5 (decimal_printed place)) (blanks_printed 2))
      (right_printed 10 (decimal_printed height)))
      (blanks_printed 2))
      (left_printed 12 (status_printed standing)))
      (blanks_printed 2))
      (right_printed 5 (decimal_printed number)))
      (blanks_printed 2))
      (right_printed 24 (decimal_printed bonds)))
    where
      one : List ℕ
      one = right 5 (decimal place)

      two : List ℕ
      two = right 10 (decimal height)

      three : List ℕ
      three = left 12 (status_text standing)

      four : List ℕ
      four = right 5 (decimal number)

      five : List ℕ
      five = right 24 (decimal bonds)

-- a line of one character
pub same_line : (b : ℕ) → Printed b → Lines 1 (replicate 64 b ++ newline)
same_line b p = one_line (length-replicate 64 b) (printed_repeat 64 b p)

blank-line : Lines 1 blank_row
unfolding blank_row
blank-line = same_line 32 (omega arith, omega arith)

foot-line : Lines 1 foot
unfolding foot
foot-line = same_line 45 (omega arith, omega arith)

pub heading-line : (n : ℕ) → n < 10 ^ 20 → Lines 1 (heading n)
unfolding heading ascii any
heading-line n h =
    one_line
    (left-long 64 (ascii "page " ++ decimal n)
    (omega (arith, length-append (ascii "page ") (decimal n), decimal-few 19 n h)))
    (left_printed 64 (all_append (text_printed (ascii "page ") refl) (decimal_printed n)))

module _ (m : Model) (good : WellFormed m) where
  pub best_fits : (t : ℕ) → ((best_support m t).number ≤ member_limit) × ((best_support m t).bonds ≤ member_limit * bond_limit)
  best_fits t = go (best_exact m good t)
    where
      Fits : Support → Type 0
      Fits x = (x.number ≤ member_limit) × (x.bonds ≤ member_limit * bond_limit)

      go : BestExact m t → Fits (best_support m t)
      go (shown {s = s} l e) = subst Fits (sym e) (support-fits m good s t)
      go (zeros none e) = subst Fits (sym e) (omega arith, omega arith)

  pub at-line : (p : ℕ) → Lines 1 (row_at m p)
  unfolding row_at checkpoint_row
  at-line p = ⊎_elim
      (λ h. rw (lt-ltb p (length m.checkpoints) h)
      (row_line p _ _ _ _ (omega (arith, few)) (omega (arith, height-low m.checkpoints good.tree p h, few))
      (omega (arith, best_fits p)) (omega (arith, best_fits p))))
      (λ h. rw (le-ltb p (length m.checkpoints) h) blank-line)
      (lt_or_ge p (length m.checkpoints))
    where
      few : length m.checkpoints ≤ checkpoint_limit
      few = good.tree.fit

  -- the rows of a page
  abbrev rows_of : ℕ → List ℕ
  rows_of k = concat_below 48 (λ i. row_at m (48 * k + i))

  pub page-lines : (k : ℕ) → k < pages m → Lines 50 (page (row_at m) k)
  unfolding page
  page-lines k h =
      lines_join (lines_join (heading-line (k + 1) (omega (arith, good.tree.fit)))
      (lines_concat 48 1 (λ i. row_at m (48 * k + i)) (λ i l. at-line (48 * k + i)))) foot-line

  page-long : (k : ℕ) → k < pages m → length (page (row_at m) k) ≡ 3250
  page-long k h = lines_long (page-lines k h)

  -- what stands on a page, line by line
  module _ (k : ℕ) (h : k < pages m) (i : ℕ) (inside : i < 50) where
    on-page : line_of (50 * k + i) (paper m) ≡ line_of i (page (row_at m) k)
    unfolding paper
    on-page =
        ap (λ (at : ℕ). part at 65 (concat_below (pages m) (page (row_at m))))
        (let e : 65 * (50 * k + i) ≡ 3250 * k + 65 * i = omega arith in e)
        ∙ part_concat (pages m) 3250 (page (row_at m)) page-long k (65 * i) 65 h (omega arith)

  rows_long : (k i : ℕ) → length (row_at m (48 * k + i)) ≡ 65
  rows_long k i = lines_long (at-line (48 * k + i))

  head-long : (k : ℕ) → k < pages m → length (heading (k + 1)) ≡ 65
  head-long k h = lines_long (heading-line (k + 1) (omega (arith, good.tree.fit)))

  body_long : (k : ℕ) → k < pages m → length (heading (k + 1) ++ rows_of k) ≡ 3185
  body_long k h =
      length-append (heading (k + 1)) (rows_of k)
      ∙ omega (arith, head-long k h, concat_long 48 65 (λ i. row_at m (48 * k + i)) (λ i l. rows_long k i))

  page-heading : (k : ℕ) → k < pages m → line_of 0 (page (row_at m) k) ≡ heading (k + 1)
  unfolding page
  page-heading k h =
      part-front 0 65 (heading (k + 1) ++ rows_of k) foot (omega (arith, body_long k h))
      ∙ part-front 0 65 (heading (k + 1)) (rows_of k) (omega (arith, head-long k h))
      ∙ take_all 65 (heading (k + 1)) (omega (arith, head-long k h))

  page-foot : (k : ℕ) → k < pages m → line_of 49 (page (row_at m) k) ≡ foot
  unfolding page
  page-foot k h =
      part-back 3185 0 65 (heading (k + 1) ++ rows_of k) foot (body_long k h)
      ∙ take_all 65 foot (omega (arith, lines_long foot-line))

  page-row : (k i : ℕ) → k < pages m → i < 48 → line_of (i + 1) (page (row_at m) k) ≡ row_at m (48 * k + i)
  unfolding page
  page-row k i h l =
      part-front (65 * (i + 1)) 65 (heading (k + 1) ++ rows_of k) foot (omega (arith, body_long k h))
      ∙ ap (λ (at : ℕ). part at 65 (heading (k + 1) ++ rows_of k))
      (let e : 65 * (i + 1) ≡ 65 + (65 * i + 0) = omega arith in e)
      ∙ part-back 65 (65 * i + 0) 65 (heading (k + 1)) (rows_of k) (head-long k h)
      ∙ part_concat 48 65 (λ i. row_at m (48 * k + i)) (λ i l. rows_long k i) i 0 65 l (omega arith)
      ∙ take_all 65 (row_at m (48 * k + i)) (omega (arith, rows_long k i))

  pub paper-long : length (paper m) ≡ 3250 * pages m
  unfolding paper
  paper-long = concat_long (pages m) 3250 (page (row_at m)) page-long

  -- the row of a place stands where it should
  row_for : (p : ℕ) → p < 48 * pages m → line_of (line_for p) (paper m) ≡ row_at m p
  row_for p h =
      let k : p / 48 < pages m = omega (arith, div-add-mod' p 48) in
      let i : p % 48 < 48 = mod-lt p {m = 48} (omega arith) in
      on-page (p / 48) k (p % 48 + 1) (omega arith)
      ∙ page-row (p / 48) (p % 48) k i
      ∙ ap (row_at m) (let e : 48 * (p / 48) + p % 48 ≡ p = omega (arith, div-add-mod' p 48) in e)

  pub paper-exact : PaperExact m
  unfolding paper row_at checkpoint_row blank_row heading foot
  paper-exact =
      record {
        lines = lines_concat (pages m) 50 (page (row_at m)) page-lines;
        long = paper-long;
        enough = omega arith;
        needed = omega arith;
        headed = λ k h.
            ap (λ (i : ℕ). line_of i (paper m)) (let e : 50 * k ≡ 50 * k + 0 = omega arith in e)
            ∙ on-page k h 0 (omega arith)
            ∙ page-heading k h;
        footed = λ k h. on-page k h 49 (omega arith) ∙ page-foot k h;
        row = λ p h. row_for p (omega arith) ∙ rw (lt-ltb p (length m.checkpoints) h) refl;
        blank = λ p h l. row_for p l ∙ rw (le-ltb p (length m.checkpoints) h) refl;
      }
