-- `feeding::refused_lines` meets its contract. Assumes nothing.
use Prim.Native.Nat.{ℕ, ◌+◌, ◌%◌, ◌≤◌}
use native.Mathlib.Omega.{arith}
use mathlib.Core.Path.{◌≡◌, sym, ap, ◌∙◌, subst₂}
use mathlib.Core.List.{List, [], ◌++◌, append-nil}
use mathlib.Core.Bool.{Bool, cond}
use borrow.Author.Tests.{lt-ltb, le-ltb}
use lib.ListN.{length, get_or, drop, drop_of_length-le}
use Rattle.text.specs.Put.{Put}
use Rattle.text.proofs.Putting.{none, spelled, kept}
use Rattle.feeding.specs.Rows.{row_line, number_at, next_at, lines_from}
use Rattle.feeding.proofs.Rows.{row-none, row-some, may-begin, line-more}
use Rattle.feeding.proofs.refused_lines.Goals as goal
use Rattle.feeding.proofs.refused_lines.Goals.{Joined-entry-lt128, Joined-row-ne0, else-entry-lt128, else-row-ne0, then-entry-lt128, then-row-ne0}

pub overflow_add-next : goal.overflow_add-next
overflow_add-next c =
    omega (arith, may-begin c.loop-entry.invariant c.loop-entry-test.true c.if-entry-lt128.true, c.requires.1)

-- the number of the record that the entry is of, and of the next one
numbers : (c : Joined-entry-lt128) → let l = c.before.before.before in
    let entry = get_or c.args.rows.now c.loop-entry.entry-index 0 in
    (c.if-entry-lt128.number ≡ number_at c.loop-entry.number c.loop-entry.next entry) × (c.if-entry-lt128.next ≡ next_at c.loop-entry.next entry)
numbers c =
    let l = c.before.before.before in
    let entry = get_or c.args.rows.now c.loop-entry.entry-index 0 in
    elim c.if-entry-lt128.branch [
      | then-entry-lt128 w ↦ let begins = lt-ltb entry 128 w.if-entry-lt128.true in
          (w.number-is ∙ sym (ap (λ (b : Bool). cond b c.loop-entry.next c.loop-entry.number) begins), w.next-is ∙ sym (ap (λ (b : Bool). cond b (c.loop-entry.next + 1) c.loop-entry.next) begins))
      | else-entry-lt128 w ↦ let later = le-ltb entry 128 w.if-entry-lt128.false in
          (w.number-is ∙ sym (ap (λ (b : Bool). cond b c.loop-entry.next c.loop-entry.number) later), w.next-is ∙ sym (ap (λ (b : Bool). cond b (c.loop-entry.next + 1) c.loop-entry.next) later))
    ]

-- the line of one entry
abbrev Wrote : (c : Joined-entry-lt128) → List ℕ → ℕ → Type 0
Wrote c buf end =
    let entry = get_or c.args.rows.now c.loop-entry.entry-index 0 in
    Put c.loop-entry.buf c.loop-entry.end (row_line c.if-entry-lt128.number (entry % 128)) buf end × (end ≤ c.loop-entry.end + 64)

wrote : (c : Joined-row-ne0) → Wrote (goal.at.Joined-row-ne0 c).Joined-entry-lt128 c.if-row-ne0.buf c.if-row-ne0.end
wrote c =
    let row = get_or c.args.rows.now c.loop-entry.entry-index 0 % 128 in
    let so = c.loop-entry.invariant in
    let inside : c.loop-entry.end ≤ length c.loop-entry.buf = omega (arith, kept so.put, so.put.fits, so.put.past) in
    elim c.if-row-ne0.branch [ then-row-ne0 w ↦ subst₂ (Wrote (goal.at.Joined-row-ne0 c).Joined-entry-lt128) (sym w.buf-is) (sym w.end-is) (spelled w.refused_line-end.ensures.0 (row-some c.if-entry-lt128.number row w.if-row-ne0.true), w.refused_line-end.ensures.1) | else-row-ne0 w ↦ subst₂ (Wrote (goal.at.Joined-row-ne0 c).Joined-entry-lt128) (sym w.buf-is) (sym w.end-is) (spelled (none c.loop-entry.buf c.loop-entry.end inside) (row-none c.if-entry-lt128.number row w.if-row-ne0.false), omega arith) ]

pub loop-entry-preserved : goal.loop-entry-preserved
loop-entry-preserved c =
    let entry = get_or c.args.rows.now c.loop-entry.entry-index 0 in
    let is = numbers (goal.at.loop-entry-preserved c).Joined-entry-lt128 in
    let line = wrote (goal.at.loop-entry-preserved c).Joined-row-ne0 in
    line-more c.loop-entry.invariant c.loop-entry-test.true is.0 is.1
    (spelled line.0 (ap (λ (j : ℕ). row_line j (entry % 128)) is.0)) line.1

pub shape_of-buf : goal.shape_of-buf
shape_of-buf c = kept c.loop-entry.invariant.put

pub returns : goal.returns
unfolding lines_from
returns c =
    let l = c.loop-entry in
    let a = c.args in
    let none_left : drop l.entry-index a.rows.now ≡ [] = drop_of_length-le a.rows.now c.loop-entry-test.false in (
      spelled l.invariant.put (sym (l.invariant.more ∙ ap (λ (x : List ℕ). l.invariant.text ++ lines_from l.number l.next x) none_left ∙ append-nil l.invariant.text)),
      omega (arith, l.invariant.inside, l.invariant.short),
    )
