-- `board::lines::put_row` meets its contract: the fields one after another, and the newline. Assumes nothing.
use Prim.Native.Nat.{◌+◌, ◌≤◌}
use native.Mathlib.Omega.{arith}
use mathlib.Core.Path.{◌∙◌}
use lib.ListN.{length}
use Rattle.model.specs.Paper.{row_text}
use Rattle.model.specs.Report.{decimal, newline}
use Rattle.model.proofs.Columns.{decimal-few, right-long, lines_long}
use Rattle.model.proofs.Paper.{row_line}
use Rattle.text.proofs.Putting.{kept, spelled, next}
use Rattle.board.proofs.Widths.{field_wide, standing_wide, row_of_fields}
use Rattle.board.proofs.lines.put_row.Goals as goal
use Rattle.board.proofs.lines.put_row.Goals.{After-put_field-four, After-put_field-one, After-put_field-two, After-put_standing-three}

-- after each there is room for the rest of the row
after-place : (c : After-put_field-one) → c.put_field-one.result + 58 ≤ length c.put_field-one.new.buf
after-place c =
    let p = c.from.result in
    let put = c.put_field-one.ensures in
    omega (arith, c.requires, put.past, kept put, field_wide 5 p (decimal-few 4 p (omega (arith, c.from.ensures))))

after-height : (c : After-put_field-two) → c.put_field-two.result + 46 ≤ length c.put_field-two.new.buf
after-height c =
    let h = c.from-2.result in
    let put = c.put_field-two.ensures in
    omega (arith, after-place (goal.at.After-put_field-two c).After-put_field-one, put.past, kept put, field_wide 10 h (decimal-few 9 h (omega (arith, c.from-2.ensures))))

after-standing : (c : After-put_standing-three) → c.put_standing-three.result + 32 ≤ length c.put_standing-three.new.buf
after-standing c =
    let s = c.args.row.now.status in
    let put = c.put_standing-three.ensures in
    omega (arith, after-height (goal.at.After-put_standing-three c).After-put_field-two, put.past, kept put, standing_wide s)

after-number : (c : After-put_field-four) → c.put_field-four.result + 25 ≤ length c.put_field-four.new.buf
after-number c =
    let n = c.from-3.result in
    let put = c.put_field-four.ensures in
    let wide = field_wide 5 n (decimal-few 4 n (omega (arith, c.from-3.ensures))) in
    omega (arith, after-standing (goal.at.After-put_field-four c).After-put_standing-three, put.past, kept put, wide)

pub put_field-one-requires : goal.put_field-one-requires
put_field-one-requires c = (decimal-few 4 _ (omega arith), omega arith)

pub put_field-two-requires : goal.put_field-two-requires
put_field-two-requires c =
    (decimal-few 9 _ (omega arith), omega (arith, after-place (goal.at.put_field-two-requires c).After-put_field-one))

pub put_standing-three-requires : goal.put_standing-three-requires
put_standing-three-requires c = omega (arith, after-height (goal.at.put_standing-three-requires c).After-put_field-two)

pub put_field-four-requires : goal.put_field-four-requires
put_field-four-requires c = (decimal-few 4 _ (omega arith), omega (arith, after-standing (goal.at.put_field-four-requires c).After-put_standing-three))

pub put_right-five-requires : goal.put_right-five-requires
put_right-five-requires c = (decimal-few 23 _ (omega arith), omega (arith, after-number (goal.at.put_right-five-requires c).After-put_field-four))

pub put-requires : goal.put-requires
put-requires c =
    let bonds = c.args.row.now.bonds in
    let put = c.put_right-five.ensures in
    let wide = right-long 24 (decimal bonds) (decimal-few 23 bonds (omega arith)) in
    omega (arith, after-number (goal.at.put-requires c).After-put_field-four, put.past, kept put, wide)

pub returns : goal.returns
unfolding newline
returns c =
    let a = c.args in
    let row = a.row.now in
    let all = spelled
    (next
    (next
    (next
    (next (next c.put_field-one.ensures c.put_field-two.ensures) c.put_standing-three.ensures)
    c.put_field-four.ensures)
    c.put_right-five.ensures)
    c.put.ensures)
    (row_of_fields _ _ row.status _ row.bonds
    ∙ (λ i. row_text (c.from.ensures i) (c.from-2.ensures i) row.status (c.from-3.ensures i) row.bonds)) in
    let line = row_line row.place.0 row.height.0 row.status row.number row.bonds
    (omega arith)
    (omega arith)
    (omega arith)
    (omega arith) in
    (all, omega (arith, all.past, lines_long line))
