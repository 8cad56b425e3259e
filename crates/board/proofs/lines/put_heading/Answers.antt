-- `board::lines::put_heading` meets its contract: the page number, blanks up to 64 columns, and the newline.
-- Assumes nothing.
use Prim.Native.Nat.{ℕ, ◌+◌, ◌-◌}
use native.Mathlib.Omega.{arith}
use mathlib.Core.List.{◌++◌}
use mathlib.Core.Path.{◌≡◌}
use mathlib.Core.Path.{ap}
use lib.ListN.{length, length-replicate}
use Rattle.model.specs.Bytes.{ascii}
use Rattle.model.specs.Paper.{heading, left, blanks}
use Rattle.model.specs.Report.{decimal, newline}
use Rattle.model.proofs.Columns.{lines_long}
use Rattle.model.proofs.Paper.{heading-line}
use Rattle.text.proofs.Putting.{kept, spelled, next}
use Rattle.board.proofs.lines.put_heading.Goals as goal

pub put-requires : goal.put-requires
put-requires c =
    let columns = length-replicate {A = ℕ}
    (c.args.at + 64 - c.put_number-two.result) 32 in
    omega (
      arith,
      columns,
      c.fill-three.ensures.past,
      c.put_number-two.ensures.1,
      c.put-one.ensures.past,
      kept c.fill-three.ensures,
      kept c.put_number-two.ensures.0,
      kept c.put-one.ensures,
    )

pub returns : goal.returns
unfolding heading left ascii newline
returns c =
    let text = ascii "page " ++ decimal c.args.n in
    let columns : c.args.at + 64 - c.put_number-two.result ≡ 64 - length text =
    omega (arith, (next c.put-one.ensures c.put_number-two.ensures.0).past) in
    let line = spelled
    (next (next (next c.put-one.ensures c.put_number-two.ensures.0) c.fill-three.ensures)
    c.put.ensures)
    (ap (λ (k : ℕ). text ++ blanks k ++ newline) columns) in
    (line, omega (arith, line.past, lines_long (heading-line c.args.n (omega (arith, c.ranges.n)))))
