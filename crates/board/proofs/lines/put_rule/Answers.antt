-- `board::lines::put_rule` meets its contract. Assumes nothing.
use native.Mathlib.Omega.{arith}
use Rattle.model.specs.Report.{newline}
use Rattle.text.proofs.Putting.{next}
use Rattle.board.proofs.lines.put_rule.Goals as goal

pub returns : goal.returns
unfolding newline
returns c =
    let line = next c.fill-next.ensures c.put.ensures in
    (line, omega (arith, line.past))
