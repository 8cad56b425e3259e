-- `board::lines::put_field` meets its contract. Assumes nothing.
use native.Mathlib.Omega.{arith}
use Rattle.model.proofs.Columns.{right-long}
use Rattle.model.specs.Report.{decimal}
use Rattle.text.proofs.Putting.{kept, next}
use Rattle.board.proofs.lines.put_field.Goals as goal

pub fill-requires : goal.fill-requires
fill-requires c =
    omega (
      arith,
      right-long c.args.columns (decimal c.args.n) c.requires.0,
      c.put_right-next.ensures.past,
      kept c.put_right-next.ensures,
    )

pub returns : goal.returns
returns c =
    next c.put_right-next.ensures c.fill.ensures
