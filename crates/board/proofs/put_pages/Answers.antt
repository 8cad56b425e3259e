use native.Mathlib.Omega.{arith}
use Rattle.model.specs.Paper.{page}
use Rattle.text.proofs.Putting.{concat_none, concat_more}
use Rattle.board.specs.Rows.{row_in}
use Rattle.board.proofs.put_pages.Goals as goal

pub loop-k-init : goal.loop-k-init
loop-k-init c = (concat_none (page (row_in c.args.rows.now)) (omega arith), omega arith)

pub loop-k-preserved : goal.loop-k-preserved
loop-k-preserved c =
    let so = c.put_page-at.ensures in (
      concat_more (page (row_in c.args.rows.now)) c.loop-k.k c.loop-k.invariant.0 so.0,
      omega (arith, so.1, c.loop-k.invariant.1),
    )
