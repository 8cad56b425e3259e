-- `board::put_page` meets its contract: heading, rows and foot. Assumes nothing.
use native.Mathlib.Omega.{arith}
use Rattle.model.specs.Paper.{page, foot}
use Rattle.text.proofs.Putting.{next}
use Rattle.board.proofs.put_page.Goals as goal

pub returns : goal.returns
unfolding page foot
returns c =
    let all = next (next c.put_heading-one.ensures.0 c.put_rows-two.ensures.0)
    c.put_rule.ensures.0 in
    (all, omega (arith, c.put_heading-one.ensures.1, c.put_rows-two.ensures.1, c.put_rule.ensures.1))
