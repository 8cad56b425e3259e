-- `lines::pair` meets its contract: the pieces, one after another. Assumes nothing.
use native.Mathlib.Omega.{arith}
use Rattle.text.proofs.Putting.{next}
use Rattle.lines.proofs.pair.Goals as goal

pub returns : goal.returns
returns c =
    (next (next (next c.put-one.ensures c.put_number-two.ensures.0) c.put-three.ensures) c.put_number.ensures.0, omega arith)
