-- `stream::read_pieces` meets its contract: each turn is one more.
use native.Mathlib.Omega.{arith}
use mathlib.Core.List.{[]}
use Rattle.stream.specs.Reads.{at-start}
use Rattle.stream.proofs.Turned.{turned}
use Rattle.stream.proofs.read_pieces.Goals as goal

pub loop-init : goal.loop-init
loop-init g c =
    (omega (arith, c.start-t.ensures.have), record { log = []; text = []; reached = at-start c.start-t.ensures })

pub loop-preserved : goal.loop-preserved
loop-preserved g c =
    (c.step-t.ensures.inside, turned _ (omega (arith, c.loop.auto.output)) c.loop.invariant.1 c.in-Open.is c.step-t.ensures)
