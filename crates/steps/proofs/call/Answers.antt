-- `steps::call` meets its contract.
use mathlib.Core.Bool.{true, false}
use Rattle.steps.proofs.Turning.{by-begun}
use Rattle.steps.proofs.call.Goals as goal

pub returns-then-t : goal.returns-then-t
returns-then-t c = by-begun c.args.t.now.begun _ _ _ _ _ true c.if-t.true c.feed.ensures

pub returns : goal.returns
returns c = by-begun c.args.t.now.begun _ _ _ _ _ false c.if-t.false c.«open».ensures
