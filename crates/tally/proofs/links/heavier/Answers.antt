-- `tally::links::heavier` meets its contract: the other voters are weighed, and compared. Assumes nothing.
use mathlib.Core.Path.{sym}
use native.Mathlib.Omega.{arith}
use Rattle.tally.proofs.Heaviest.{heavier-first, heavier-second}
use Rattle.tally.proofs.links.heavier.Goals as goal

pub returns-then-one-weight : goal.returns-then-one-weight
returns-then-one-weight c = (
  c.weigh-weight.ensures,
  sym (heavier-second _ (omega (arith, c.requires.1, c.weigh-weight.ensures, c.if-one-weight.true))),
)

pub returns : goal.returns
returns c = (
  c.requires.1,
  sym (heavier-first _ (omega (arith, c.requires.1, c.weigh-weight.ensures, c.if-one-weight.false))),
)
