-- `state::Numbers::is_given` meets its contract: none was given exactly where both are 0. Assumes nothing.
use Rattle.state.specs.State.{quota_in}
use Rattle.state.proofs.Rules.{given-by-p, given-by-q}
use Rattle.state.proofs.Numbers.is_given.Goals as goal

pub returns-then-self-ne0 : goal.returns-then-self-ne0
returns-then-self-ne0 c = given-by-p (quota_in c.args.self) c.if-self-ne0.true

pub returns-else-self-ne0 : goal.returns-else-self-ne0
returns-else-self-ne0 c = given-by-q (quota_in c.args.self) c.if-self-ne0.false
