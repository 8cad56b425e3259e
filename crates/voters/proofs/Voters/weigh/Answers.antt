-- `voters::Voters::weigh` meets its contract: nobody weighs nothing, and the others' bonds are added up. Assumes
-- nothing.
use Rattle.voters.proofs.Weights.{nobody_weighs}
use Rattle.voters.proofs.Voters.weigh.Goals as goal

pub returns-then-self-eq0-2 : goal.returns-then-self-eq0-2
returns-then-self-eq0-2 c = nobody_weighs _ _ c.args.self c.if-self-eq0.true c.if-self-eq0-2.true
