-- `state::begin` meets its contract: a right header begins an empty witness, another leaves the one that is there. Assumes
-- nothing.
use Rattle.state.proofs.Header.{refused-beginning, right-beginning}
use Rattle.state.proofs.begin.Goals as goal

pub returns-in-Ok : goal.returns-in-Ok
returns-in-Ok c = right-beginning c.args.w c.check_header-outcome.ensures.outcome c.in-Ok.is c.empty-witness.ensures

pub returns-in-Err : goal.returns-in-Err
returns-in-Err c = refused-beginning c.args.w c.check_header-outcome.ensures.outcome c.in-Err.is
