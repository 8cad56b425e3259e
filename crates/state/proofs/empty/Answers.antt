-- `state::empty` meets its contract: the name is the 32 bytes of the log at 5. Assumes nothing.
use Rattle.state.proofs.Stored.{empty-is}
use Rattle.state.proofs.empty.Goals as goal

pub returns : goal.returns
returns c = empty-is c.args.log.now c.copy_name.ensures
