-- `state::has_mark` meets its contract. Assumes nothing.
use mathlib.Core.Path.{◌∙◌}
use lib.ListN.{take}
use Rattle.model.specs.Bytes.{ascii}
use Rattle.state.proofs.Header.{mark-same}
use Rattle.state.proofs.has_mark.Goals as goal

pub returns : goal.returns
unfolding ascii
returns c = c.starts_with.ensures.value ∙ mark-same (take 3 c.args.log.now) (ascii "FFW")
