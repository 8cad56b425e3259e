-- `state::quotas::is_permitted` meets its contract: it is the definition's test. Assumes nothing.
use mathlib.Core.Path.{refl}
use Rattle.model.specs.Rule.{permitted?}
use Rattle.state.proofs.quotas.is_permitted.Goals as goal

pub returns : goal.returns
unfolding permitted?
returns c = refl
