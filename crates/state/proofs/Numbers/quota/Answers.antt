-- `state::Numbers::quota` meets its contract: the given quota, or that of the standard rule. Assumes nothing.
use mathlib.Core.Path.{sym, ◌∙◌}
use Rattle.model.specs.Rule.{quota_of}
use Rattle.state.proofs.Rules.{given-quota, standard-quota}
use Rattle.state.proofs.Numbers.quota.Goals as goal

pub returns-then-is_given : goal.returns-then-is_given
returns-then-is_given c = given-quota _ (sym c.is_given.ensures ∙ c.if-is_given.true)

pub returns-else-is_given : goal.returns-else-is_given
unfolding quota_of
returns-else-is_given c = standard-quota _ (sym c.is_given.ensures ∙ c.if-is_given.false)
