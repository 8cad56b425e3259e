-- `voters::Voters::carries` meets its contract: the voters are weighed. Assumes nothing.
use borrow.Author.Rules.{rules}
use Rattle.voters.proofs.Weights.{weight-bound}
use Rattle.voters.proofs.Voters.carries.Goals as goal

pub is_met_by-requires : goal.is_met_by-requires
is_met_by-requires c = search (rules, weight-bound)

pub returns : goal.returns
returns c = rw c.weigh.ensures at c.is_met_by.ensures
