-- `finality::backed_by` meets its contract. Assumes nothing.
use borrow.Author.Rules.{rules}
use Rattle.voters.proofs.Weights.{weight-bound}
use Rattle.finality.proofs.backed_by.Goals as goal

pub is_met_by-requires : goal.is_met_by-requires
is_met_by-requires c = search (rules, weight-bound)
