-- `voters::Bar::is_met_by` meets its contract: it is the definition's test. Assumes nothing.
use borrow.Author.Rules.{rules}
use Rattle.model.specs.Support.{quorum}
use Rattle.voters.proofs.Bar.is_met_by.Goals as goal

pub returns : goal.returns
unfolding quorum
returns c = search rules
