-- `tally::votes::gather` meets its contract. The loop's invariant: what the tally has and what the votes left say make
-- what all votes say. Assumes nothing.
use Rattle.tally.proofs.Chains.{Gathered}
use Rattle.tally.proofs.votes.gather.Given as goal

abbrev pub invariant-loop-vote : goal.invariant-loop-vote
invariant-loop-vote l = Gathered l.who l.sources l.next l.first l.voters l.at

abbrev pub decreases-loop-vote : goal.decreases-loop-vote
decreases-loop-vote l = l.at
