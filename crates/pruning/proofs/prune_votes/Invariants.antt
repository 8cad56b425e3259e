-- `pruning::prune_votes` meets its contract. The loop's invariant: of the first `j` votes those that stay are in front.
-- Assumes nothing.
use Rattle.pruning.proofs.Parts.{VotesTo}
use Rattle.pruning.proofs.prune_votes.Given as goal

abbrev pub invariant-loop-j : goal.invariant-loop-j
invariant-loop-j l = VotesTo l.initial.w l.k l.w l.n l.j
