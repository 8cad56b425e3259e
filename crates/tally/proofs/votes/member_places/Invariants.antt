-- `tally::votes::member_places` meets its contract. The loop's invariant: the members of the votes passed are found.
-- Assumes nothing.
use Rattle.search.proofs.Filled.{Filled}
use Rattle.tally.specs.Chains.{member_of}
use Rattle.tally.proofs.votes.member_places.Given as goal

abbrev pub invariant-loop-k : goal.invariant-loop-k
invariant-loop-k l = Filled 0 4096 (member_of l.ids l.voters) l.places l.k
