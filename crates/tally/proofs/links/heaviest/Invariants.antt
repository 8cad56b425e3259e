-- `tally::links::heaviest` meets its contract. The loop's invariant: the best so far is the heaviest of the sources
-- passed. Assumes nothing.
use lib.ListN.{length}
use Rattle.tally.specs.Chains.{voters_at}
use Rattle.tally.specs.Weights.{IsHeaviest}
use Rattle.tally.proofs.links.heaviest.Given as goal

abbrev pub invariant-loop-s : goal.invariant-loop-s
invariant-loop-s l = IsHeaviest l.bonds (length l.bonds) l.marks (voters_at l.voters) l.s l.best
