-- `tables::votes::keys` meets its contract. The loop's invariant: the votes passed are numbers. Assumes nothing.
use Rattle.tables.specs.Keys.{Packed}
use Rattle.tables.proofs.votes.keys.Given as goal

abbrev pub invariant-loop-k : goal.invariant-loop-k
invariant-loop-k l = Packed l.voters l.sources l.targets l.k l.keys
