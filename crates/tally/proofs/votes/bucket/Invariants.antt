-- `tally::votes::bucket` meets its contract. The loop's invariant: the votes passed are in chains. Assumes nothing.
use mathlib.Core.Path.{◌≡◌}
use lib.ListN.{length}
use Rattle.tally.specs.Chains.{ByTarget}
use Rattle.tally.proofs.votes.bucket.Given as goal

abbrev pub invariant-loop-k : goal.invariant-loop-k
invariant-loop-k l = record { long : length l.head ≡ 512; chained : ByTarget l.targets l.k l.head l.next }
