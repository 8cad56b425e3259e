-- The loop's invariant: the numbers passed are in chains.
use lib.ListN.{get_or}
use Rattle.search.specs.Chains.{Indexed}
use Rattle.search.proofs.Filled.{Filled}
use Rattle.search.proofs.Links.of.Given as goal

abbrev pub invariant-loop-k : goal.invariant-loop-k
invariant-loop-k l =
    Indexed l.k l.links.numbers l.links.heads l.links.nexts
    × Filled 0 4096 (λ i. get_or l.numbers i 0) l.links.numbers l.k
