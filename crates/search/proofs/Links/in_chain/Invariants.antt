-- The loop's invariant: `hit` and what the numbers left say make what all numbers of the chain say.
use lib.Dec.{eqb}
use lib.ListN.{get_or}
use Rattle.search.proofs.Chains.{Walked}
use Rattle.search.proofs.Links.in_chain.Given as goal

abbrev pub invariant-loop : goal.invariant-loop
invariant-loop l = Walked (λ k. eqb (get_or l.self.numbers k 0) l.x) l.self.nexts l.from l.hit l.at
