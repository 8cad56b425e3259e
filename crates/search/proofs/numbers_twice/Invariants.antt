-- The loop's invariant: `hit` says whether a number stands twice among the `j` passed.
use mathlib.Core.Path.{◌≡◌}
use lib.Dec.{eqb}
use lib.ListN.{get_or}
use Rattle.model.specs.Lists.{pair_below}
use Rattle.search.proofs.numbers_twice.Given as goal

abbrev pub invariant-loop-j : goal.invariant-loop-j
invariant-loop-j l = l.hit ≡ pair_below l.j (λ a b. eqb (get_or l.numbers a 0) (get_or l.numbers b 0))
