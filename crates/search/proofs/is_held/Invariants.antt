-- The loop's invariant: `hit` says whether the number is among those passed.
use mathlib.Core.Path.{◌≡◌}
use lib.Dec.{eqb}
use lib.ListN.{get_or}
use Rattle.model.specs.Lists.{any_below}
use Rattle.search.proofs.is_held.Given as goal

abbrev pub invariant-loop-n : goal.invariant-loop-n
invariant-loop-n l = l.hit ≡ any_below l.n-index (λ i. eqb (get_or l.numbers i 0) l.x)
