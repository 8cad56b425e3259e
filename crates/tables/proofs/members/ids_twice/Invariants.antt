-- `tables::members::ids_twice` meets its contract. The loop's invariant: `hit` says whether an id stands twice among the
-- `j` passed. Assumes nothing.
use mathlib.Core.Path.{◌≡◌}
use lib.Dec.{eqb}
use lib.ListN.{get_or}
use Rattle.model.specs.Lists.{pair_below}
use Rattle.tables.proofs.members.ids_twice.Given as goal

abbrev pub invariant-loop-j : goal.invariant-loop-j
invariant-loop-j l = l.hit ≡ pair_below l.j (λ a b. eqb (get_or l.ids a 0) (get_or l.ids b 0))
