-- `mover::drops_higher` meets its contract. The loop's invariant: no vote passed is dropped with a higher target.
-- Assumes nothing.
use mathlib.Core.Path.{◌≡◌}
use mathlib.Core.Bool.{false, ◌&&◌, not}
use lib.Dec.{ltb}
use lib.ListN.{get_or}
use Rattle.model.specs.Lists.{any_below}
use Rattle.tables.specs.Places.{place_at, height_at}
use Rattle.mover.proofs.drops_higher.Given as goal

abbrev pub invariant-loop-i : goal.invariant-loop-i
invariant-loop-i l =
    false ≡ any_below l.i (λ j. not (get_or l.votes j false) && ltb l.root.0 (height_at l.w.heights (place_at l.w.targets j)))
