-- `mover::drops_evidence` meets its contract. The loop's invariant: no charge passed shows a vote that does not stay.
-- Assumes nothing.
use mathlib.Core.Path.{◌≡◌}
use mathlib.Core.Bool.{false}
use Rattle.model.specs.Lists.{any_below}
use Rattle.mover.specs.Moved.{shows_dropped}
use Rattle.mover.proofs.drops_evidence.Given as goal

abbrev pub invariant-loop-charge : goal.invariant-loop-charge
invariant-loop-charge l = false ≡ any_below l.charge-index (shows_dropped l.votes l.charges)
