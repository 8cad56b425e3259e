-- `tables::members::id_held` meets its contract. The loop's invariant: `hit` says whether the id is among those passed.
-- Assumes nothing.
use mathlib.Core.Path.{◌≡◌}
use lib.Dec.{eqb}
use lib.ListN.{get_or}
use Rattle.model.specs.Lists.{any_below}
use Rattle.tables.proofs.members.id_held.Given as goal

abbrev pub invariant-loop-held : goal.invariant-loop-held
invariant-loop-held l = l.hit ≡ any_below l.held-index (λ k. eqb (get_or l.ids k 0) l.id)
