-- `tables::tree::tree_sound` meets its contract. The loop's invariant: every checkpoint passed takes a sound step.
-- Assumes nothing.
use mathlib.Core.Path.{◌≡◌}
use mathlib.Core.Bool.{true}
use Rattle.model.specs.Lists.{all_below}
use Rattle.tables.specs.Places.{is_step}
use Rattle.tables.proofs.tree.tree_sound.Given as goal

abbrev pub invariant-loop-i : goal.invariant-loop-i
invariant-loop-i l = true ≡ all_below l.i (λ k. is_step l.parents l.heights k)
