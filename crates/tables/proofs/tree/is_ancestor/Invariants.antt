-- `tables::tree::is_ancestor` meets its contract. The loop's invariant: the walk from t by parents has come to `at`.
-- Assumes nothing.
use Prim.Native.Nat.{ℕ, ◌<◌, ◌≤◌}
use Rattle.tables.specs.Places.{Falling, tree_of}
use Rattle.tables.proofs.Ancestry.{Walk}
use Rattle.tables.proofs.tree.is_ancestor.Given as goal

abbrev pub invariant-loop-at : goal.invariant-loop-at
invariant-loop-at l =
    (l.at.0 ≤ l.t.0)
    × ((count : ℕ) → l.t.0 < count → Falling count l.parents → Walk (tree_of count l.parents) l.s.0 l.t.0 l.at.0)

abbrev pub decreases-loop-at : goal.decreases-loop-at
decreases-loop-at l = l.at.0
