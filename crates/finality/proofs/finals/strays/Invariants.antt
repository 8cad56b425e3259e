-- `finality::finals::strays` meets its contract. The loop's invariant: no place passed strays. Assumes nothing.
use Prim.Native.Nat.{ℕ, ◌<◌}
use mathlib.Core.Path.{◌≡◌}
use mathlib.Core.Bool.{false}
use Rattle.model.specs.Lists.{any_below}
use Rattle.tables.specs.Places.{tree_of, Falling}
use Rattle.tally.specs.Marks.{final_at}
use Rattle.finality.specs.Answers.{stray}
use Rattle.finality.proofs.finals.strays.Given as goal

abbrev pub invariant-loop-p : goal.invariant-loop-p
invariant-loop-p l =
    (places : ℕ) → l.f.0 < places → Falling places l.parents
    → false ≡ any_below l.p (stray (final_at l.marks) (tree_of places l.parents) l.f.0)
