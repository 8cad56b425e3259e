-- `finality::finals::last_final` meets its contract. The loop's invariant: `last` is the greatest final place passed,
-- once the root is. Assumes nothing.
use Prim.Native.Nat.{◌+◌, ◌<◌}
use mathlib.Core.Path.{◌≡◌}
use Rattle.search.specs.Chains.{last_below}
use Rattle.tally.specs.Marks.{final_at}
use Rattle.finality.proofs.finals.last_final.Given as goal

abbrev pub invariant-loop-p : goal.invariant-loop-p
invariant-loop-p l = 0 < l.p → l.last.0 + 1 ≡ last_below l.p (final_at l.marks)
