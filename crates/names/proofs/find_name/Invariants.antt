-- `names::find_name` meets its contract. The loop's invariant: the first `i` names are passed. Assumes nothing.
use Prim.Native.Nat.{◌≤◌, ◌<◌, ◌-◌}
use Rattle.names.proofs.Words.{NamesPassed}
use Rattle.names.proofs.find_name.Given as goal

abbrev pub invariant-loop-i : goal.invariant-loop-i
invariant-loop-i l = (l.which < 4) × (l.i ≤ l.count) × NamesPassed l.names l.s l.at l.count l.i

abbrev pub decreases-loop-i : goal.decreases-loop-i
decreases-loop-i l = l.count - l.i
