-- `names::next_alike` meets its contract. The loop's invariant: none of the names passed over is the one looked for.
-- Assumes nothing.
use Prim.Native.Nat.{◌+◌, ◌≤◌, ◌-◌}
use mathlib.Core.Path.{◌≡◌}
use Rattle.model.specs.Bytes.{part}
use Rattle.wire.specs.Words.{le_of}
use Rattle.names.proofs.Words.{Others}
use Rattle.names.proofs.next_alike.Given as goal

abbrev pub invariant-loop-i : goal.invariant-loop-i
invariant-loop-i l =
    (l.from ≤ l.i) × (l.i ≤ l.count) × (l.word ≡ le_of (part (l.at + l.d) 8 l.s)) × Others l.names l.s l.at l.from l.i

abbrev pub decreases-loop-i : goal.decreases-loop-i
decreases-loop-i l = l.count - l.i
