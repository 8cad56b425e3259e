-- `ffw_dump::put_lines`: what was passed over and what was written lie in their buffers.
use Rattle.std.proofs.Common.{◌-◌, ◌≤◌, length}
use Rattle.ffw_dump.proofs.put_lines.Given as goal

abbrev pub invariant-loop-out : goal.invariant-loop-out
invariant-loop-out l = (l.r.next ≤ length l.input) × (l.r.written ≤ length l.out)

abbrev pub decreases-loop-out : goal.decreases-loop-out
decreases-loop-out l = length l.input - l.r.next
