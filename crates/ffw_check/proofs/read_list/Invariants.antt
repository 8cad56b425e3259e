-- What was read lies in the buffer.
use Rattle.std.proofs.Common.{◌≤◌, length}
use Rattle.ffw_check.proofs.read_list.Given as goal

abbrev pub invariant-loop : goal.invariant-loop
invariant-loop g l = l.have ≤ length l.list
