-- `ffw_dump::dump_log` is safe: the bytes at hand lie in the buffer.
use Rattle.std.proofs.Common.{◌≤◌, length}
use Rattle.ffw_dump.proofs.dump_log.Given as goal

abbrev pub invariant-loop : goal.invariant-loop
invariant-loop g l = l.t.have ≤ length l.input
