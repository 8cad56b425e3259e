-- `ffw_dump::put_hex`: two digits are written for each byte.
use Rattle.std.proofs.Common.{◌≡◌, ◌+◌, ◌*◌}
use Rattle.ffw_dump.proofs.put_hex.Given as goal

abbrev pub invariant-loop-b : goal.invariant-loop-b
invariant-loop-b l = l.end ≡ l.at + 2 * l.b-index
