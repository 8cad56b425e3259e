-- Each turn is one more.
use Prim.Native.Nat.{◌≤◌}
use lib.ListN.{length}
use Rattle.stream.specs.Reads.{Reads}
use Rattle.stream.proofs.read_pieces.Given as goal

abbrev pub invariant-loop : goal.invariant-loop
invariant-loop g l = (l.t.have ≤ length l.input) × Reads (length l.initial.output) l.t l.input
