-- `evidence::write_entries` meets its contract. The loop's invariant: the first `i` entries are written. Assumes nothing.
use mathlib.Core.Path.{◌≡◌}
use lib.ListN.{length}
use Rattle.evidence.specs.Listed.{charges_in}
use Rattle.evidence.proofs.Bytes.{Entered}
use Rattle.evidence.proofs.write_entries.Given as goal

abbrev pub invariant-loop-i : goal.invariant-loop-i
invariant-loop-i l = (length l.buf ≡ length l.initial.buf) × Entered (charges_in l.charges) l.i l.initial.buf l.buf
