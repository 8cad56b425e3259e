-- `reader::read_many` meets its contract. The loop's invariant: what was passed so far, and what remains, is the whole
-- (`Sofar`), and the votes' numbers are those of the witness (`Searched`). Assumes nothing.
use Prim.Native.Nat.{◌-◌}
use lib.ListN.{length}
use Rattle.reader.specs.Many.{read_many}
use Rattle.reader.specs.Storing.{Searched}
use Rattle.reader.proofs.Runs.{Sofar}
use Rattle.reader.proofs.read_many.Given as goal

abbrev pub invariant-loop-records : goal.invariant-loop-records
invariant-loop-records l =
    Sofar (read_many l.limit (length l.initial.rows) l.initial.held l.log l.at) l.limit l.log l.initial.rows l.rows l.held l.next l.last l.records l.used
    × Searched l.held l.links

abbrev pub decreases-loop-records : goal.decreases-loop-records
decreases-loop-records l = l.limit - l.records
