-- `summary::checkpoints::checkpoint_lines` meets its contract. The loop's invariant: the lines of the first `p` places are written. Assumes nothing.
use Prim.Native.Nat.{◌+◌, ◌*◌, ◌≤◌}
use Rattle.model.specs.Report.{checkpoint_lines}
use Rattle.state.specs.State.{model_of}
use Rattle.text.specs.Put.{Put}
use Rattle.summary.proofs.checkpoints.checkpoint_lines.Given as goal

abbrev pub invariant-loop-p : goal.invariant-loop-p
invariant-loop-p l = (l.next ≤ l.at + 80 * l.p) × Put l.initial.buf l.at (checkpoint_lines (model_of l.w) l.p) l.buf l.next
