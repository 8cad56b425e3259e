-- `pruning::kept_by` meets its contract. The loop's invariant: the places below `p` are looked at. Assumes nothing.
use Prim.Native.Nat.{◌≤◌}
use Rattle.model.specs.Limits.{checkpoint_limit}
use Rattle.state.specs.State.{model_of}
use Rattle.pruning.proofs.Stays.{Found}
use Rattle.pruning.proofs.kept_by.Given as goal

abbrev pub invariant-loop-p : goal.invariant-loop-p
invariant-loop-p l =
    (l.fn.w.checkpoint_count ≤ checkpoint_limit)
    × Found (model_of l.fn.w).checkpoints l.root l.stays l.anew l.n l.p
