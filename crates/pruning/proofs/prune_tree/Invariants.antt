-- `pruning::prune_tree` meets its contract. The loop's invariant: of the first `p` checkpoints those that stay are in
-- front. Assumes nothing.
use Rattle.pruning.proofs.Parts.{TreeTo}
use Rattle.pruning.proofs.prune_tree.Given as goal

abbrev pub invariant-loop-p : goal.invariant-loop-p
invariant-loop-p l = TreeTo l.initial.w l.root l.k l.w l.n l.p
