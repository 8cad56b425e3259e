-- `pruning::prune` meets its contract: the tree is pruned, then the votes. Assumes nothing.
use Rattle.pruning.proofs.Rooted.{tree-fits, votes-fit, votes-sized, pruned_root}
use Rattle.pruning.proofs.prune.Goals as goal

pub prune_tree-requires : goal.prune_tree-requires
prune_tree-requires c = let h = c.requires in (tree-fits _ h.0 _ h.1 _ h.2, h.0.typed.tree)

pub prune_votes-requires : goal.prune_votes-requires
prune_votes-requires c =
    let h = c.requires in
    let votes = votes-fit _ h.0 _ h.1 _ h.2 c.prune_tree.ensures in
    (votes, votes-sized _ h.0 _ h.1 _ h.2 c.prune_tree.ensures)

pub returns : goal.returns
returns c = let h = c.requires in pruned_root _ h.0 _ h.1 _ h.2 c.prune_tree.ensures c.prune_votes.ensures
