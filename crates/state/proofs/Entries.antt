-- What the model of a state has at an index, and how many.
use Prim.Native.Nat.{ℕ, ◌<◌}
use mathlib.Core.Path.{◌≡◌}
use lib.ListN.{length}
use Rattle.model.specs.Model.{member_at, checkpoint_at, vote_at, no_member, no_checkpoint, no_vote}
use Rattle.model.proofs.Lists.{length-tabulate, tabulate-at}
use Rattle.state.specs.State.{model_of, member_in, checkpoint_in, vote_in}
use Rattle.state.specs.declared.Witness.{Witness}

module _ (w : Witness) where
  -- the counts are the lengths of the model's lists

  pub count-members : length (model_of w).members ≡ w.member_count
  unfolding model_of
  count-members = length-tabulate w.member_count (member_in w)

  pub count-checkpoints : length (model_of w).checkpoints ≡ w.checkpoint_count
  unfolding model_of
  count-checkpoints = length-tabulate w.checkpoint_count (checkpoint_in w)

  pub count-votes : length (model_of w).votes ≡ w.vote_count
  unfolding model_of
  count-votes = length-tabulate w.vote_count (vote_in w)

  -- and below them stand the arrays' entries

  pub member_is : (i : ℕ) → i < w.member_count → member_at (model_of w).members i ≡ member_in w i
  unfolding model_of member_at
  member_is i h = tabulate-at w.member_count (member_in w) no_member i h

  pub checkpoint-is : (i : ℕ) → i < w.checkpoint_count → checkpoint_at (model_of w).checkpoints i ≡ checkpoint_in w i
  unfolding model_of checkpoint_at
  checkpoint-is i h = tabulate-at w.checkpoint_count (checkpoint_in w) no_checkpoint i h

  pub vote-is : (k : ℕ) → k < w.vote_count → vote_at (model_of w).votes k ≡ vote_in w k
  unfolding model_of vote_at
  vote-is k h = tabulate-at w.vote_count (vote_in w) no_vote k h
