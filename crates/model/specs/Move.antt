-- Moving the root up, change request K7: "r becomes the root with its height kept; r, its descendants and the votes
-- among these stay in order, the rest is dropped". The rows that allow it are in Decide.antt.
use Rattle.std.specs.Prelude.{ℕ, List, map, Bool, cond, ◌&&◌, ◌||◌, length, eqb}
use Rattle.model.specs.Lists.{picked}
use Rattle.model.specs.Model.{Model, Checkpoint, Vote, checkpoint_at, vote_at, height_of, parent_of, vote_for}
use Rattle.model.specs.Model.{with_checkpoints, with_votes}
use Rattle.model.specs.Tree.{ancestor?}

-- "r, its descendants"
unfoldable pub kept? : List Checkpoint → ℕ → ℕ → Bool
kept? cs r p = eqb p r || ancestor? cs r p

-- "the votes among these"
unfoldable pub kept_vote? : List Checkpoint → ℕ → Vote → Bool
kept_vote? cs r v = kept? cs r v.source && kept? cs r v.target

-- the places that stay, and the numbers of the votes that do, each "in order"

abbrev pub kept_places : Model → ℕ → List ℕ
kept_places m r = picked (kept? m.checkpoints r) (length m.checkpoints)

abbrev pub kept_votes : Model → ℕ → List ℕ
kept_votes m r = picked (λ k. kept_vote? m.checkpoints r (vote_at m.votes k)) (length m.votes)

-- "places .. counted anew": how many places that stay are below p
abbrev pub anew : List Checkpoint → ℕ → ℕ → ℕ
anew cs r p = length (picked (kept? cs r) p)

-- the checkpoint at a place that stays, and a vote that stays, as they are then; the new root has no parent, and has 0
-- in its stead

abbrev pub moved_checkpoint : List Checkpoint → ℕ → ℕ → Checkpoint
moved_checkpoint cs r p =
    record {
      name = (checkpoint_at cs p).name;
      parent = cond (eqb p r) 0 (anew cs r (parent_of cs p));
      height = height_of cs p;
    }

abbrev pub moved_vote : List Checkpoint → ℕ → Vote → Vote
moved_vote cs r v = vote_for v.voter (anew cs r v.source) (anew cs r v.target)

unfoldable pub moved : Model → ℕ → Model
moved m r =
    let cs = m.checkpoints in
    with_votes (with_checkpoints m (map (moved_checkpoint cs r) (kept_places m r)))
    (map (λ k. moved_vote cs r (vote_at m.votes k)) (kept_votes m r))
