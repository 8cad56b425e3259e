-- One model is a part of another: a place of it, the descendants of that place, and the votes among these. That is what
-- a moved root leaves of a model. `place` and `number` give, for each place and vote number of the part, those of the
-- whole.
use Rattle.std.specs.Prelude.{ℕ, ◌<◌, ◌≡◌, ◌⊎◌, List, length, get_or}
use Rattle.model.specs.Model.{Model, Checkpoint, Vote, checkpoint_at, height_of, parent_of, vote_at, vote_for}
use Rattle.model.specs.Move.{kept_places, kept_votes}
use Rattle.model.specs.Tree.{Ancestor}

-- p is r or a descendant of r
abbrev pub Kept : List Checkpoint → ℕ → ℕ → Type 0
Kept cs r p = (p ≡ r) ⊎ Ancestor cs r p

-- p is the value of f at some number below n
pub record At (f : ℕ → ℕ) (n p : ℕ) : Type 0 where
  pub at : ℕ
  pub inside : at < n
  pub is : f at ≡ p

-- a vote of the part, by the places of the whole
abbrev pub shifted : (ℕ → ℕ) → Vote → Vote
shifted place v = vote_for v.voter (place v.source) (place v.target)

pub record Part (b w : Model) (place number : ℕ → ℕ) : Type 0 where
  pub rule : b.rule ≡ w.rule
  pub members : b.members ≡ w.members
  pub rooted : 0 < length b.checkpoints
  -- a place and its descendants, in order, with their names and heights
  pub inside : (i : ℕ) → i < length b.checkpoints → place i < length w.checkpoints
  pub rises : (i j : ℕ) → i < j → j < length b.checkpoints → place i < place j
  pub name : (i : ℕ) → i < length b.checkpoints
      → (checkpoint_at b.checkpoints i).name ≡ (checkpoint_at w.checkpoints (place i)).name
  pub height : (i : ℕ) → i < length b.checkpoints
      → height_of b.checkpoints i ≡ height_of w.checkpoints (place i)
  pub parent-before : (i : ℕ) → 0 < i → i < length b.checkpoints → parent_of b.checkpoints i < i
  pub parent : (i : ℕ) → 0 < i → i < length b.checkpoints
      → place (parent_of b.checkpoints i) ≡ parent_of w.checkpoints (place i)
  pub whole : (p : ℕ) → Kept w.checkpoints (place 0) p → p < length w.checkpoints
      → At place (length b.checkpoints) p
  -- the votes among these, in order
  pub vote-inside : (k : ℕ) → k < length b.votes → number k < length w.votes
  pub vote-rises : (i j : ℕ) → i < j → j < length b.votes → number i < number j
  pub source : (k : ℕ) → k < length b.votes → (vote_at b.votes k).source < length b.checkpoints
  pub target : (k : ℕ) → k < length b.votes → (vote_at b.votes k).target < length b.checkpoints
  pub vote : (k : ℕ) → k < length b.votes
      → vote_at w.votes (number k) ≡ shifted place (vote_at b.votes k)
  pub vote-whole : (k : ℕ) → k < length w.votes → Kept w.checkpoints (place 0) (vote_at w.votes k).source
      → At number (length b.votes) k

-- what a move of the root leaves is such a part: the place, and the vote number, before the move of what stands at one
-- after it

abbrev pub place_before : Model → ℕ → ℕ → ℕ
place_before m r i = get_or (kept_places m r) i 0

abbrev pub number_before : Model → ℕ → ℕ → ℕ
number_before m r k = get_or (kept_votes m r) k 0
