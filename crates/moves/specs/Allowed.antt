-- When the root may be moved, and what a move leaves, by the relations of the rules: `decide_move` and `moved` compute
-- these (crate model).
use Rattle.std.specs.Prelude.{ℕ, ◌<◌, ◌≤◌, ◌≡◌, ◌↔◌, length}
use Rattle.model.specs.Answer.{answer}
use Rattle.model.specs.Change.{move_root}
use Rattle.model.specs.Decide.{decide_move}
use Rattle.model.specs.Evidence.{Charge, charges}
use Rattle.model.specs.Finality.{Final, ConflictingFinals}
use Rattle.model.specs.Limits.{root_height_limit}
use Rattle.model.specs.Lists.{All}
use Rattle.model.specs.Model.{Model, height_of, vote_at}
use Rattle.model.specs.Move.{moved}
use Rattle.moves.specs.Part.{Kept, Part, place_before, number_before}

-- the vote with a number is one "among these": of r and its descendants
pub record KeptVote (m : Model) (r k : ℕ) : Type 0 where
  pub source : Kept m.checkpoints r (vote_at m.votes k).source
  pub target : Kept m.checkpoints r (vote_at m.votes k).target

-- none of rows 41, 70, 71 and 72 stands against a move to r
pub record Allowed (m : Model) (r : ℕ) : Type 0 where
  pub held : r < length m.checkpoints
  pub final : Final m r
  pub height : height_of m.checkpoints r ≤ root_height_limit
  pub agree : ConflictingFinals m → ⊥
  pub shown : All (λ (c : Charge). KeptVote m r c.earlier × KeptVote m r c.later) (charges m)
  pub low : (k : ℕ) → k < length m.votes
      → (KeptVote m r k → ⊥)
      → height_of m.checkpoints (vote_at m.votes k).target ≤ height_of m.checkpoints r

-- a move is made exactly when it is allowed; it leaves r and its descendants, r first, and the votes among these
pub record MoveExact (m : Model) (r : ℕ) : Type 0 where
  pub allowed : (decide_move m r ≡ answer (move_root r)) ↔ Allowed m r
  pub leaves : r < length m.checkpoints → Part (moved m r) m (place_before m r) (number_before m r)
  pub first : r < length m.checkpoints → place_before m r 0 ≡ r
