-- How arrays of numbers hold what the model holds.
use Rattle.std.specs.Prelude.{ℕ, ◌<◌, ◌≡◌, List, map, false, length, get_or, drop}
use Rattle.model.specs.Evidence.{by_id}
use Rattle.model.specs.Lists.{All}
use Rattle.model.specs.Model.{Model, Member, member_at, vote_at, height_of, same_vote}
use Rattle.conduct.specs.Pairs.{span_at}
use Rattle.conduct.specs.declared.Span.{Span}

-- of each vote its member and the heights of its two places; no vote is held twice
pub record VotesHeld (m : Model) (voters : List ℕ) (spans : List Span) (n : ℕ) : Type 0 where
  pub count : length m.votes ≡ n
  pub voter : (i : ℕ) → i < n → (vote_at m.votes i).voter ≡ get_or voters i 0
  pub low : (i : ℕ) → i < n → height_of m.checkpoints (vote_at m.votes i).source ≡ (span_at spans i).low.0
  pub high : (i : ℕ) → i < n → height_of m.checkpoints (vote_at m.votes i).target ≡ (span_at spans i).high.0
  pub distinct : (i j : ℕ) → i < j → j < n → same_vote (vote_at m.votes i) (vote_at m.votes j) ≡ false

-- the members' ids
pub record IdsHeld (ms : List Member) (ids : List ℕ) (n : ℕ) : Type 0 where
  pub count : length ms ≡ n
  pub id : (i : ℕ) → i < n → (member_at ms i).id ≡ get_or ids i 0

-- the places of the members from the i-th on, of n members in all, by rising id
pub record Ordered (ids : List ℕ) (n i : ℕ) (places : List ℕ) : Type 0 where
  pub held : All (λ p. p < n) places
  pub rising : (ms : List Member) → IdsHeld ms ids n → map (member_at ms) places ≡ by_id (drop i ms)
