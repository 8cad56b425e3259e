-- A sound state: what the types of its fields say, and what row 40 asks of the model that it holds.
use Rattle.std.specs.Prelude.{ℕ, ◌*◌, ◌<◌, ◌^◌, ◌≡◌, Bool, length, get_or}
use Rattle.model.specs.Limits.{member_limit, checkpoint_limit, vote_limit}
use Rattle.model.specs.WellFormed.{WellFormed, well_formed?}
use Rattle.state.specs.State.{MemberPart, TreePart, VotePart, member_part, tree_part, vote_part, model_of}
use Rattle.state.specs.declared.Witness.{Witness}

-- the arrays' lengths

pub record SizedMembers (p : MemberPart) : Type 0 where
  pub ids : length p.ids ≡ member_limit
  pub bonds : length p.bonds ≡ member_limit

pub record SizedTree (p : TreePart) : Type 0 where
  pub names : length p.names ≡ 32 * checkpoint_limit
  pub parents : length p.parents ≡ checkpoint_limit
  pub heights : length p.heights ≡ checkpoint_limit

pub record SizedVotes (p : VotePart) : Type 0 where
  pub voters : length p.voters ≡ vote_limit
  pub sources : length p.sources ≡ vote_limit
  pub targets : length p.targets ≡ vote_limit

-- what the types of the fields say: the arrays' lengths, and that an id is of 16 bits
pub record Typed (w : Witness) : Type 0 where
  pub members : SizedMembers (member_part w)
  pub tree : SizedTree (tree_part w)
  pub votes : SizedVotes (vote_part w)
  pub ids : (i : ℕ) → get_or w.ids i 0 < 2 ^ 16

-- a state that may be held
pub record Sound (w : Witness) : Type 0 where
  pub typed : Typed w
  pub good : WellFormed (model_of w)

-- whether a state passes row 40
unfoldable pub sound? : Witness → Bool
sound? w = well_formed? (model_of w)
