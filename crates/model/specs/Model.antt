-- The reference model, document 01's book: three lists, of members, checkpoints and votes, each in the order of
-- acceptance; and, from change request K5 on, the rule for a quorum.
use Rattle.std.specs.Prelude.{ℕ, List, [], ◌∷◌, Bool, ◌&&◌, length, get_or, eqb, ltb}
use Rattle.model.specs.Lists.{first_index, same_bytes, any}
use Rattle.model.specs.Rule.{Rule, standard, quota_of}
use Rattle.model.specs.declared.Quota.{Quota}

pub record Member : Type 0 where
  pub id : ℕ
  pub bond : ℕ

-- `parent` is the parent's place; the root's says nothing
pub record Checkpoint : Type 0 where
  pub name : List ℕ
  pub parent : ℕ
  pub height : ℕ

-- `source` and `target` are places
pub record Vote : Type 0 where
  pub voter : ℕ
  pub source : ℕ
  pub target : ℕ

-- a link between two checkpoints, by their places
pub record Link : Type 0 where
  pub source : ℕ
  pub target : ℕ

abbrev pub link : ℕ → ℕ → Link
link s t = record { source = s; target = t }

pub record Model : Type 0 where
  pub rule : Rule
  pub members : List Member
  pub checkpoints : List Checkpoint
  pub votes : List Vote

-- "It starts with the root alone."
unfoldable pub start : List ℕ → Model
start name =
    record {
      rule = standard;
      members = [];
      checkpoints = record { name = name; parent = 0; height = 0 } ∷ [];
      votes = [];
    }

-- the quota by the rule that is held
abbrev pub quota : Model → Quota
quota m = quota_of m.rule

-- the model with another rule, other members, other checkpoints, other votes

abbrev pub with_rule : Model → Rule → Model
with_rule m r = record { rule = r; members = m.members; checkpoints = m.checkpoints; votes = m.votes }

abbrev pub with_members : Model → List Member → Model
with_members m ms = record { rule = m.rule; members = ms; checkpoints = m.checkpoints; votes = m.votes }

abbrev pub with_checkpoints : Model → List Checkpoint → Model
with_checkpoints m cs = record { rule = m.rule; members = m.members; checkpoints = cs; votes = m.votes }

abbrev pub with_votes : Model → List Vote → Model
with_votes m vs = record { rule = m.rule; members = m.members; checkpoints = m.checkpoints; votes = vs }

-- what stands past the end of a list
abbrev pub no_member : Member
no_member = record { id = 0; bond = 0 }

abbrev pub no_checkpoint : Checkpoint
no_checkpoint = record { name = []; parent = 0; height = 0 }

abbrev pub no_vote : Vote
no_vote = record { voter = 0; source = 0; target = 0 }

-- the member at a place in the list of members
unfoldable pub member_at : List Member → ℕ → Member
member_at ms i = get_or ms i no_member

-- the checkpoint at a place
unfoldable pub checkpoint_at : List Checkpoint → ℕ → Checkpoint
checkpoint_at cs i = get_or cs i no_checkpoint

-- the vote with a number
unfoldable pub vote_at : List Vote → ℕ → Vote
vote_at vs k = get_or vs k no_vote

abbrev pub height_of : List Checkpoint → ℕ → ℕ
height_of cs i = (checkpoint_at cs i).height

abbrev pub parent_of : List Checkpoint → ℕ → ℕ
parent_of cs i = (checkpoint_at cs i).parent

-- the index of the member with an id; the number of members where none has it
unfoldable pub member_index : List Member → ℕ → ℕ
member_index ms id = first_index (λ x. eqb x.id id) ms

-- the place of the checkpoint with a name; the number of checkpoints where none has it
unfoldable pub place_of : List Checkpoint → List ℕ → ℕ
place_of cs name = first_index (λ c. same_bytes c.name name) cs

unfoldable pub id_held : Model → ℕ → Bool
id_held m id = ltb (member_index m.members id) (length m.members)

unfoldable pub name_held : Model → List ℕ → Bool
name_held m name = ltb (place_of m.checkpoints name) (length m.checkpoints)

-- a checkpoint stands at the place
abbrev pub place_held : Model → ℕ → Bool
place_held m p = ltb p (length m.checkpoints)

-- a member's vote s → t
abbrev pub vote_for : ℕ → ℕ → ℕ → Vote
vote_for id s t = record { voter = id; source = s; target = t }

-- same member, source and target
abbrev pub same_vote : Vote → Vote → Bool
same_vote v w = eqb v.voter w.voter && eqb v.source w.source && eqb v.target w.target

unfoldable pub vote_held : List Vote → Vote → Bool
vote_held vs w = any (λ v. same_vote v w) vs
