-- How the arrays, and the votes' numbers beside them, hold a model: what the searches over them find is what the model's searches
-- find.
use Rattle.std.specs.Prelude.{ℕ, ◌+◌, ◌<◌, ◌≤◌, ◌≡◌, List, length, get_or, take, eqb}
use Rattle.model.specs.Limits.{root_height_limit}
use Rattle.model.specs.Lists.{first_index, any_below, same_bytes}
use Rattle.model.specs.Model.{Model, Vote, member_index, place_of, height_of, vote_held}
use Rattle.model.specs.Tree.{ancestor?}
use Rattle.model.specs.declared.Height.{Height}
use Rattle.model.specs.declared.Place.{Place}
use Rattle.tables.specs.Keys.{pack}
use Rattle.tables.specs.Places.{tree_of}
use Rattle.names.specs.Rows.{rows}
use Rattle.state.specs.State.{height}

pub record MembersHeld (m : Model) (ids : List ℕ) (n : ℕ) : Type 0 where
  pub count : length m.members ≡ n
  pub index : (id : ℕ) → member_index m.members id ≡ first_index (λ x. eqb x id) (take n ids)

pub record NamesHeld (m : Model) (names : List ℕ) (n : ℕ) : Type 0 where
  pub count : length m.checkpoints ≡ n
  pub place : (name : List ℕ) → place_of m.checkpoints name ≡ first_index (λ x. same_bytes x name) (rows n names)

pub record HeightsHeld (m : Model) (heights : List Height) (n : ℕ) : Type 0 where
  pub height : (i : ℕ) → i < n → height_of m.checkpoints i ≡ (get_or heights i (height 0)).0

pub record AncestorsHeld (m : Model) (parents : List Place) (n : ℕ) : Type 0 where
  pub ancestor : (a b : ℕ) → ancestor? m.checkpoints a b ≡ ancestor? (tree_of n parents) a b

-- a vote as one number
abbrev pub key_of : Vote → ℕ
key_of v = pack v.voter v.source v.target

-- a vote between places of 16 bits is held exactly when its number is among the first n
pub record KeysHeld (m : Model) (keys : List ℕ) (n : ℕ) : Type 0 where
  pub count : length m.votes ≡ n
  pub held : (v : Vote) → v.source < 65536 → v.target < 65536 → vote_held m.votes v ≡ any_below n (λ k. eqb (get_or keys k 0) (key_of v))

-- all of them: the tables of so many members and checkpoints, and the numbers of so many votes
pub record Held (m : Model) (members checkpoints votes : ℕ) (ids names : List ℕ) (parents : List Place)
    (heights : List Height) (keys : List ℕ) : Type 0 where
  pub members-held : MembersHeld m ids members
  pub names-held : NamesHeld m names checkpoints
  pub heights-held : HeightsHeld m heights checkpoints
  pub ancestors_held : AncestorsHeld m parents checkpoints
  pub keys_held : KeysHeld m keys votes

-- no checkpoint is higher above the greatest height of a root than its place says, so that a child's height fits
abbrev pub Low : ℕ → List Height → Type 0
Low n heights = (i : ℕ) → i < n → (get_or heights i (height 0)).0 ≤ root_height_limit + i
