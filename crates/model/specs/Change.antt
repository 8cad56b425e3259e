-- What an event comes to: what is told of it, and the changes that it makes, in order.
use Rattle.std.specs.Prelude.{ℕ}
use mathlib.Core.List.{List, [], ◌∷◌, ◌++◌, map, flat_map}
use Rattle.model.specs.Answer.{Answer, refused, answer}
use Rattle.model.specs.Model.{Model, Member, Checkpoint, Vote, with_rule, with_members, with_checkpoints}
use Rattle.model.specs.Model.{with_votes}
use Rattle.model.specs.Move.{moved}
use Rattle.model.specs.Rule.{given}
use Rattle.model.specs.declared.Quota.{Quota}

-- one change of what is held
pub data Change : Type 0 where
  add_member : Member → Change
  add_checkpoint : Checkpoint → Change
  add_vote : Vote → Change
  give_quota : Quota → Change
  move_root : ℕ → Change

-- "a member goes to the end of its list; so does a checkpoint ..; so does a vote"; a quota that is given is the rule;
-- a move of the root drops what does not stay
unfoldable pub append : Model → Change → Model
append m (add_member x) = with_members m (m.members ++ x ∷ [])
append m (add_checkpoint c) = with_checkpoints m (m.checkpoints ++ c ∷ [])
append m (add_vote v) = with_votes m (m.votes ++ v ∷ [])
append m (give_quota k) = with_rule m (given k)
append m (move_root r) = moved m r

unfoldable pub append_all : Model → List Change → Model
append_all m [] = m
append_all m (c ∷ cs) = append_all (append m c) cs

-- what is told of an event that is not refused; of a bundle, for each of its single votes, taken or its refusal
pub data Told : Type 0 where
  nothing_left : Told
  taken : Told
  bundled : List (Answer (Unit {0})) → Told

-- what is decided on an event
pub record Decision : Type 0 where
  pub told : Answer Told
  pub changes : List Change

-- by the rows of one record, which change one thing: "The first that applies is the refusal, and the lists stay", as
-- does the rule
unfoldable pub single : Answer Change → Decision
single (refused n) = record { told = refused n; changes = [] }
single (answer c) = record { told = answer taken; changes = c ∷ [] }

-- of a single vote: taken, or its refusal
unfoldable pub one_vote : Answer Told → Answer (Unit {0})
one_vote (refused n) = refused n
one_vote (answer t) = answer tt

-- several decisions as one: each is told, in order, and their changes follow one another
unfoldable pub together : List Decision → Decision
together ds =
    record {
      told = answer (bundled (map (λ (d : Decision). one_vote d.told) ds));
      changes = flat_map (λ (d : Decision). d.changes) ds;
    }

-- a bundle: refused whole, or its single votes
unfoldable pub whole : Answer (List Decision) → Decision
whole (refused n) = single (refused n)
whole (answer ds) = together ds

-- no record was left to read
abbrev pub nothing_read : Decision
nothing_read = record { told = answer nothing_left; changes = [] }

-- the model after what was decided
abbrev pub decided : Model → Decision → Model
decided m d = append_all m d.changes
