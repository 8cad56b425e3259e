-- Demand 3, one statement on the whole run: for every root name and every list of readings, and of moves of the root
-- (K7), in any order, into one witness that starts empty, each meeting what the last one left. Outcomes and answers are
-- what the public calls' contracts cite, on the witness; the share, and what the answers mean, are said of the
-- reference model, document 01's book, which sees the root's name, the bytes read and the places of the moves only.
use Rattle.std.specs.Prelude.{ℕ, ◌*◌, ◌≤◌, ◌≡◌, List, [], ◌∷◌, length}
use Rattle.model.specs.Answer.{Answer}
use Rattle.model.specs.Change.{Told}
use Rattle.model.specs.Finality.{ConflictingFinals}
use Rattle.model.specs.Lists.{All}
use Rattle.model.specs.Model.{Model, start}
use Rattle.model.specs.Rule.{standard}
use Rattle.model.specs.Run.{Event, OfBytes, NoQuorum, after, outcomes}
use Rattle.model.specs.Support.{total}
use Rattle.safety.specs.Share.{ShareNamed}
use Rattle.state.specs.State.{empty_witness, stored}
use Rattle.state.specs.declared.Witness.{Witness}
use Rattle.witness.specs.Calls.{event_call}
use Rattle.guarantee.specs.Demand2.{ByTheRules}

-- the witness after the events: each call takes the state that the last one left (for a reading the call `read`, for a
-- move `move_root`)
unfoldable pub witness_after : Witness → List Event → Witness
witness_after w [] = w
witness_after w (e ∷ es) = witness_after (stored w (event_call w e)) es

-- what the calls told of each
unfoldable pub told_of : Witness → List Event → List (Answer Told)
told_of w [] = []
told_of w (e ∷ es) = (event_call w e).told ∷ told_of (stored w (event_call w e)) es

-- `w` is the witness and `b` the model after the run, as Demand3 below, LogIsRun in LogRead.antt, and PiecesRun and RunOn in
-- CallsAreRuns.antt have them
pub record Guarantee (name : List ℕ) (es : List Event) (w : Witness) (b : Model) : Type 0 where
  -- "each record was taken, or refused with the same number", and of a bundle each of its votes, and so was each move
  -- of the root; 40 never occurs, as the book has no such row
  pub outcomes-agree : told_of (empty_witness name) es ≡ outcomes (start name) es
  -- the held lists, the rule for a quorum, the standings, the support, the conflict answer, our list, the board paper
  -- and the checker: the fields of ByTheRules
  pub answers : ByTheRules w b
  -- "If two conflicting checkpoints are final by the book, our list passes" and names the share of the held rule
  pub share : ConflictingFinals b → ShareNamed b
  -- "Without the record it is 2 and 3", and our list "names at least a third of all bonds": 3 × sum ≥ total
  pub standard-rule : All NoQuorum es → b.rule ≡ standard
  pub standard-third : All NoQuorum es → (finals : ConflictingFinals b) → total b.members ≤ 3 * (share finals).named

-- for every root name and every list of readings of bytes and moves of the root
abbrev pub Demand3 : Type 0
Demand3 = (name : List ℕ) → length name ≡ 32 → (es : List Event) → All OfBytes es → Guarantee name es (witness_after (empty_witness name) es) (after (start name) es)
