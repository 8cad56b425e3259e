-- A run of readings and moves of the root, beside the run of its readings alone, "the witness that dropped nothing".
-- Change request K7: "While later records name no dropped checkpoint, and until a limit is met in the witness that
-- dropped nothing, every standing, conflict answer and charged member among what was kept is as that witness gives it,
-- places and vote numbers counted anew."
use Rattle.std.specs.Prelude.{ℕ, ◌<◌, ◌≡◌, ◌⊎◌, List, [], ◌∷◌, map, true, false, length}
use Rattle.model.specs.Answer.{Answer, refused, answer, row_of}
use Rattle.model.specs.Change.{Told, nothing_left, taken, bundled, decided}
use Rattle.model.specs.Evidence.{Charge, Conduct, clear, broken, conduct, charges, violator?}
use Rattle.model.specs.Finality.{justified?, status, conflicting?}
use Rattle.model.specs.Lists.{All}
use Rattle.model.specs.Log.{Record, no_record, unknown_kind, cut_record, member_record, checkpoint_record, vote_record}
use Rattle.model.specs.Log.{bundle_record, quorum_record, decode}
use Rattle.model.specs.Model.{Model, name_held, start}
use Rattle.model.specs.Run.{Event, reading, moving, OfBytes, decide_event, after, outcomes}
use Rattle.model.specs.Support.{sum, support}
use Rattle.moves.specs.Part.{Part}

-- ---- the two runs

-- the readings alone
unfoldable pub readings_only : List Event → List Event
readings_only [] = []
readings_only (reading s ∷ es) = reading s ∷ readings_only es
readings_only (moving r ∷ es) = readings_only es

-- of what is told of each event, what is told of the readings
unfoldable pub of_readings : List Event → List (Answer Told) → List (Answer Told)
of_readings [] ts = []
of_readings (e ∷ es) [] = []
of_readings (reading s ∷ es) (t ∷ ts) = t ∷ of_readings es ts
of_readings (moving r ∷ es) (t ∷ ts) = of_readings es ts

-- ---- "While later records name no dropped checkpoint"

abbrev pub Name : Type 0
Name = List ℕ

-- the names that a record gives: a new checkpoint's own among them
unfoldable pub Names : Record → Name → Type 0
Names no_record n = ⊥
Names unknown_kind n = ⊥
Names cut_record n = ⊥
Names (member_record id bond) n = ⊥
Names (checkpoint_record name parent) n = (n ≡ name) ⊎ (n ≡ parent)
Names (vote_record id source target source_height target_height) n = (n ≡ source) ⊎ (n ≡ target)
Names (bundle_record bits source target source_height target_height) n = (n ≡ source) ⊎ (n ≡ target)
Names (quorum_record p q) n = ⊥

-- dropped before, or held before the move and not after it
abbrev pub DroppedBy : Model → ℕ → (Name → Type 0) → Name → Type 0
DroppedBy m r dropped n =
    dropped n ⊎ ((name_held m n ≡ true) × (name_held (decided m (decide_event m (moving r))) n ≡ false))

unfoldable pub NamesNone : Model → (Name → Type 0) → List Event → Type 0
NamesNone m dropped [] = Unit {0}
NamesNone m dropped (reading s ∷ es) =
    ((n : Name) → Names (decode s) n → dropped n → ⊥)
    × NamesNone (decided m (decide_event m (reading s))) dropped es
NamesNone m dropped (moving r ∷ es) =
    NamesNone (decided m (decide_event m (moving r))) (DroppedBy m r dropped) es

-- ---- "until a limit is met in the witness that dropped nothing"

-- the rows that are told of a reading, of each vote of a bundle too
unfoldable pub rows_told : Answer Told → List ℕ
rows_told (refused n) = n ∷ []
rows_told (answer nothing_left) = []
rows_told (answer taken) = []
rows_told (answer (bundled os)) = map row_of os

-- neither the limit of checkpoints nor that of votes; that of members (13) need not be named, since no member is taken
-- after a move that drops something, and up to it the two runs hold the same
abbrev pub NoLimit : Answer Told → Type 0
NoLimit t = All (λ n. (n ≡ 22 → ⊥) × (n ≡ 36 → ⊥)) (rows_told t)

-- ---- what is compared

-- the pair shown, and a charge, by the numbers of the run that dropped nothing

unfoldable pub renumbered : (ℕ → ℕ) → Conduct → Conduct
renumbered number clear = clear
renumbered number (broken i j) = broken (number i) (number j)

abbrev pub renumber : (ℕ → ℕ) → Charge → Charge
renumber number c = record { id = c.id; earlier = number c.earlier; later = number c.later }

-- `b` is the book of the run with moves and `w` that of the other; `place` and `number` are those of w for what stands
-- at one of b
pub record SameAnswers (b w : Model) (place number : ℕ → ℕ) : Type 0 where
  -- b is a place of w, its descendants and the votes among these: names, heights and votes the same, places and numbers
  -- rising
  pub part : Part b w place number
  pub standing : (p : ℕ) → p < length b.checkpoints → status b p ≡ status w (place p)
  pub justified : (p : ℕ) → p < length b.checkpoints → justified? b p ≡ justified? w (place p)
  pub backing : (s t : ℕ) → s < length b.checkpoints → t < length b.checkpoints
      → support b s t ≡ support w (place s) (place t)
  pub conflict : conflicting? b ≡ conflicting? w
  pub shown : (id : ℕ) → conduct w id ≡ renumbered number (conduct b id)
  pub charged : charges w ≡ map (renumber number) (charges b)
  pub named : sum (violator? b) b.members ≡ sum (violator? w) w.members

pub record Compared (b w : Model) : Type 0 where
  pub place : ℕ → ℕ
  pub number : ℕ → ℕ
  pub same : SameAnswers b w place number

-- each reading is told the same, and what is held at the end answers the same
pub record ComparedRuns (m : Model) (es : List Event) : Type 0 where
  pub answers : Compared (after m es) (after m (readings_only es))
  pub told_alike : of_readings es (outcomes m es) ≡ outcomes m (readings_only es)

-- for any root name, and any list of readings and moves, in any order, refused ones included
abbrev pub Comparison : Type 0
Comparison =
    (name : Name) (es : List Event)
    → All OfBytes es
    → NamesNone (start name) (λ n. ⊥) es
    → All NoLimit (outcomes (start name) (readings_only es))
    → ComparedRuns (start name) es
