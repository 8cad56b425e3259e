-- The calls that read many records are runs: `read_many`, `open` and `feed` leave the witness of the run over the records that
-- they passed, each reading taking the state that the last one left. Where the witness handed in is that of a run, or the
-- header's empty one, all of Demand 3 holds of what they leave, wherever they stopped.
use Rattle.std.specs.Prelude.{ℕ, zero, suc, ◌+◌, ◌≤◌, ◌<◌, ◌≡◌, ◌⊎◌, Bool, true, false, length, drop}
use mathlib.Core.List.{List, [], ◌∷◌, ◌++◌, flat_map}
use Rattle.model.specs.Answer.{refused, answer}
use Rattle.model.specs.Bytes.{AreBytes}
use Rattle.model.specs.Limits.{member_limit}
use Rattle.model.specs.Lists.{All}
use Rattle.model.specs.Log.{header, record_length}
use Rattle.model.specs.Model.{Model, start}
use Rattle.model.specs.Report.{stopped_line, outcome_lines}
use Rattle.model.specs.Run.{Event, reading, OfBytes, after, outcomes}
use Rattle.state.specs.Reading.{brief}
use Rattle.state.specs.Sound.{Typed, sound?}
use Rattle.state.specs.State.{empty_witness, model_of, stored}
use Rattle.state.specs.declared.Witness.{Witness}
use Rattle.entries.specs.Entries.{entries}
use Rattle.reader.specs.Many.{spent, ended_by, Many, none_passed}
use Rattle.witness.specs.Calls.{event_call}
use Rattle.witness.specs.Readings.{many_call}
use Rattle.answers.specs.Calls.{write_call, write_buffer}
use Rattle.feeding.specs.Feed.{Paused, wants, full, out_of_numbers, ended, refused_by, Feeding, paused_at}
use Rattle.feeding.specs.Feed.{line_room, record_room, last_number, open_call, feed_call, end_call}
use Rattle.pieces.specs.Pieces.{Piece}
use Rattle.guarantee.specs.Demand3.{witness_after, told_of, Guarantee}
use Rattle.guarantee.specs.LogRead.{replayed}

-- ---- the first records of some bytes

-- the readings of the first k records, each in turn; unlike `readings` (model), which also reads the record that stops a log
unfoldable pub first_records : ℕ → List ℕ → List Event
first_records zero s = []
first_records (suc k) s = reading s ∷ first_records k (drop (record_length s) s)

-- what stands behind them
unfoldable pub behind_records : ℕ → List ℕ → List ℕ
behind_records zero s = s
behind_records (suc k) s = behind_records k (drop (record_length s) s)

-- each of them can be passed: its kind is known, and it is not cut
pub data Whole : ℕ → List ℕ → Type 0 where
  no_record : {s : List ℕ} → Whole zero s
  one_record : {k : ℕ} {s : List ℕ} → (record_length s ≡ 0 → ⊥) → Whole k (drop (record_length s) s) → Whole (suc k) s

-- ---- `read_many`

-- the record at which reading on ended cannot be passed, though more could be read and told
pub record Stopped (n room : ℕ) (log : List ℕ) (m : Many) : Type 0 where
  pub may : length m.passed < n
  pub free : length (entries m.passed) + member_limit ≤ room
  pub none : record_length (drop m.next log) ≡ 0
  pub why : m.end ≡ ended_by (brief (event_call m.witness (reading (drop m.next log))).told)

-- `m` is what the call gives, with a limit of n records and room for so many entries: the run over the records that it
-- passed, what each of them told, the offset behind them, and why there are no more. The bytes lent get what was told
-- (IsBatch in crate reader).
pub record ManyRun (n room : ℕ) (w : Witness) (log : List ℕ) (at : ℕ) (m : Many) : Type 0 where
  pub whole : Whole (length m.passed) (drop at log)
  pub each : m.passed ≡ told_of w (first_records (length m.passed) (drop at log))
  pub witness : m.witness ≡ witness_after w (first_records (length m.passed) (drop at log))
  pub left : drop m.next log ≡ behind_records (length m.passed) (drop at log)
  pub offset : m.next + length (drop m.next log) ≡ at + length (drop at log)
  pub at_most : length m.passed ≤ n
  pub within : length (entries m.passed) ≤ room
  pub ends :
      ((m.end ≡ spent) × ((length m.passed ≡ n) ⊎ (room < length (entries m.passed) + member_limit)))
      ⊎ Stopped n room log m

abbrev pub ManyIsRun : Type 0
ManyIsRun =
    (w : Witness) → Typed w → sound? w ≡ true → (n room : ℕ) (log : List ℕ) → AreBytes log → (at : ℕ)
    → ManyRun n room w log at (many_call n room w log at)

-- ---- `feed`

-- the line that `feed` writes where it ends the report; nothing where it paused otherwise
abbrev pub stop_line : Paused → ℕ → List ℕ
stop_line wants k = []
stop_line full k = []
stop_line out_of_numbers k = []
stop_line ended k = stopped_line 4 k
stop_line (refused_by n) k = []

-- why `feed` paused, with so much room, where `rest` stands behind the records that it passed: nothing is left or a
-- record is cut; the lines of a bundle might not fit behind the text; no number is left; or the kind is unknown. Row 40
-- does not apply.
abbrev pub Cause : Paused → ℕ → Feeding → List ℕ → Type 0
Cause wants room f rest = (rest ≡ []) ⊎ ((event_call f.witness (reading rest)).told ≡ refused 5)
Cause full room f rest = room < length f.text + record_room
Cause out_of_numbers room f rest = f.records ≡ last_number
Cause ended room f rest = (event_call f.witness (reading rest)).told ≡ refused 4
Cause (refused_by n) room f rest = ⊥

-- `f` is what the call gives, with so much room, on the bytes s from record k on: the run over the records that it passed, their
-- lines, and why there are no more
pub record FedRun (room : ℕ) (w : Witness) (k : ℕ) (s : List ℕ) (f : Feeding) : Type 0 where
  pub number : ℕ
  pub whole : Whole number s
  pub records : f.records ≡ k + number
  pub witness : f.witness ≡ witness_after w (first_records number s)
  pub inside : f.passed ≤ length s
  pub left : drop f.passed s ≡ behind_records number s
  pub text : f.text ≡ outcome_lines k (outcomes (model_of w) (first_records number s)) ++ stop_line f.paused f.records
  pub cause : Cause f.paused room f (drop f.passed s)

abbrev pub FeedIsRun : Type 0
FeedIsRun = (w : Witness) → Typed w → sound? w ≡ true → (room k : ℕ) (s : List ℕ) → AreBytes s → FedRun room w k s (feed_call room w k s)

-- ---- calls that leave the witness handed in

-- an event that is refused; `close`; `open` on a header that is refused; and every call on a state that is not sound,
-- which does nothing but say so
pub record WitnessKept (w : Witness) : Type 0 where
  pub refused-keeps : (e : Event) (n : ℕ) → (event_call w e).told ≡ refused n → stored w (event_call w e) ≡ w
  pub close_keeps : (room k left : ℕ) → (end_call room w k left).witness ≡ w
  pub open_keeps : (last : Bool) (room : ℕ) (log : List ℕ) (n : ℕ) → header log ≡ refused n → (open_call last room w log).witness ≡ w
  pub feed_unsound : sound? w ≡ false → (room k : ℕ) (s : List ℕ) → feed_call room w k s ≡ paused_at [] (refused_by 40) w k
  pub many_unsound : sound? w ≡ false → (n room : ℕ) (log : List ℕ) (at : ℕ)
      → many_call n room w log at ≡ none_passed (ended_by (refused 40)) w at
  -- 40 comes before 60, and leaves the buffer too
  pub write_unsound : sound? w ≡ false → (text : Model → List ℕ) (buffer : List ℕ)
      → (write_call text w buffer ≡ refused 40) × (write_buffer text w buffer ≡ buffer)

abbrev pub CallsKeep : Type 0
CallsKeep = (w : Witness) → WitnessKept w

-- ---- after any run

-- The witness of a run is one that the calls above take; what calls tell of the events `es` after it is what the book
-- tells, and all of Demand 3 holds of what they leave.
pub record RunOn (name : List ℕ) (before es : List Event) : Type 0 where
  pub typed : Typed (witness_after (empty_witness name) before)
  pub sound : sound? (witness_after (empty_witness name) before) ≡ true
  pub outcomes-agree : told_of (witness_after (empty_witness name) before) es ≡ outcomes (after (start name) before) es
  pub guarantee : Guarantee name (before ++ es) (witness_after (witness_after (empty_witness name) before) es) (after (start name) (before ++ es))

abbrev pub RunGoesOn : Type 0
RunGoesOn = (name : List ℕ) → length name ≡ 32 → (before es : List Event) → All OfBytes before → All OfBytes es → RunOn name before es

-- ---- from the header on

-- where the calls stand: the witness, the number of the next record, and the bytes that were not passed
pub record Stand : Type 0 where
  pub witness : Witness
  pub records : ℕ
  pub left : List ℕ

abbrev pub stand_after : List ℕ → Feeding → Stand
stand_after s f = record { witness = f.witness; records = f.records; left = drop f.passed s }

-- calls of `feed`, each on what the last one left and the bytes of one piece more
unfoldable pub feeds : Stand → List Piece → Stand
feeds t [] = t
feeds t (p ∷ ps) = let s = t.left ++ p.bytes in feeds (stand_after s (feed_call p.room t.witness t.records s)) ps

-- where they stand, in a log with the root's name: the witness is that of the run over the records passed so far, and all of
-- Demand 3 holds of it; where no more can be passed, at the log's end or its stop, it is what reading the log whole leaves
pub record PiecesRun (name log : List ℕ) (t : Stand) : Type 0 where
  pub whole : Whole t.records (drop 37 log)
  pub left : t.left ≡ behind_records t.records (drop 37 log)
  pub guarantee : let es = first_records t.records (drop 37 log) in Guarantee name es t.witness (after (start name) es)
  pub whole-log : record_length t.left ≡ 0 → (w : Witness) → t.witness ≡ (replayed w log (length log) (header log)).witness

-- `open` on a log's first bytes, which have the header, then any calls of `feed`, whatever room they are lent and why they paused
abbrev pub PiecesAreRun : Type 0
PiecesAreRun =
    (log : List ℕ) → AreBytes log → (name : List ℕ) → header log ≡ answer name
    → (w : Witness) (last : Bool) (first : Piece) (ps : List Piece) → log ≡ first.bytes ++ flat_map (λ p. p.bytes) ps
    → 37 ≤ length first.bytes → line_room ≤ first.room
    → PiecesRun name log (feeds (stand_after first.bytes (open_call last first.room w first.bytes)) ps)
