-- A log read from a file, turn after turn.
use Rattle.std.specs.Prelude.{ℕ, ◌≤◌, ◌≡◌, List, [], ◌++◌, false, cond, take, drop}
use Rattle.model.specs.Bytes.{AreBytes}
use Rattle.model.specs.Report.{report}
use Rattle.feeding.specs.Feed.{record_room, end_call}
use Rattle.pieces.specs.Pieces.{in_want?}
use Rattle.buffered.specs.Hold.{ready?}
use Rattle.turns.specs.Turns.{Starts}
use Rattle.turns.specs.declared.Fate.TheVariants.{Open, Whole, Ended}
use Rattle.turns.specs.declared.Turn.{Turn}
use Rattle.steps.specs.Turns.{at_hand, call_at, Stepped}
use Rattle.stream.specs.declared.Log.{Log}

-- One turn more: a read adds the bytes that it brought to the log, and a call adds its text to what was written.
pub record Turned (room : ℕ) (log text : List ℕ) (t : Turn) (input log' text' : List ℕ) (r : Turn) (after : List ℕ) : Type 0 where
  pub goes_on : t.fate ≡ Open
  pub stepped : Stepped t input room r after
  pub came : log' ≡ cond (ready? t.begun t.at_end (at_hand t input)) log (log ++ drop t.have (take r.have after))
  pub wrote : text' ≡ cond (ready? t.begun t.at_end (at_hand t input)) (text ++ (call_at t input room).text) text

-- Where reading may stand once these bytes of the log have come and this text was written, with so much room for a call's text.
pub data Reached (room : ℕ) : (log text : List ℕ) → Turn → List ℕ → Type 0 where
  at-start : {t : Turn} {input : List ℕ} → Starts t → Reached room [] [] t input
  one_more : {log text log' text' input after : List ℕ} {t r : Turn} → Reached room log text t input → Turned room log text t input log' text' r after → Reached room log' text' r after

-- Reading came to t: some bytes have come, and some text was written.
pub record Reads (room : ℕ) (t : Turn) (input : List ℕ) : Type 0 where
  pub log : List ℕ
  pub text : List ℕ
  pub reached : Reached room log text t input

-- what is left of the log there
pub record Leaves (t : Turn) (r : Log) : Type 0 where
  pub fate : r.fate ≡ t.fate
  pub left : r.left ≡ t.have
  pub records : r.records ≡ t.records
  pub witness : r.witness ≡ t.witness

pub record IsRead (room : ℕ) (r : Log) : Type 0 where
  pub turn : Turn
  pub input : List ℕ
  pub reads : Reads room turn input
  pub leaves : Leaves turn r

-- The texts of the calls, in turn, are the report of the bytes that have come, where the report has ended; where all of the log
-- was read, they are that with the log's end, if the end finds room. That they are written out is tried, not proved.
abbrev pub WritesReport : Type 0
WritesReport =
    (room : ℕ) (log text : List ℕ) (t : Turn) (input : List ℕ)
    → record_room ≤ room → AreBytes log → Reached room log text t input
    → (t.fate ≡ Ended → text ≡ report log)
    × ((last : ℕ) → t.fate ≡ Whole → in_want? (end_call last t.witness t.records t.have).paused ≡ false → text ++ (end_call last t.witness t.records t.have).text ≡ report log)
