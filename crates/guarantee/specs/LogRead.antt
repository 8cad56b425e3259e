-- A log read from its header on: its records in turn, to its end or its stop, or the first so many of them. "A log read to its
-- end or its stop is such a run."
use Rattle.std.specs.Prelude.{ℕ, ◌+◌, ◌≤◌, ◌≡◌, List, length, drop}
use Rattle.model.specs.Answer.{Answer, refused, answer}
use Rattle.model.specs.Bytes.{AreBytes}
use Rattle.model.specs.Change.{Told, nothing_left}
use Rattle.model.specs.Lists.{All}
use Rattle.model.specs.Log.{header}
use Rattle.model.specs.Model.{start}
use Rattle.model.specs.Run.{Event, OfBytes, after, readings}
use Rattle.state.specs.State.{empty_witness}
use Rattle.state.specs.declared.Witness.{Witness}
use Rattle.reader.specs.Many.{last_told}
use Rattle.guarantee.specs.Demand3.{witness_after, told_of, Guarantee}

-- what readings come to: what the last of them told, how many they are, and the witness
pub record Reads : Type 0 where
  pub last : Answer Told
  pub records : ℕ
  pub witness : Witness

-- readings into a witness, where k were made before and the last of those told `t`
abbrev pub read_on : Answer Told → ℕ → Witness → List Event → Reads
read_on t k w es = record { last = last_told t (told_of w es); records = k + length es; witness = witness_after w es }

-- the readings of a log after its header, at most so many
abbrev pub records_of : ℕ → List ℕ → List Event
records_of limit log = readings limit (drop 37 log)

-- by what the header says; one that is refused leaves the witness handed in
unfoldable pub replayed : Witness → List ℕ → ℕ → Answer (List ℕ) → Reads
replayed w log limit (refused n) = record { last = answer nothing_left; records = 0; witness = w }
replayed w log limit (answer name) = read_on (answer nothing_left) 0 (empty_witness name) (records_of limit log)

-- whatever witness was handed in, a log with a right header leaves one of which all of Demand 3 holds, after any number of its
-- records
abbrev pub LogIsRun : Type 0
LogIsRun =
    (w : Witness) (log : List ℕ) → AreBytes log → (limit : ℕ) (name : List ℕ) → header log ≡ answer name
    → let es = records_of limit log in
    All OfBytes es × Guarantee name es (replayed w log limit (header log)).witness (after (start name) es)

-- a limit that is no smaller than the log's length is none: the log is read to its end or its stop
abbrev pub LogIsWhole : Type 0
LogIsWhole = (log : List ℕ) (limit : ℕ) → length log ≤ limit → records_of limit log ≡ records_of (length log) log
