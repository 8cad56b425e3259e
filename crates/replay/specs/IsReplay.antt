-- What the code's `replay` gives back: what the header says, and what reading the log comes to.
use Rattle.std.specs.Prelude.{ℕ, ◌≡◌, List}
use Rattle.model.specs.Answer.{Answer}
use Rattle.model.specs.Bytes.{part}
use Rattle.model.specs.Log.{header}
use Rattle.state.specs.Reading.{Brief, outcome_of, brief, rows_of_votes, padded, start_of}
use Rattle.state.specs.declared.Witness.{Witness}
use Rattle.guarantee.specs.LogRead.{Reads, replayed}
use Rattle.replay.specs.declared.Read.{Read}
use Rattle.replay.specs.declared.Replayed.{Replayed}

-- what reading came to, as it is given back: of the last record the outcome, and of a bundle the row of each vote
pub record Shown : Type 0 where
  pub last : Answer Brief
  pub rows : List ℕ
  pub records : ℕ
  pub witness : Witness

abbrev pub shown : Reads → Shown
shown x =
    record {
      last = brief x.last;
      rows = padded (rows_of_votes x.last);
      records = x.records;
      witness = x.witness;
    }

abbrev pub read_of : Read → Shown
read_of r = record { last = outcome_of r.last; rows = r.rows; records = r.records; witness = r.witness }

pub record IsReplay (w : Witness) (log : List ℕ) (limit : ℕ) (r : Replayed) : Type 0 where
  pub start : start_of (part 5 32 log) r.start ≡ header log
  pub read : read_of r.read ≡ shown (replayed w log limit (header log))
