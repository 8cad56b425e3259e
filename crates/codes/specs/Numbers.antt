-- Answers as numbers, for a caller in another language: the number of the refusal, or 0 and the value.
use Rattle.std.specs.Prelude.{ℕ, ◌+◌, ◌≡◌, List, Bool, cond}
use Rattle.model.specs.Answer.{Answer, refused, answer, row_of}
use Rattle.model.specs.Change.{Decision}
use Rattle.model.specs.Support.{Support}
use Rattle.model.specs.declared.Status.{Status}
use Rattle.model.specs.declared.Status.TheVariants.{Plain, Justified, Final}
use Rattle.state.specs.Reading.{Brief, none_left, one_taken, many_votes, brief, rows_of_votes, padded}
use Rattle.state.specs.State.{stored}
use Rattle.state.specs.declared.Witness.{Witness}
use Rattle.text.specs.Put.{Put}
use Rattle.guarantee.specs.LogRead.{Reads}
use Rattle.feeding.specs.Feed.{Paused, wants, full, out_of_numbers, ended, refused_by, Feeding}
use Rattle.codes.specs.declared.Answered.{Answered}
use Rattle.codes.specs.declared.Backed.{Backed}
use Rattle.codes.specs.declared.Begun.{Begun}
use Rattle.codes.specs.declared.Read.{Read}
use Rattle.codes.specs.declared.Replay.{Replay}
use Rattle.codes.specs.declared.Moved.{Moved}
use Rattle.codes.specs.declared.Piece.{Piece}
use Rattle.codes.specs.declared.Tells.{Tells}

-- the value as a number, 0 where the call is refused
abbrev pub value_of : {A : Type 0} → (A → ℕ) → Answer A → ℕ
value_of number (refused n) = 0
value_of number (answer a) = number a

abbrev pub status_number : Status → ℕ
status_number Plain = 0
status_number Justified = 1
status_number Final = 2

abbrev pub yes_number : Bool → ℕ
yes_number b = cond b 1 0

-- 1 for a record that is taken, and is no bundle
abbrev pub taken_number : Brief → ℕ
taken_number none_left = 0
taken_number one_taken = 1
taken_number (many_votes n) = 0

-- how many votes a bundle has
abbrev pub votes_number : Brief → ℕ
votes_number none_left = 0
votes_number one_taken = 0
votes_number (many_votes n) = n

-- why a call for the report paused
abbrev pub pause_number : Paused → ℕ
pause_number wants = 0
pause_number full = 1
pause_number ended = 2
pause_number out_of_numbers = 3
pause_number (refused_by n) = 256 + n

pub record IsAnswered {A : Type 0} (number : A → ℕ) (a : Answer A) (r : Answered) : Type 0 where
  pub refused : r.refused ≡ row_of a
  pub value : r.value ≡ value_of number a

pub record IsBacked (a : Answer Support) (r : Backed) : Type 0 where
  pub refused : r.refused ≡ row_of a
  pub number : r.number ≡ value_of (λ b. b.number) a
  pub bonds : r.bonds ≡ value_of (λ b. b.bonds) a
  pub quorum : r.quorum ≡ value_of (λ b. yes_number b.yes?) a

-- `h` is what the header says, and `w` the witness afterwards
pub record IsBegun (h : Answer (List ℕ)) (w : Witness) (r : Begun) : Type 0 where
  pub refused : r.refused ≡ row_of h
  pub witness : r.witness ≡ w

-- what a record came to
pub record IsTold (a : Answer Brief) (r : Tells) : Type 0 where
  pub refused : r.refused ≡ row_of a
  pub taken : r.taken ≡ value_of taken_number a
  pub votes : r.votes ≡ value_of votes_number a

-- `h` is what the header says, and `rs` what the records after it come to
pub record IsReplayed (h : Answer (List ℕ)) (rs : Reads) (r : Replay) : Type 0 where
  pub header : r.header ≡ row_of h
  pub refused : r.refused ≡ row_of (brief rs.last)
  pub taken : r.taken ≡ value_of taken_number (brief rs.last)
  pub votes : r.votes ≡ value_of votes_number (brief rs.last)
  pub rows : r.rows ≡ padded (rows_of_votes rs.last)
  pub records : r.records ≡ rs.records
  pub witness : r.witness ≡ rs.witness

-- `d` is what is decided on the record, and `after` the offset to go on from
pub record IsRead (w : Witness) (d : Decision) (after : ℕ) (r : Read) : Type 0 where
  pub refused : r.refused ≡ row_of (brief d.told)
  pub taken : r.taken ≡ value_of taken_number (brief d.told)
  pub votes : r.votes ≡ value_of votes_number (brief d.told)
  pub rows : r.rows ≡ padded (rows_of_votes d.told)
  pub next : r.next ≡ after
  pub witness : r.witness ≡ stored w d

-- `d` is what is decided on the move
pub record IsMovedRoot (w : Witness) (d : Decision) (r : Moved) : Type 0 where
  pub refused : r.refused ≡ row_of (brief d.told)
  pub witness : r.witness ≡ stored w d

-- `f` is what a call for the report comes to, from the offset `at` on: the text stands at the buffer's start, and every other
-- byte is as it was
pub record IsPiece (f : Feeding) (at : ℕ) (before : List ℕ) (r : Piece) (after : List ℕ) : Type 0 where
  pub pause : r.pause ≡ pause_number f.paused
  pub next : r.next ≡ at + f.passed
  pub records : r.records ≡ f.records
  pub witness : r.witness ≡ f.witness
  pub text : Put before 0 f.text after r.written
