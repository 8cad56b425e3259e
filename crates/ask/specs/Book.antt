-- The book of a log: the reference model after its records, to the log's end or its stop, or after the first so many. What is
-- asked of a log is answered by its book; a header that is refused is the answer.
use Rattle.std.specs.Prelude.{ℕ, ◌≡◌, List, length}
use Rattle.model.specs.Answer.{Answer, refused, answer, and_then}
use Rattle.model.specs.Buffer.{write_text, buffer_after, write_answer_of}
use Rattle.model.specs.Change.{Told, nothing_left}
use Rattle.model.specs.Checker.{check}
use Rattle.model.specs.Evidence.{our_list}
use Rattle.model.specs.Finality.{status_at, conflicting?}
use Rattle.model.specs.Log.{header}
use Rattle.model.specs.Model.{Model, start}
use Rattle.model.specs.Run.{after, outcomes}
use Rattle.checker.specs.Check.{check_of}
use Rattle.state.specs.Reading.{outcome_of, brief, rows_of_votes, padded}
use Rattle.answers.specs.Answers.{status_of, conflict_of}
use Rattle.ask.specs.declared.Answers.{Answers}
use Rattle.reader.specs.Many.{last_told}
use Rattle.guarantee.specs.LogRead.{records_of}

abbrev pub book : ℕ → List ℕ → List ℕ → Model
book limit log name = after (start name) (records_of limit log)

abbrev pub on_book : {A : Type 0} → ℕ → List ℕ → (Model → Answer A) → Answer A
on_book limit log answers = and_then (header log) (λ name. answers (book limit log name))

-- the book's outcome for the last record read
abbrev pub book_last : ℕ → List ℕ → List ℕ → Answer Told
book_last limit log name = last_told (answer nothing_left) (outcomes (start name) (records_of limit log))

-- how many records are read: none where the header is refused
unfoldable pub records_read : Answer (List ℕ) → ℕ → List ℕ → ℕ
records_read (refused n) limit log = 0
records_read (answer name) limit log = length (records_of limit log)

-- the answers of the book: its outcome for the last record, how many were read, the standing of the checkpoint at a place,
-- whether two final checkpoints conflict, the length of our list where the buffer has room for it, and whether a list that
-- someone handed in passes, with the bonds that it names
pub record IsAnswers (log : List ℕ) (limit p : ℕ) (list buffer : List ℕ) (r : Answers) : Type 0 where
  pub last : outcome_of r.last ≡ brief (and_then (header log) (book_last limit log))
  pub rows : r.rows ≡ padded (rows_of_votes (and_then (header log) (book_last limit log)))
  pub records : r.records ≡ records_read (header log) limit log
  pub status : status_of r.status ≡ on_book limit log (λ b. status_at b p)
  pub conflict : conflict_of r.conflict ≡ on_book limit log (λ b. answer (conflicting? b))
  pub ours : write_answer_of r.ours ≡ on_book limit log (λ b. write_text (our_list b) buffer)
  pub theirs : check_of r.theirs ≡ on_book limit log (λ b. check b list)

-- the buffer: our list and then what was there; as it was where the header is refused or there is no room
unfoldable pub book_buffer : Answer (List ℕ) → ℕ → List ℕ → List ℕ → List ℕ
book_buffer (refused n) limit log buffer = buffer
book_buffer (answer name) limit log buffer =
    let list = our_list (book limit log name) in
    buffer_after list buffer (write_text list buffer)
