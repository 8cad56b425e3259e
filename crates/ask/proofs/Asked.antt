-- What is asked of the witness that a log leaves is answered by the log's book.
use Prim.Native.Nat.{ℕ, ◌+◌}
use native.Mathlib.Omega.{arith}
use mathlib.Core.Path.{◌≡◌, sym, ap, ◌∙◌, subst}
use mathlib.Core.List.{List}
use lib.ListN.{length, replicate}
use Rattle.std.specs.Prelude.{Ok, Err}
use Rattle.model.specs.Answer.{Answer, refused, answer, and_then}
use Rattle.model.specs.Bytes.{AreBytes, part}
use Rattle.model.specs.Change.{Told, nothing_left}
use Rattle.model.specs.Evidence.{our_list}
use Rattle.model.specs.Log.{header}
use Rattle.model.specs.Model.{Model, start}
use Rattle.model.specs.Refusals.{refusal_number}
use Rattle.model.specs.declared.Refusal.{Refusal}
use Rattle.state.specs.Reading.{outcome_of, brief, rows_of_votes, padded, start_of}
use Rattle.state.specs.State.{empty_witness}
use Rattle.state.specs.declared.Witness.{Witness}
use Rattle.checker.specs.Check.{check_of}
use Rattle.model.specs.Buffer.{write_answer_of}
use Rattle.sound.specs.Held.{on_sound}
use Rattle.answers.specs.Answers.{status_of, conflict_of}
use Rattle.answers.specs.Calls.{status_call, conflict_call, write_call, write_buffer, check_call}
use Rattle.ask.specs.Book.{book, on_book, book_last, records_read, IsAnswers, book_buffer}
use Rattle.guarantee.specs.LogRead.{records_of, replayed}
use Rattle.replay.specs.IsReplay.{Shown, shown, read_of, IsReplay}
use Rattle.reader.specs.Many.{last_told}
use Rattle.ask.specs.declared.Answers.{Answers}
use Rattle.replay.specs.declared.Replayed.{Replayed}
use Rattle.state.proofs.Started.{header-name}
use Rattle.guarantee.proofs.Demand.{Holds, start-holds, records-bytes, run_holds, run-told, answered, buffer-is}

module _ (w : Witness) (log : List ℕ) (limit : ℕ) (r : Replayed) (is : IsReplay w log limit r) where
  -- the witness that a log with a right header leaves holds the book
  begun-is : r.start ≡ Ok (record {}) → header log ≡ answer (part 5 32 log)
  begun-is e = sym is.start ∙ ap (start_of (part 5 32 log)) e

  refused-is : (f : Refusal) → r.start ≡ Err f → refused (refusal_number f) ≡ header log
  refused-is f e = sym (ap (start_of (part 5 32 log)) e) ∙ is.start

  abbrev held : Witness
  held = r.read.witness

  abbrev name : List ℕ
  name = part 5 32 log

  read_is : r.start ≡ Ok (record {}) → read_of r.read ≡ shown (replayed w log limit (answer name))
  read_is e = is.read ∙ ap (λ h. shown (replayed w log limit h)) (begun-is e)

  empty_holds : r.start ≡ Ok (record {}) → Holds (empty_witness name) (start name)
  empty_holds e = start-holds name (header-name log name (begun-is e))

  holds-book : AreBytes log → r.start ≡ Ok (record {}) → Holds held (book limit log name)
  unfolding replayed
  holds-book bytes e =
      subst (λ (v : Shown). Holds v.witness (book limit log name)) (sym (read_is e)) (run_holds (empty_witness name) (start name) (empty_holds e) (records_of limit log) (records-bytes limit log bytes))

  pub asked : {A : Type 0} (answers : Model → Answer A) → AreBytes log → r.start ≡ Ok (record {}) → on_sound held answers ≡ on_book limit log answers
  unfolding and_then
  asked answers bytes e = answered held (book limit log name) (holds-book bytes e) answers ∙ ap (λ h. and_then h (λ n. answers (book limit log n))) (sym (begun-is e))

  -- what the last record came to, by the book
  told_is : AreBytes log → r.start ≡ Ok (record {}) → (replayed w log limit (answer name)).last ≡ and_then (header log) (book_last limit log)
  unfolding and_then replayed
  told_is bytes e =
      ap (last_told (answer nothing_left)) (run-told (empty_witness name) (start name) (empty_holds e) (records_of limit log) (records-bytes limit log bytes))
      ∙ ap (λ h. and_then h (book_last limit log)) (sym (begun-is e))

  last-asked : AreBytes log → r.start ≡ Ok (record {}) → outcome_of r.read.last ≡ brief (and_then (header log) (book_last limit log))
  last-asked bytes e = ap (λ (v : Shown). v.last) (read_is e) ∙ ap brief (told_is bytes e)

  rows-asked : AreBytes log → r.start ≡ Ok (record {}) → r.read.rows ≡ padded (rows_of_votes (and_then (header log) (book_last limit log)))
  rows-asked bytes e = ap (λ (v : Shown). v.rows) (read_is e) ∙ ap (λ (t : Answer Told). padded (rows_of_votes t)) (told_is bytes e)

  records-asked : r.start ≡ Ok (record {}) → r.read.records ≡ records_read (header log) limit log
  unfolding records_read replayed
  records-asked e =
      let none_before : 0 + length (records_of limit log) ≡ length (records_of limit log) = omega arith in
      ap (λ (v : Shown). v.records) (read_is e) ∙ none_before ∙ ap (λ h. records_read h limit log) (sym (begun-is e))

  refused-asked : {A : Type 0} (answers : List ℕ → Answer A) (f : Refusal) → r.start ≡ Err f → refused (refusal_number f) ≡ and_then (header log) answers
  unfolding and_then
  refused-asked answers f e = ap (λ h. and_then h answers) (refused-is f e)

  -- ---- all the answers, and the buffer

  module _ (p : ℕ) (list buffer : List ℕ) where
    pub answers-begun : AreBytes log → r.start ≡ Ok (record {}) → (a : Answers) → a.last ≡ r.read.last → a.rows ≡ r.read.rows → a.records ≡ r.read.records → status_of a.status ≡ status_call held p
        → conflict_of a.conflict ≡ conflict_call held → write_answer_of a.ours ≡ write_call our_list held buffer
        → check_of a.theirs ≡ check_call held list → IsAnswers log limit p list buffer a
    unfolding status_call conflict_call write_call check_call
    answers-begun bytes e a l v n s c o t = record {
      last = ap outcome_of l ∙ last-asked bytes e;
      rows = v ∙ rows-asked bytes e;
      records = n ∙ records-asked e;
      status = s ∙ asked _ bytes e;
      conflict = c ∙ asked _ bytes e;
      ours = o ∙ asked _ bytes e;
      theirs = t ∙ asked _ bytes e;
    }

    pub answers-refused : (f : Refusal) → r.start ≡ Err f
        → IsAnswers log limit p list buffer
        (record {
          last = Err f;
          rows = replicate 128 0;
          records = 0;
          status = Err f;
          conflict = Err f;
          ours = Err f;
          theirs = Err f;
        })
    unfolding records_read brief rows_of_votes
    answers-refused f e = record {
      last = ap brief (refused-asked (book_last limit log) f e);
      rows = ap (λ (t : Answer Told). padded (rows_of_votes t)) (refused-asked (book_last limit log) f e);
      records = ap (λ h. records_read h limit log) (refused-is f e);
      status = refused-asked _ f e;
      conflict = refused-asked _ f e;
      ours = refused-asked _ f e;
      theirs = refused-asked _ f e;
    }

  pub buffer-begun : (buffer : List ℕ) → AreBytes log → r.start ≡ Ok (record {}) → write_buffer our_list held buffer ≡ book_buffer (header log) limit log buffer
  unfolding book_buffer
  buffer-begun buffer bytes e =
      buffer-is held (book limit log name) (holds-book bytes e) our_list buffer ∙ ap (λ x. book_buffer x limit log buffer) (sym (begun-is e))

  pub buffer-refused : (buffer : List ℕ) (f : Refusal) → r.start ≡ Err f → buffer ≡ book_buffer (header log) limit log buffer
  unfolding book_buffer
  buffer-refused buffer f e = ap (λ x. book_buffer x limit log buffer) (refused-is f e)
