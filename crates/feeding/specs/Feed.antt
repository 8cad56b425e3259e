-- The report of a log that is fed in pieces: what each call writes, and where it pauses.
use Rattle.std.specs.Prelude.{ℕ, zero, suc, ◌+◌, ◌*◌, ◌-◌, ◌≡◌, List, [], ◌++◌, Bool, cond, not, ◌&&◌, ◌||◌, eqb, ltb}
use Rattle.std.specs.Prelude.{length, drop, Result, Ok, Err}
use Rattle.model.specs.Answer.{Answer, refused, answer}
use Rattle.model.specs.Decide.{decide}
use Rattle.model.specs.Limits.{member_limit}
use Rattle.model.specs.Log.{header, record_length}
use Rattle.model.specs.Model.{Model}
use Rattle.model.specs.Refusals.{refusal_number}
use Rattle.model.specs.declared.Refusal.{Refusal}
use Rattle.model.specs.Report.{summary, stopped_line, outcome_line}
use Rattle.state.specs.State.{empty_witness, model_of, stored}
use Rattle.state.specs.declared.Witness.{Witness}
use Rattle.text.specs.Put.{Put}
use Rattle.state.specs.Sound.{sound?}
use Rattle.feeding.specs.declared.Fed.{Fed}
use Rattle.feeding.specs.declared.Pause.{Pause}
use Rattle.feeding.specs.declared.Pause.TheVariants.{Wants, Full, OutOfNumbers, Ended}

-- Why a call paused: it wants more of the log, since nothing is left or the last record is cut; the buffer has no room
-- for the lines of another record, or for the last text; no record number is left; the report has ended, and nothing
-- more belongs to it; or the call was refused.
pub data Paused : Type 0 where
  wants : Paused
  full : Paused
  out_of_numbers : Paused
  ended : Paused
  refused_by : ℕ → Paused

-- what a call comes to: the text that it writes, why it paused, how many bytes it passed over, the number of the next record,
-- and the witness
pub record Feeding : Type 0 where
  pub text : List ℕ
  pub paused : Paused
  pub passed : ℕ
  pub records : ℕ
  pub witness : Witness

abbrev pub paused_at : List ℕ → Paused → Witness → ℕ → Feeding
paused_at text why w k = record { text = text; paused = why; passed = 0; records = k; witness = w }

-- lines that were written, and bytes that were passed, before
abbrev pub ahead : List ℕ → ℕ → Feeding → Feeding
ahead lines n f =
    record {
      text = lines ++ f.text;
      paused = f.paused;
      passed = n + f.passed;
      records = f.records;
      witness = f.witness;
    }

-- the longest line has fewer bytes
abbrev pub line_room : ℕ
line_room = 64

-- and the lines of one record, which may be a bundle
abbrev pub record_room : ℕ
record_room = member_limit * line_room

-- record numbers are of 64 bits, and no record has the last of them
abbrev pub last_number : ℕ
last_number = 18446744073709551615

-- why no record can be read on: the lines of a bundle might not fit, or else no number is left
abbrev pub spent : ℕ → Paused
spent room = cond (ltb room record_room) full out_of_numbers

-- where no record can be passed: an unknown kind ends the report; a cut record may be whole with the next piece
unfoldable pub halted : {A : Type 0} → Answer A → Witness → ℕ → Feeding
halted (refused n) w k = cond (eqb n 4) (paused_at (stopped_line 4 k) ended w k) (paused_at [] wants w k)
halted (answer a) w k = paused_at [] wants w k

-- Record k and those after it, from the bytes s, with so much room in the buffer; n bounds how many.
unfoldable pub feed_from : ℕ → ℕ → Witness → ℕ → List ℕ → Feeding
feed_from zero room w k s = paused_at [] wants w k
feed_from (suc n) room w k s =
    let d = decide (model_of w) s in
    let lines = outcome_line k d.told in
    let size = record_length s in
    cond (ltb room record_room || eqb k last_number) (paused_at [] (spent room) w k)
    (cond (eqb size 0) (halted d.told w k)
    (ahead lines size (feed_from n (room - length lines) (stored w d) (k + 1) (drop size s))))

-- row 40 before everything else
unfoldable pub on_sound : Witness → ℕ → Feeding → Feeding
on_sound w k f = cond (sound? w) f (paused_at [] (refused_by 40) w k)

-- feeding a piece: the bytes that are left of it
unfoldable pub feed_call : ℕ → Witness → ℕ → List ℕ → Feeding
feed_call room w k s = on_sound w k (feed_from (length s + 1) room w k s)

-- the beginning: the log's first bytes, the header among them
unfoldable pub headed : Witness → Answer (List ℕ) → Feeding
headed w (refused n) = paused_at (stopped_line n 0) ended w 0
headed w (answer name) = record { text = []; paused = wants; passed = 37; records = 0; witness = empty_witness name }

-- Where fewer bytes than a header's are there, and `last` does not say that no more will come, more are wanted.
unfoldable pub open_call : Bool → ℕ → Witness → List ℕ → Feeding
open_call last room w log =
    cond (ltb (length log) 37 && not last) (paused_at [] wants w 0)
    (cond (ltb room line_room) (paused_at [] full w 0)
    (headed w (header log)))

-- the end of the log, where so many bytes were not passed: a record that stays cut, or the summary
unfoldable pub end_text : Model → ℕ → ℕ → List ℕ
end_text m k left = cond (eqb left 0) (summary m) (stopped_line 5 k)

unfoldable pub end_fed : ℕ → Witness → ℕ → ℕ → Feeding
end_fed room w k left =
    let text = end_text (model_of w) k left in
    cond (ltb room (length text)) (paused_at [] full w k) (paused_at text ended w k)

unfoldable pub end_call : ℕ → Witness → ℕ → ℕ → Feeding
end_call room w k left = on_sound w k (end_fed room w k left)

abbrev pub pause_of : Pause → Paused
pause_of Wants = wants
pause_of Full = full
pause_of OutOfNumbers = out_of_numbers
pause_of Ended = ended

abbrev pub paused_of : Result Pause Refusal → Paused
paused_of (Ok p) = pause_of p
paused_of (Err r) = refused_by (refusal_number r)

-- what a call gives back and leaves: the text stands in the buffer from an offset on (0 for the public calls), and every other
-- byte is as it was
pub record IsFed (f : Feeding) (at from : ℕ) (before : List ℕ) (r : Fed) (after : List ℕ) : Type 0 where
  pub pause : paused_of r.pause ≡ f.paused
  pub next : r.next ≡ at + f.passed
  pub records : r.records ≡ f.records
  pub witness : r.witness ≡ f.witness
  pub text : Put before from f.text after r.written
