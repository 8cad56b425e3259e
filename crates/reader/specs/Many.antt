-- Reading on: single readings of a log, one after the other, to its end or its stop.
use Rattle.std.specs.Prelude.{ℕ, zero, suc, ◌+◌, ◌-◌, ◌≡◌, List, [], ◌∷◌, ◌++◌, cond, eqb, ltb, length, drop, Option, None, Some, Result}
use Rattle.model.specs.Answer.{Answer, answer}
use Rattle.model.specs.Change.{Told, nothing_left}
use Rattle.model.specs.Decide.{decide}
use Rattle.model.specs.Limits.{member_limit}
use Rattle.model.specs.Log.{record_length}
use Rattle.model.specs.declared.Refusal.{Refusal}
use Rattle.state.specs.State.{model_of, stored}
use Rattle.state.specs.Reading.{Brief, outcome_of, brief}
use Rattle.state.specs.declared.Witness.{Witness}
use Rattle.entries.specs.Entries.{entries_of, entries}
use Rattle.reader.specs.declared.Batch.{Batch}
use Rattle.state.specs.declared.Passed.{Passed}

-- Why readings ended: no more may be passed, since as many were as may be, or there is no room for the entries of
-- another; or by what was told of the next record, which cannot be passed.
pub data Ended : Type 0 where
  spent : Ended
  ended_by : Answer Brief → Ended

-- what several readings come to: what each record that was passed told, why they ended, the offset to go on from, and
-- the witness
pub record Many : Type 0 where
  pub passed : List (Answer Told)
  pub end : Ended
  pub next : ℕ
  pub witness : Witness

-- the same, where records were passed before
abbrev pub behind : List (Answer Told) → Many → Many
behind ts m = record { passed = ts ++ m.passed; end = m.end; next = m.next; witness = m.witness }

-- no record is passed
abbrev pub none_passed : Ended → Witness → ℕ → Many
none_passed why w at = record { passed = []; end = why; next = at; witness = w }

-- At most n records of a log from an offset on, each reading meeting what the last one left and starting where it
-- ended, while there is room for as many entries as a bundle can have. A record that is refused is passed, as one that
-- is taken; what cannot be passed ends them.
unfoldable pub read_many : (n room : ℕ) → Witness → List ℕ → ℕ → Many
read_many zero room w log at = none_passed spent w at
read_many (suc n) room w log at =
    let s = drop at log in
    let d = decide (model_of w) s in
    cond (ltb room member_limit) (none_passed spent w at)
    (cond (eqb (record_length s) 0) (none_passed (ended_by (brief d.told)) w at)
    (behind (d.told ∷ [])
    (read_many n (room - length (entries_of d.told)) (stored w d) log (at + record_length s))))

-- what the last of them told; `t` where there is none
unfoldable pub last_told : Answer Told → List (Answer Told) → Answer Told
last_told t [] = t
last_told t (u ∷ us) = last_told u us

abbrev pub end_of : Option (Result Passed Refusal) → Ended
end_of None = spent
end_of (Some o) = ended_by (outcome_of o)

-- what was told of the record that ended them; `t` where none did
abbrev pub ended_told : Ended → Answer Brief → Answer Brief
ended_told spent t = t
ended_told (ended_by u) t = u

-- `m` is what reading on comes to; the entries stand at the front of the bytes lent, and the others are as they were
pub record IsBatch (m : Many) (before : List ℕ) (r : Batch) (after : List ℕ) : Type 0 where
  pub end : end_of r.end ≡ m.end
  pub last : outcome_of r.last ≡ brief (last_told (answer nothing_left) m.passed)
  pub next : r.next ≡ m.next
  pub records : r.records ≡ length m.passed
  pub witness : r.witness ≡ m.witness
  pub used : r.used ≡ length (entries m.passed)
  pub rows : after ≡ entries m.passed ++ drop (length (entries m.passed)) before
