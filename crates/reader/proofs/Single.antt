-- Where one record may be read, reading on is its reading.
use Prim.Native.Nat.{ℕ, ◌+◌, ◌≤◌}
use native.Mathlib.Omega.{arith}
use mathlib.Core.Path.{◌≡◌, refl, sym, ap, ◌∙◌}
use mathlib.Core.List.{List, []}
use mathlib.Core.Bool.{Bool, true, false}
use borrow.Author.Tests.{eqb-true}
use lib.Dec.{eqb}
use lib.ListN.{drop}
use Rattle.model.specs.Answer.{answer}
use Rattle.model.specs.Change.{nothing_left, Decision, single}
use Rattle.model.specs.Decide.{decide_record, decide}
use Rattle.model.specs.Log.{Record, record_length}
use Rattle.model.specs.Model.{Model}
use Rattle.model.proofs.Log.{decode_elim}
use Rattle.state.specs.Reading.{outcome_of, brief, rows_of_votes, padded, IsReading}
use Rattle.state.specs.State.{model_of}
use Rattle.std.specs.Prelude.{Option, None, Some, Result}
use Rattle.std.specs.Option.{unwrap_or}
use Rattle.model.specs.declared.Refusal.{Refusal}
use Rattle.state.specs.declared.Passed.{Passed}
use Rattle.state.specs.declared.Witness.{Witness}
use Rattle.entries.specs.Entries.{votes_in, last_rows}
use Rattle.reader.specs.Many.{Ended, Many, read_many, last_told, end_of, ended_told, IsBatch}
use Rattle.reader.specs.declared.Batch.{Batch}
use Rattle.reader.proofs.Made.{stays}
use Rattle.reader.proofs.Runs.{one-may}
use Rattle.reader.proofs.Votes.{votes_are}

-- where no record can be passed, there are no votes
pub no-votes : (m : Model) (s : List ℕ) → record_length s ≡ 0 → rows_of_votes (decide m s).told ≡ []
unfolding decide decide_record single rows_of_votes
no-votes m s =
    decode_elim (λ (r : Record) (n : ℕ). n ≡ 0 → rows_of_votes (decide_record m r).told ≡ []) s
    (record {
      nothing = λ _. refl;
      unknown = λ _. refl;
      cut = λ _. refl;
      member = λ _ e. absurd (omega arith);
      checkpoint = λ _ e. absurd (omega arith);
      vote = λ _ e. absurd (omega arith);
      bundle = λ _ e. absurd (omega arith);
      quorum = λ _ e. absurd (omega arith);
    })

-- what ended a reading, or else the last record
pub ended-outcome : (e : Option (Result Passed Refusal)) (last : Result Passed Refusal)
    → outcome_of (unwrap_or e last) ≡ ended_told (end_of e) (outcome_of last)
ended-outcome None last = refl
ended-outcome (Some o) last = refl

module _ (room : ℕ) (w : Witness) (log : List ℕ) (at : ℕ) {before after : List ℕ} {r : Batch} (free : 128 ≤ room) (is : IsBatch (read_many 1 room w log at) before r after) where
  abbrev s : List ℕ
  s = drop at log

  abbrev d : Decision
  d = decide (model_of w) s

  -- what ended it is told; and where nothing did, the record was passed and is the last
  pub one-reading : (o : Result Passed Refusal) → outcome_of o ≡ ended_told (end_of r.end) (outcome_of r.last)
      → IsReading w d (at + record_length s)
      (record { outcome = o; rows = padded (last_rows (votes_in r.last) r.used after); next = r.next; witness = r.witness })
  unfolding read_many last_told rows_of_votes
  one-reading o said = go (eqb (record_length s) 0) refl
    where
      ended : (x : Ended) → end_of r.end ≡ x → outcome_of o ≡ ended_told x (outcome_of r.last)
      ended x e = said ∙ ap (λ (y : Ended). ended_told y (outcome_of r.last)) e

      go : (b : Bool) → eqb (record_length s) 0 ≡ b
          → IsReading w d (at + record_length s)
          (record { outcome = o; rows = padded (last_rows (votes_in r.last) r.used after); next = r.next; witness = r.witness })
      go true e =
          let none = eqb-true (record_length s) 0 e in
          let all = one-may w log at 0 room free true e in
          record {
            outcome = ended _ (is.end ∙ ap (λ (m : Many). m.end) all);
            rows =
                votes_are 1 room w log at is
                ∙ ap (λ (m : Many). padded (rows_of_votes (last_told (answer nothing_left) m.passed))) all
                ∙ ap padded (sym (no-votes (model_of w) s none));
            next = omega (arith, is.next, ap (λ (m : Many). m.next) all, none);
            witness = is.witness ∙ ap (λ (m : Many). m.witness) all ∙ sym (stays w (model_of w) s none);
          }
      go false e =
          let all = one-may w log at 0 room free false e in
          record {
            outcome =
                ended _ (is.end ∙ ap (λ (m : Many). m.end) all)
                ∙ is.last ∙ ap (λ (m : Many). brief (last_told (answer nothing_left) m.passed)) all;
            rows = votes_are 1 room w log at is ∙ ap (λ (m : Many). padded (rows_of_votes (last_told (answer nothing_left) m.passed))) all;
            next = is.next ∙ ap (λ (m : Many). m.next) all;
            witness = is.witness ∙ ap (λ (m : Many). m.witness) all;
          }
