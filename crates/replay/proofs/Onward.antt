-- Reading a log on, one record at a time: what the rest of the log comes to is what this record and then the rest behind it
-- come to.
use Prim.Native.Nat.{ℕ, zero, suc, ◌+◌, ◌-◌, ◌<◌, ◌≤◌}
use native.Mathlib.Omega.{arith}
use mathlib.Core.Path.{◌≡◌, refl, sym, ap, ◌∙◌, subst}
use mathlib.Core.List.{List, [], ◌∷◌}
use mathlib.Core.Bool.{Bool, true, false, cond}
use borrow.Author.Tests.{eq-eqb}
use lib.Dec.{eqb}
use lib.ListN.{length, drop, replicate, length-drop}
use lib.Seq.{drop-drop}
use Rattle.std.specs.Prelude.{Ok, Err}
use Rattle.model.specs.Answer.{Answer, refused, answer}
use Rattle.model.specs.Bytes.{AreBytes, part}
use Rattle.model.specs.Change.{Told, nothing_left, Decision}
use Rattle.model.specs.Decide.{decide}
use Rattle.model.specs.Log.{header, record_length}
use Rattle.model.specs.declared.Refusal.{Refusal}
use Rattle.model.specs.Refusals.{refusal_number}
use Rattle.model.specs.Run.{Event, reading, readings}
use Rattle.state.specs.Reading.{brief, rows_of_votes, start_of, begin_with, IsBeginning}
use Rattle.state.specs.State.{empty_witness, model_of, stored}
use Rattle.state.specs.declared.Witness.{Witness}
use Rattle.state.specs.declared.Beginning.{Beginning}
use Rattle.state.specs.declared.Passed.TheVariants.{Nothing}
use Rattle.witness.specs.Calls.{event_call}
use Rattle.guarantee.specs.Demand3.{witness_after, told_of}
use Rattle.guarantee.specs.LogRead.{Reads, read_on, records_of, replayed}
use Rattle.replay.specs.IsReplay.{shown, read_of, IsReplay}
use Rattle.replay.specs.declared.Read.{Read}
use Rattle.state.proofs.Started.{empty_sound, header-name}
use Rattle.reader.specs.Many.{last_told}
use Rattle.state.specs.Sound.{Sound}
use Rattle.state.proofs.Kept.{reading-sound}
use Rattle.model.proofs.Bytes.{drop-bytes}
use Rattle.reader.proofs.Made.{stays}
use Rattle.guarantee.proofs.Demand.{decided-here}

-- an event, and then the others
first_read : (t : Answer Told) (k : ℕ) (w : Witness) (e : Event) (es : List Event) → read_on t k w (e ∷ es) ≡ read_on (event_call w e).told (k + 1) (stored w (event_call w e)) es
unfolding witness_after told_of last_told
first_read t k w e es =
    let sum : k + suc (length es) ≡ k + 1 + length es = omega arith in
    let w' = stored w (event_call w e) in
    λ i. record { last = last_told (event_call w e).told (told_of w' es); records = sum i; witness = witness_after w' es }

-- one more of the readings of what is left: this record's, and those behind it unless this one stops the reading
first-reading : (n : ℕ) (s : List ℕ) → 0 < length s → readings (suc n) s ≡ reading s ∷ cond (eqb (record_length s) 0) [] (readings n (drop (record_length s) s))
unfolding readings
first-reading n [] h = absurd (omega arith)
first-reading n (x ∷ s) h = refl

-- what reading on comes to, n records at most
abbrev pub rest : Answer Told → ℕ → Witness → ℕ → List ℕ → ℕ → Reads
rest t k w n log at = read_on t k w (readings n (drop at log))

-- What was read, and what reading on from here comes to, is the whole: k of at most `limit` records were read, the last of them
-- told `t`, and the witness is sound.
pub record Sofar (whole : Reads) (limit : ℕ) (log : List ℕ) (t : Answer Told) (k : ℕ) (w : Witness) (at : ℕ) : Type 0 where
  pub sound : Sound w
  pub few : k ≤ limit
  pub same : whole ≡ rest t k w (limit - k) log at

pub none_read : (limit : ℕ) (log : List ℕ) (t : Answer Told) (w : Witness) (at : ℕ) → Sound w → Sofar (rest t 0 w limit log at) limit log t 0 w at
none_read limit log t w at sound =
    let all : limit ≡ limit - 0 = omega arith in
    record { sound = sound; few = omega arith; same = ap (λ (n : ℕ). rest t 0 w n log at) all }

none_left : (n : ℕ) (s : List ℕ) → length s ≡ 0 → readings n s ≡ []
unfolding readings
none_left zero s e = refl
none_left (suc n) [] e = refl
none_left (suc n) (x ∷ s) e = absurd (omega (arith, e))

module _ {whole : Reads} {limit : ℕ} {log : List ℕ} {t : Answer Told} {k : ℕ} {w : Witness} {at : ℕ} (so : Sofar whole limit log t k w at) where
  abbrev left : List ℕ
  left = drop at log

  -- what was read is all, then
  all_read : readings (limit - k) left ≡ [] → record { last = t; records = k; witness = w } ≡ whole
  unfolding witness_after told_of last_told
  all_read e =
      let sum : k ≡ k + 0 = omega arith in
      (λ i. record { last = t; records = sum i; witness = w }) ∙ ap (read_on t k w) (sym e) ∙ sym so.same

  -- where no more may be read
  pub limit_met : limit ≤ k → record { last = t; records = k; witness = w } ≡ whole
  unfolding readings
  limit_met h =
      let none : limit - k ≡ 0 = omega arith in
      all_read (ap (λ (n : ℕ). readings n left) none)

  -- and where the log has ended
  pub log-ended : length log ≤ at → record { last = t; records = k; witness = w } ≡ whole
  log-ended h = all_read (none_left (limit - k) left (omega (arith, length-drop at log)))

  abbrev d : Decision
  d = decide (model_of w) left

  -- the record here
  module _ (inside : at < length log) (below : k < limit) where
    abbrev behind : List Event
    behind = readings (limit - (k + 1)) (drop (record_length left) left)

    this_record : (b : Bool) → eqb (record_length left) 0 ≡ b → whole ≡ read_on d.told (k + 1) (stored w d) (cond b [] behind)
    this_record b e =
        let some : limit - k ≡ suc (limit - (k + 1)) = omega arith in
        let later = cond (eqb (record_length left) 0) [] behind in
        let same : event_call w (reading left) ≡ d = decided-here w so.sound left in
        so.same
        ∙ ap (λ (n : ℕ). rest t k w n log at) some
        ∙ ap (read_on t k w) (first-reading (limit - (k + 1)) left (omega (arith, length-drop at log)))
        ∙ first_read t k w (reading left) later
        ∙ ap (λ (x : Decision). read_on x.told (k + 1) (stored w x) later) same
        ∙ ap (λ (x : Bool). read_on d.told (k + 1) (stored w d) (cond x [] behind)) e

    -- one that is unknown or cut is the last that is read
    pub stops-here : record_length left ≡ 0 → record { last = d.told; records = k + 1; witness = w } ≡ whole
    unfolding witness_after told_of last_told
    stops-here none =
        let sum : k + 1 + 0 ≡ k + 1 = omega arith in
        sym (this_record true (eq-eqb (record_length left) 0 none) ∙ (λ i. record { last = d.told; records = sum i; witness = stays w (model_of w) left none i }))

    -- any other is passed
    pub goes_on : AreBytes log → eqb (record_length left) 0 ≡ false → Sofar whole limit log d.told (k + 1) (stored w d) (at + record_length left)
    goes_on bytes more =
        record {
          sound = reading-sound w so.sound left (drop-bytes at log bytes);
          few = omega arith;
          same = this_record false more ∙ ap (λ s. read_on d.told (k + 1) (stored w d) (readings (limit - (k + 1)) s)) (drop-drop (record_length left) at log);
        }

-- ---- the log's beginning

module _ (w : Witness) (log : List ℕ) (limit : ℕ) (r : Beginning) (is : IsBeginning w (part 5 32 log) (header log) r) where
  -- a witness that was begun has the header's name, and is empty
  begun-header : r.outcome ≡ Ok (record {}) → header log ≡ answer (part 5 32 log)
  begun-header e = sym is.outcome ∙ ap (start_of (part 5 32 log)) e

  begun_empty : r.outcome ≡ Ok (record {}) → r.witness ≡ empty_witness (part 5 32 log)
  unfolding begin_with
  begun_empty e = is.witness ∙ ap (begin_with w) (begun-header e)

  pub begun-sound : r.outcome ≡ Ok (record {}) → Sound r.witness
  begun-sound e =
      let name = part 5 32 log in
      subst Sound (sym (begun_empty e)) (empty_sound name (header-name log name (begun-header e)))

  pub begun_replay : r.outcome ≡ Ok (record {}) → (read : Read) → read_of read ≡ shown (read_on (answer nothing_left) 0 r.witness (records_of limit log))
      → IsReplay w log limit (record { start = r.outcome; read = read })
  unfolding replayed
  begun_replay e read h = record {
    start = is.outcome;
    read =
        h ∙ ap (λ (v : Witness). shown (read_on (answer nothing_left) 0 v (records_of limit log))) (begun_empty e)
        ∙ ap (λ (x : Answer (List ℕ)). shown (replayed w log limit x)) (sym (begun-header e));
  }

  pub refused_replay : (f : Refusal) → r.outcome ≡ Err f
      → IsReplay w log limit (record { start = r.outcome; read = record { last = Ok Nothing; rows = replicate 128 0; records = 0; witness = r.witness } })
  unfolding replayed begin_with brief rows_of_votes
  refused_replay f e =
      let refused-is : header log ≡ refused (refusal_number f) = sym is.outcome ∙ ap (start_of (part 5 32 log)) e in
      record {
        start = is.outcome;
        read =
            ap (λ (v : Witness). shown (record { last = answer nothing_left; records = 0; witness = v })) (is.witness ∙ ap (begin_with w) refused-is)
            ∙ ap (λ (x : Answer (List ℕ)). shown (replayed w log limit x)) (sym refused-is);
      }
