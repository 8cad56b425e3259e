-- Reading a log on, many records in one call: what the rest of the log comes to is what these and then the rest behind them
-- come to.
use Prim.Native.Nat.{ℕ, ◌+◌, ◌-◌, ◌<◌, ◌≤◌}
use native.Mathlib.Omega.{arith}
use mathlib.Core.Path.{◌≡◌, refl, sym, ap, ◌∙◌, subst, subst₂}
use mathlib.Core.List.{List, [], ◌∷◌, ◌++◌}
use mathlib.Core.Logic.{⊎_elim}
use mathlib.Core.Bool.{false}
use borrow.Author.Tests.{eqb-false}
use lib.Dec.{eqb}
use lib.ListN.{length, drop, replicate, length-drop, length-append}
use Rattle.std.specs.Prelude.{Result, None, Some}
use Rattle.model.specs.Answer.{Answer, answer}
use Rattle.model.specs.declared.Refusal.{Refusal}
use Rattle.model.specs.Bytes.{AreBytes}
use Rattle.model.specs.Change.{Told, nothing_left}
use Rattle.model.specs.Decide.{decide}
use Rattle.model.specs.Log.{record_length}
use Rattle.model.proofs.Lists.{lt_or_ge}
use Rattle.state.specs.Reading.{outcome_of, brief, rows_of_votes, padded}
use Rattle.state.specs.State.{model_of, stored}
use Rattle.state.specs.declared.Passed.{Passed}
use Rattle.state.specs.declared.Witness.{Witness}
use Rattle.entries.specs.Entries.{entries}
use Rattle.reader.specs.Many.{Ended, ended_by, Many, read_many, last_told, end_of, ended_told, IsBatch}
use Rattle.reader.specs.declared.Batch.{Batch}
use Rattle.reader.proofs.Made.{length-inside, while_passed, Stops, Ends, many-ends, not_both, some-told}
use Rattle.reader.proofs.Single.{no-votes}
use Rattle.reader.proofs.Runs.{last-is, any_last}
use Rattle.guarantee.specs.LogRead.{Reads}
use Rattle.replay.specs.IsReplay.{shown}
use Rattle.replay.proofs.Onward.{Sofar, stops-here, goes_on}

-- a call that reads on, from where k records were read; `r` is what it came to
pub record Call (whole : Reads) (limit : ℕ) (log : List ℕ) (t : Answer Told) (k : ℕ) (w : Witness) (at room : ℕ) (before : List ℕ) (r : Batch) (after : List ℕ) : Type 0 where
  pub so : Sofar whole limit log t k w at
  pub bytes : AreBytes log
  pub below : k < limit
  pub roomy : 128 ≤ room
  pub is : IsBatch (read_many (limit - k) room w log at) before r after

module _ {whole : Reads} {limit : ℕ} {log : List ℕ} {t : Answer Told} {k : ℕ} {w : Witness} {at room : ℕ} {before : List ℕ} {r : Batch} {after : List ℕ} (call : Call whole limit log t k w at room before r after) where
  abbrev m : Many
  m = read_many (limit - k) room w log at

  -- after what was told, at the offset p
  record Reached (ts : List (Answer Told)) (v : Witness) (p : ℕ) : Type 0 where
    far : at + length ts ≤ p
    near : length ts ≡ 0 → p ≡ at
    read : Sofar whole limit log (last_told t ts) (k + length ts) v p

  none_passed : Reached [] w at
  unfolding last_told
  none_passed =
      let sum : k ≡ k + 0 = omega arith in
      record { far = omega arith; near = λ e. refl; read = subst (λ (j : ℕ). Sofar whole limit log t j w at) sum call.so }

  one-passed : (ts : List (Answer Told)) (v : Witness) (p : ℕ) → length ts < limit - k → length (entries ts) + 128 ≤ room → eqb (record_length (drop p log)) 0 ≡ false → Reached ts v p
      → Reached (ts ++ (decide (model_of v) (drop p log)).told ∷ []) (stored v (decide (model_of v) (drop p log))) (p + record_length (drop p log))
  one-passed ts v p few free more to =
      let s = drop p log in
      let u = (decide (model_of v) s).told in
      let some = eqb-false (record_length s) 0 more in
      let one = length-append ts (u ∷ []) in
      let sum : k + length ts + 1 ≡ k + length (ts ++ u ∷ []) = omega (arith, one) in
      record {
        far = omega (arith, to.far, one, some);
        near = λ e. absurd (omega (arith, one, e));
        read =
            subst₂ (λ (x : Answer Told) (j : ℕ). Sofar whole limit log x j (stored v (decide (model_of v) s)) (p + record_length s)) (sym (last-is t u ts)) sum
            (goes_on to.read (omega (arith, some, length-inside s, length-drop p log)) (omega (arith, few)) call.bytes more);
      }

  reached : Reached m.passed r.witness r.next
  reached =
      subst₂ (λ (v : Witness) (p : ℕ). Reached m.passed v p) (sym call.is.witness) (sym call.is.next)
      (while_passed log (limit - k) room Reached one-passed w at none_passed)

  ends : Ends log (limit - k) room m
  ends = many-ends log (limit - k) room w at

  pub few-read : r.records ≤ limit - k
  few-read = omega (arith, call.is.records, ends.few)

  pub each-passed : at + r.records ≤ r.next
  each-passed = omega (arith, reached.far, call.is.records)

  so_far : Sofar whole limit log (last_told t m.passed) (k + r.records) r.witness r.next
  so_far = subst (λ (j : ℕ). Sofar whole limit log (last_told t m.passed) (k + j) r.witness r.next) (sym call.is.records) reached.read

  -- where more could be read and told, a record that cannot be passed is there
  module _ (o : Result Passed Refusal) (ended : r.end ≡ Some o) where
    said : ended_by (outcome_of o) ≡ m.end
    said = sym (ap end_of ended) ∙ call.is.end

    stops : Stops log (limit - k) room m
    stops = ⊎_elim (λ h. absurd (not_both (sym (said ∙ h.0)))) (λ h. h) ends.here

    -- behind the log's end, some was passed
    pub passed_then : at < length log → length log ≤ r.next → 0 < r.records
    passed_then inside past =
        ⊎_elim (λ h. h)
        (λ h. absurd (omega (arith, reached.near (omega (arith, call.is.records)), inside, past)))
        (lt_or_ge 0 r.records)

    pub one_more : k + r.records < limit
    one_more = omega (arith, stops.may, call.is.records)

    pub stopped : r.next < length log
        → record { last = outcome_of o; rows = replicate 128 0; records = k + r.records + 1; witness = r.witness } ≡ shown whole
    stopped inside =
        let d = decide (model_of r.witness) (drop r.next log) in
        let none : record_length (drop r.next log) ≡ 0 = ap (λ (p : ℕ). record_length (drop p log)) call.is.next ∙ stops.none in
        let told : outcome_of o ≡ brief d.told =
        ap (λ (e : Ended). ended_told e (outcome_of o)) (said ∙ stops.why)
        ∙ (λ i. brief (decide (model_of (sym call.is.witness i)) (drop (sym call.is.next i) log)).told) in
        (λ i. record { last = told i; rows = padded (sym (no-votes (model_of r.witness) (drop r.next log) none) i); records = k + r.records + 1; witness = r.witness })
        ∙ ap shown (stops-here so_far inside one_more none)

  -- no more may be read: some were
  pub passed-some : r.end ≡ None → 0 < r.records
  passed-some e =
      ⊎_elim
      (λ h. ⊎_elim (λ all. omega (arith, all, call.is.records, call.below)) (λ short. omega (arith, call.is.records, some-told m.passed (omega (arith, short, call.roomy)))) h.1)
      (λ h. absurd (not_both (sym (ap end_of e) ∙ call.is.end ∙ h.why)))
      ends.here

  -- where it passed any, the last of them told what it says
  pub some-passed : 0 < r.records → Sofar whole limit log (last_told (answer nothing_left) m.passed) (k + r.records) r.witness r.next
  some-passed some =
      subst (λ (u : Answer Told). Sofar whole limit log u (k + r.records) r.witness r.next)
      (any_last t (answer nothing_left) m.passed (omega (arith, call.is.records))) so_far

-- what the code has of what was told last
pub record Held (whole : Reads) (limit : ℕ) (log : List ℕ) (last : Result Passed Refusal) (votes : List ℕ) (k : ℕ) (w : Witness) (at : ℕ) : Type 0 where
  pub told : Answer Told
  pub so : Sofar whole limit log told k w at
  pub last-is : outcome_of last ≡ brief told
  pub votes_are : votes ≡ padded (rows_of_votes told)

-- what was read is all, then
pub held_all : {whole : Reads} {limit : ℕ} {log : List ℕ} {last : Result Passed Refusal} {votes : List ℕ} {k : ℕ} {w : Witness} {at : ℕ} (h : Held whole limit log last votes k w at)
    → record { last = h.told; records = k; witness = w } ≡ whole
    → record { last = outcome_of last; rows = votes; records = k; witness = w } ≡ shown whole
held_all {k = k} {w} h e = (λ i. record { last = h.last-is i; rows = h.votes_are i; records = k; witness = w }) ∙ ap shown e
