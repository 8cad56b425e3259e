-- The rest of a report, one record at a time.
use Prim.Native.Nat.{ℕ, suc, ◌+◌}
use native.Mathlib.Numerals.{add-one}
use native.Mathlib.Omega.{arith}
use mathlib.Core.Path.{◌≡◌, refl, ap, ◌∙◌}
use mathlib.Core.List.{List, [], ◌∷◌, ◌++◌, append_assoc, append-nil}
use mathlib.Core.Bool.{Bool, true, false, cond}
use lib.Dec.{eqb}
use lib.ListN.{length, drop}
use Rattle.model.specs.Answer.{refused}
use Rattle.model.specs.Change.{Decision, single, decided}
use Rattle.model.specs.Decide.{decide, decide_record}
use Rattle.model.specs.Lists.{any}
use Rattle.model.specs.Log.{record_length, decode}
use Rattle.model.specs.Model.{Model}
use Rattle.model.specs.Report.{summary, stops?, stopped_line, outcome_line, outcome_lines}
use Rattle.model.specs.Run.{Event, reading, decide_event, after, outcomes, readings}
use Rattle.model.proofs.Lists.{clash}
use Rattle.model.proofs.Readings.{readings-bound, whole_goes_on}
use Rattle.pieces.proofs.Prefix.{left_shorter, whole-front}

-- the rest of a report: record k and those after it, from the bytes s to the log's end or its stop, and the summary
unfoldable pub rest_of_report : Model → ℕ → List ℕ → List ℕ
rest_of_report m k s =
    let es = readings (length s) s in
    outcome_lines k (outcomes m es) ++ cond (any stops? (outcomes m es)) [] (summary (after m es))

-- what is written of some readings, from record k on
abbrev written : Model → ℕ → List Event → List ℕ
written m k es = outcome_lines k (outcomes m es) ++ cond (any stops? (outcomes m es)) [] (summary (after m es))

-- a reading that does not stop, and then the others
first-written : (m : Model) (k : ℕ) (s : List ℕ) (es : List Event) → stops? (decide m s).told ≡ false
    → written m k (reading s ∷ es) ≡ outcome_line k (decide m s).told ++ written (decided m (decide m s)) (k + 1) es
unfolding outcome_lines outcomes any after decide_event
first-written m k s es e =
    let m' = decided m (decide m s) in
    rw (e, add-one) (append_assoc (outcome_line k (decide m s).told) (outcome_lines (suc k) (outcomes m' es)) _)

-- one that stops is the last
last_written : (m : Model) (k n : ℕ) (s : List ℕ) → decide m s ≡ single (refused n) → stops? (refused n) ≡ true → written m k (reading s ∷ []) ≡ stopped_line n k
unfolding outcome_lines outcomes any after decide_event outcome_line single
last_written m k n s is e = rw (is, e) (append-nil _ ∙ append-nil _)

module _ (m : Model) (k : ℕ) where
  -- a whole record
  rest-whole : (s : List ℕ) → eqb (record_length s) 0 ≡ false
      → rest_of_report m k s ≡ outcome_line k (decide m s).told ++ rest_of_report (decided m (decide m s)) (k + 1) (drop (record_length s) s)
  unfolding rest_of_report readings record_length
  rest-whole [] e = clash refl e
  rest-whole (x ∷ r) e =
      let s = x ∷ r in
      let left = drop (record_length s) s in
      ap (λ (b : Bool). written m k (reading s ∷ cond b [] (readings (length r) left))) e
      ∙ ap (λ (es : List Event). written m k (reading s ∷ es)) (readings-bound (length r) (length left) left (omega (arith, left_shorter s e)) (omega arith))
      ∙ first-written m k s (readings (length left) left) (whole_goes_on m s e)

  -- a whole record in a piece s, with any bytes t behind the piece
  pub rest_goes_on : (s t : List ℕ) → eqb (record_length s) 0 ≡ false
      → rest_of_report m k (s ++ t) ≡ outcome_line k (decide m s).told ++ rest_of_report (decided m (decide m s)) (k + 1) (drop (record_length s) s ++ t)
  rest_goes_on s t e =
      let f = whole-front s t e in
      rw (← f.behind, ← f.decided m) (rest-whole (s ++ t) (ap (λ (n : ℕ). eqb n 0) f.size ∙ e))

  -- a record that is unknown or cut ends the report
  pub rest-stops : (n : ℕ) (s : List ℕ) → decide m s ≡ single (refused n) → record_length s ≡ 0 → stops? (refused n) ≡ true → rest_of_report m k s ≡ stopped_line n k
  unfolding rest_of_report readings record_length decide decide_record decode single
  rest-stops n [] is none e = let z : ◌≡◌ {A = ℕ} 0 1 = cc (ap (λ (d : Decision). d.told) is) in absurd (omega arith)
  rest-stops n (x ∷ r) is none e =
      ap (λ (size : ℕ). written m k (reading (x ∷ r) ∷ cond (eqb size 0) [] (readings (length r) (drop size (x ∷ r))))) none
      ∙ last_written m k n (x ∷ r) is e

  -- where nothing is left, the summary
  pub rest-ends : rest_of_report m k [] ≡ summary m
  unfolding rest_of_report readings outcome_lines outcomes any after
  rest-ends = refl
