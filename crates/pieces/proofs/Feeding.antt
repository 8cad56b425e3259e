-- One call of `feed` on a sound witness: what it writes is the front of what is left of the report, whatever bytes come later.
use Prim.Native.Nat.{ℕ, ◌+◌, ◌-◌}
use native.Mathlib.Omega.{arith}
use mathlib.Core.Path.{◌≡◌, refl, sym, ap, ◌∙◌, subst}
use mathlib.Core.List.{List, [], ◌∷◌, ◌++◌, append_assoc, append-nil}
use mathlib.Core.Bool.{Bool, true, false, cond}
use borrow.Author.Tests.{ne_eqb}
use lib.Dec.{eqb, ltb}
use lib.ListN.{length, drop}
use lib.Seq.{drop-drop}
use Rattle.model.specs.Answer.{refused}
use Rattle.model.specs.Bytes.{AreBytes}
use Rattle.model.specs.Change.{Decision, single}
use Rattle.model.specs.Decide.{decide, decide_record}
use Rattle.model.specs.Log.{record_length, decode}
use Rattle.model.specs.Model.{Model}
use Rattle.model.specs.Report.{stops?, outcome_line}
use Rattle.state.specs.State.{model_of, stored}
use Rattle.state.specs.declared.Witness.{Witness}
use Rattle.state.proofs.Kept.{reading-kept}
use Rattle.state.specs.Sound.{Sound}
use Rattle.feeding.specs.Feed.{wants, full, out_of_numbers, Feeding, paused_at, ahead, record_room, spent, halted, feed_call, end_text}
use Rattle.pieces.specs.Pieces.{onward}
use Rattle.pieces.proofs.ByRecord.{call_elim, Halts, nothing_left, unknown, cut, halts, Decided, unknown-decided, cut-decided}
use Rattle.pieces.proofs.RestOfReport.{rest_of_report, rest_goes_on, rest-stops, rest-ends}

-- if the log ended here, its end would be the rest of the report
abbrev pub Waits : Witness → ℕ → List ℕ → Type 0
Waits w k s = rest_of_report (model_of w) k s ≡ end_text (model_of w) k (length s)

-- What a call comes to, on the bytes s from record k on: the witness stays sound; the text, and what is written after it, is the
-- rest of the report, whatever bytes t come later; and a call that wants more may as well be the last.
pub record FedOf (w : Witness) (k : ℕ) (s : List ℕ) (f : Feeding) : Type 0 where
  pub sound : Sound f.witness
  pub goes_on : (t : List ℕ) → rest_of_report (model_of w) k (s ++ t) ≡ f.text ++ onward f.paused [] (rest_of_report (model_of f.witness) f.records (drop f.passed s ++ t))
  pub waits : f.paused ≡ wants → Waits f.witness f.records (drop f.passed s)

-- ---- where no record can be passed

module _ (w : Witness) (sound : Sound w) (k : ℕ) where
  -- it wants more, and has written nothing
  waiting : (s : List ℕ) → Waits w k s → FedOf w k s (paused_at [] wants w k)
  unfolding onward
  waiting s h = record { sound = sound; goes_on = λ t. refl; waits = λ e. h }

  -- an unknown kind ends the report, and more may follow the others
  halted-fed : (s : List ℕ) → Halts s → FedOf w k s (halted (decide (model_of w) s).told w k)
  unfolding halted onward end_text stops? decide decide_record decode single
  halted-fed [] nothing_left = waiting [] (rest-ends (model_of w) k)
  halted-fed (kind ∷ r) (unknown e) =
      let m = model_of w in
      let is : (l : List ℕ) → Decided m (kind ∷ l) (single (refused 4)) = λ l. unknown-decided m kind l e in
      subst (λ (d : Decision). FedOf w k (kind ∷ r) (halted d.told w k)) (sym (is r).is)
      (record {
        sound = sound;
        goes_on = λ t. rest-stops m k 4 (kind ∷ (r ++ t)) (is (r ++ t)).is (is (r ++ t)).none refl ∙ sym (append-nil _);
        waits = λ p. let z : ◌≡◌ {A = ℕ} 0 1 = cc in absurd (omega arith);
      })
  halted-fed (kind ∷ r) (cut short) =
      let m = model_of w in
      let is = cut-decided m kind r short in
      subst (λ (d : Decision). FedOf w k (kind ∷ r) (halted d.told w k)) (sym is.is)
      (waiting (kind ∷ r) (rest-stops m k 5 (kind ∷ r) is.is is.none refl ∙ rw (ne_eqb (length (kind ∷ r)) 0 (λ p. omega (arith, p)))))

  -- no room for the lines of a record, or no number for it
  spent-fed : (s : List ℕ) (room : ℕ) → FedOf w k s (paused_at [] (spent room) w k)
  unfolding onward
  spent-fed s room = go (ltb room record_room)
    where
      go : (no_room : Bool) → FedOf w k s (paused_at [] (cond no_room full out_of_numbers) w k)
      go true = record { sound = sound; goes_on = λ t. refl; waits = λ p. let z : ◌≡◌ {A = ℕ} 0 1 = cc in absurd (omega arith) }
      go false = record { sound = sound; goes_on = λ t. refl; waits = λ p. let z : ◌≡◌ {A = ℕ} 0 1 = cc in absurd (omega arith) }

  -- a record that is passed, and what the call comes to behind it
  passed-fed : (s : List ℕ) → AreBytes s → eqb (record_length s) 0 ≡ false → (f : Feeding) → FedOf (stored w (decide (model_of w) s)) (k + 1) (drop (record_length s) s) f
      → FedOf w k s (ahead (outcome_line k (decide (model_of w) s).told) (record_length s) f)
  passed-fed s bytes e f later =
      let line = outcome_line k (decide (model_of w) s).told in
      let left = drop (record_length s) s in
      let same : drop f.passed left ≡ drop (record_length s + f.passed) s = drop-drop f.passed (record_length s) s in
      record {
        sound = later.sound;
        goes_on = λ t.
            rest_goes_on (model_of w) k s t e
            ∙ ap (λ (m : Model). line ++ rest_of_report m (k + 1) (left ++ t)) (sym (reading-kept w sound.typed s bytes).model)
            ∙ ap (λ (x : List ℕ). line ++ x) (later.goes_on t)
            ∙ sym (append_assoc line f.text _)
            ∙ ap (λ (l : List ℕ). line ++ f.text ++ onward f.paused [] (rest_of_report (model_of f.witness) f.records (l ++ t))) same;
        waits = λ p. subst (Waits f.witness f.records) same (later.waits p);
      }

-- ---- record by record

-- a sound witness is not refused
pub fed-call : (room : ℕ) (w : Witness) → Sound w → (k : ℕ) (s : List ℕ) → AreBytes s → FedOf w k s (feed_call room w k s)
fed-call =
    call_elim (λ room. FedOf)
    (λ room w sound k s none. spent-fed w sound k s room)
    (λ room w sound k s e. halted-fed w sound k s (halts s e))
    (λ room w sound k s bytes e f later. passed-fed w sound k s bytes e f later)
