-- Runs put together, and the first records of some bytes: the same whatever bytes come behind them.
use Prim.Native.Nat.{ℕ, zero, suc, ◌+◌}
use native.Mathlib.Omega.{arith}
use mathlib.Core.Path.{◌≡◌, refl, sym, ap, ◌∙◌, subst}
use mathlib.Core.List.{List, [], ◌∷◌, ◌++◌}
use borrow.Author.Tests.{ne_eqb}
use lib.ListN.{drop}
use Rattle.model.specs.Answer.{Answer, refused, answer}
use Rattle.model.specs.Bytes.{AreBytes}
use Rattle.model.specs.Change.{Decision}
use Rattle.model.specs.Decide.{decide}
use Rattle.model.specs.Lists.{All, none, each}
use Rattle.model.specs.Log.{record_length}
use Rattle.model.specs.Model.{Model, start}
use Rattle.model.specs.Run.{Event, reading, OfBytes, decide_event, after}
use Rattle.state.specs.State.{empty_witness, model_of, stored}
use Rattle.state.specs.declared.Witness.{Witness}
use Rattle.reader.specs.Many.{behind}
use Rattle.model.proofs.Bytes.{drop-bytes}
use Rattle.state.specs.Sound.{Sound}
use Rattle.state.proofs.Sound.{true_sound}
use Rattle.sound.specs.Held.{held}
use Rattle.witness.specs.Calls.{decide_on, event_call}
use Rattle.pieces.proofs.Prefix.{SameFront, whole-front}
use Rattle.guarantee.specs.CallsAreRuns.{first_records, behind_records, Whole, no_record, one_record, RunGoesOn}
use Rattle.guarantee.specs.Demand3.{witness_after, Guarantee}
use Rattle.guarantee.proofs.Demand.{run_holds, run-told, start-holds, demand_3, holds, decided-here}

pub after_both : (w : Witness) (es fs : List Event) → witness_after w (es ++ fs) ≡ witness_after (witness_after w es) fs
unfolding witness_after
after_both w [] fs = refl
after_both w (e ∷ es) fs = after_both (stored w (event_call w e)) es fs

all_both : {es fs : List Event} → All OfBytes es → All OfBytes fs → All OfBytes (es ++ fs)
all_both none ys = ys
all_both (each x xs) ys = each x (all_both xs ys)

-- ---- the first records of some bytes

pub first-bytes : (k : ℕ) (s : List ℕ) → AreBytes s → All OfBytes (first_records k s)
unfolding first_records
first-bytes zero s bytes = none
first-bytes (suc k) s bytes = each bytes (first-bytes k (drop (record_length s) s) (drop-bytes (record_length s) s bytes))

-- ---- runs

-- a run leaves a sound witness
pub run_sound : (w : Witness) → Sound w → (es : List Event) → All OfBytes es → Sound (witness_after w es)
run_sound w sound es bytes = (run_holds w (model_of w) (holds w sound) es bytes).sound

pub run_goes_on : RunGoesOn
run_goes_on name long before es old new =
    let h = run_holds (empty_witness name) (start name) (start-holds name long) before old in
    let w = witness_after (empty_witness name) before in
    record {
      typed = h.sound.typed;
      sound = true_sound w h.sound;
      outcomes-agree = run-told w (after (start name) before) h es new;
      guarantee =
          subst (λ (v : Witness). Guarantee name (before ++ es) v (after (start name) (before ++ es))) (after_both (empty_witness name) before es)
          (demand_3 name long (before ++ es) (all_both old new));
    }

-- a record that is passed, and those behind it
pub passed_first : (w : Witness) → Sound w → (s : List ℕ) (es : List Event) → witness_after (stored w (decide (model_of w) s)) es ≡ witness_after w (reading s ∷ es)
unfolding witness_after
passed_first w sound s es = ap (λ (d : Decision). witness_after (stored w d) es) (sym (decided-here w sound s))

-- ---- bytes behind them

-- the first records are the same, whatever bytes t come behind them
module _ (t : List ℕ) where
  pub whole_same : {k : ℕ} {s : List ℕ} → Whole k s → Whole k (s ++ t)
  whole_same no_record = no_record
  whole_same {s = s} (one_record {k} some later) =
      let f = whole-front s t (ne_eqb (record_length s) 0 some) in
      one_record (λ e. some (sym f.size ∙ e)) (subst (Whole k) (sym f.behind) (whole_same later))

  pub behind-same : {k : ℕ} {s : List ℕ} → Whole k s → behind_records k (s ++ t) ≡ behind_records k s ++ t
  unfolding behind_records
  behind-same no_record = refl
  behind-same {s = s} (one_record {k} some later) =
      let f = whole-front s t (ne_eqb (record_length s) 0 some) in
      ap (behind_records k) f.behind ∙ behind-same later

  pub after_same : {k : ℕ} {s : List ℕ} (w : Witness) → Whole k s → witness_after w (first_records k s) ≡ witness_after w (first_records k (s ++ t))
  unfolding first_records witness_after decide_on decide_event
  after_same w no_record = refl
  after_same {s = s} w (one_record {k} some later) =
      let f = whole-front s t (ne_eqb (record_length s) 0 some) in
      after_same (stored w (event_call w (reading s))) later
      ∙ ap (λ (l : List ℕ). witness_after (stored w (event_call w (reading s))) (first_records k l)) (sym f.behind)
      ∙ ap (λ (d : Decision). witness_after (stored w d) (first_records k (drop (record_length (s ++ t)) (s ++ t)))) (same-decided w s f)
    where
      same-decided : (w : Witness) (s : List ℕ) → SameFront s t → event_call w (reading s) ≡ event_call w (reading (s ++ t))
      same-decided w s f = on (held w)
        where
          on : (h : Answer Model) → decide_on h (reading s) ≡ decide_on h (reading (s ++ t))
          on (refused n) = refl
          on (answer m) = sym (f.decided m)

-- k records, and then j
none_more : (j : ℕ) → j ≡ 0 + j
none_more j = omega arith

one_more : (k j : ℕ) → suc (k + j) ≡ suc k + j
one_more k j = omega arith

pub whole-both : (k j : ℕ) {s : List ℕ} → Whole k s → Whole j (behind_records k s) → Whole (k + j) s
unfolding behind_records
whole-both zero j {s} no_record later = subst (λ (n : ℕ). Whole n s) (none_more j) later
whole-both (suc k) j {s} (one_record some more) later = subst (λ (n : ℕ). Whole n s) (one_more k j) (one_record some (whole-both k j more later))

pub behind-both : (k j : ℕ) (s : List ℕ) → behind_records j (behind_records k s) ≡ behind_records (k + j) s
unfolding behind_records
behind-both zero j s = ap (λ (n : ℕ). behind_records n s) (none_more j)
behind-both (suc k) j s = behind-both k j (drop (record_length s) s) ∙ ap (λ (n : ℕ). behind_records n s) (one_more k j)

pub first-both : (k j : ℕ) (s : List ℕ) → first_records k s ++ first_records j (behind_records k s) ≡ first_records (k + j) s
unfolding first_records behind_records
first-both zero j s = ap (λ (n : ℕ). first_records n s) (none_more j)
first-both (suc k) j s = ap (◌∷◌ (reading s)) (first-both k j (drop (record_length s) s)) ∙ ap (λ (n : ℕ). first_records n s) (one_more k j)
