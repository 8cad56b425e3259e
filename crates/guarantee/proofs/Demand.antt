-- Demand 3, proved: the witness after a run holds the model after the run, and every call answers by it.
use Prim.Native.Nat.{ℕ, ◌*◌, ◌≤◌}
use native.Mathlib.Omega.{arith}
use mathlib.Core.Path.{◌≡◌, refl, sym, ap, ap₂, ◌∙◌, subst}
use mathlib.Core.List.{List, [], ◌∷◌}
use lib.ListN.{length, drop, length-drop}
use Rattle.model.specs.Answer.{Answer}
use Rattle.model.specs.Buffer.{write_text, buffer_after}
use Rattle.model.specs.Bytes.{AreBytes}
use Rattle.model.specs.Change.{Decision, decided}
use Rattle.model.specs.Checker.{check}
use Rattle.model.specs.Decide.{decide}
use Rattle.model.specs.Evidence.{our_list}
use Rattle.model.specs.Lists.{All, none, each}
use Rattle.model.specs.Model.{Model, start, quota}
use Rattle.model.specs.Paper.{paper}
use Rattle.model.specs.Rule.{Rule, standard, quota_of}
use Rattle.model.specs.Run.{Event, reading, OfBytes, decide_event, after, outcomes}
use Rattle.model.specs.WellFormed.{WellFormed}
use Rattle.model.proofs.Best.{best_exact}
use Rattle.model.proofs.Bytes.{drop-bytes}
use Rattle.model.proofs.Checker.{checker_exact, list-exact, our_list_passes}
use Rattle.model.proofs.Conduct.{conduct-exact}
use Rattle.model.proofs.Finality.{status-exact, root_answer, conflict-exact}
use Rattle.model.proofs.Paper.{paper-exact}
use Rattle.model.proofs.Readings.{readings-bound, readings-bytes}
use Rattle.model.proofs.Standard.{standard-kept}
use Rattle.moves.proofs.Allowed.{move_exact}
use Rattle.safety.proofs.Safety.{accountable_safety, no_innocent_named}
use Rattle.state.specs.Sound.{Sound}
use Rattle.state.specs.State.{empty_witness, model_of, stored}
use Rattle.state.specs.declared.Witness.{Witness}
use Rattle.state.proofs.Kept.{event-kept, event-sound}
use Rattle.state.proofs.Sound.{sound_true, true_sound}
use Rattle.state.proofs.Started.{empty_model, empty_sound, header-name}
use Rattle.sound.specs.Held.{on_sound}
use Rattle.sound.proofs.Guarded.{on-sound}
use Rattle.witness.specs.Calls.{event_call}
use Rattle.witness.proofs.Guarded.{sound-event}
use Rattle.answers.specs.Calls.{status_call, support_call, conflict_call, write_call, write_buffer, check_call}
use Rattle.guarantee.specs.Demand2.{ByTheRules, Demand2}
use Rattle.guarantee.specs.Demand3.{witness_after, told_of, Guarantee, Demand3}
use Rattle.guarantee.specs.LogRead.{records_of, replayed, LogIsRun, LogIsWhole}

-- where the witness holds the model, and goes on holding it
pub record Holds (w : Witness) (b : Model) : Type 0 where
  pub model : model_of w ≡ b
  pub sound : Sound w

module _ (w : Witness) (b : Model) (h : Holds w b) where
  -- a call's answer is the rules' answer on the model
  pub answered : {A : Type 0} (answers : Model → Answer A) → on_sound w answers ≡ answers b
  answered answers = on-sound w answers (true_sound w h.sound) ∙ ap answers h.model

  good : WellFormed b
  good = subst (λ (m : Model). WellFormed m) h.model h.sound.good

  -- what the call decides is what the model decides
  pub decided-is : (e : Event) → event_call w e ≡ decide_event b e
  decided-is e = sound-event w e (true_sound w h.sound) ∙ ap (λ (m : Model). decide_event m e) h.model

pub holds : (w : Witness) → Sound w → Holds w (model_of w)
holds w sound = record { model = refl; sound = sound }

-- reading a record by the call is reading it by the model
pub decided-here : (w : Witness) → Sound w → (s : List ℕ) → event_call w (reading s) ≡ decide (model_of w) s
unfolding decide_event
decided-here w sound s = decided-is w (model_of w) (holds w sound) (reading s)

pub step-holds : (w : Witness) (b : Model) → Holds w b → (e : Event) → OfBytes e → Holds (stored w (event_call w e)) (decided b (decide_event b e))
step-holds w b h e bytes =
    let same = sym (sound-event w e (true_sound w h.sound)) in
    record {
      model =
          ap (λ (d : Decision). model_of (stored w d)) (sym same)
          ∙ (event-kept w h.sound e bytes).model
          ∙ ap (λ (m : Model). decided m (decide_event m e)) h.model;
      sound = subst (λ (d : Decision). Sound (stored w d)) same (event-sound w h.sound e bytes);
    }

pub run_holds : (w : Witness) (b : Model) → Holds w b → (es : List Event) → All OfBytes es → Holds (witness_after w es) (after b es)
unfolding witness_after after
run_holds w b h [] none = h
run_holds w b h (e ∷ es) (each bytes rest) = run_holds (stored w (event_call w e)) (decided b (decide_event b e)) (step-holds w b h e bytes) es rest

pub run-told : (w : Witness) (b : Model) → Holds w b → (es : List Event) → All OfBytes es → told_of w es ≡ outcomes b es
unfolding told_of outcomes
run-told w b h [] none = refl
run-told w b h (e ∷ es) (each bytes rest) =
    ap₂ ◌∷◌ (ap (λ (d : Decision). d.told) (decided-is w b h e))
    (run-told (stored w (event_call w e)) (decided b (decide_event b e)) (step-holds w b h e bytes) es rest)

pub start-holds : (name : List ℕ) → length name ≡ 32 → Holds (empty_witness name) (start name)
start-holds name long = record { model = empty_model name long; sound = empty_sound name long }

-- ---- each call

module _ (w : Witness) (b : Model) (h : Holds w b) where
  pub buffer-is : (text : Model → List ℕ) (buffer : List ℕ) → write_buffer text w buffer ≡ buffer_after (text b) buffer (write_text (text b) buffer)
  unfolding write_buffer write_call
  buffer-is text buffer =
      ap₂ (λ (m : Model) (a : Answer ℕ). buffer_after (text m) buffer a) h.model (answered w b h (λ m. write_text (text m) buffer))

  by_the_rules : ByTheRules w b
  unfolding status_call support_call conflict_call write_call check_call
  by_the_rules = record {
    held = h.model;
    permitted = (good w b h).rule;
    status-answer = λ p. answered w b h _;
    status-exact = status-exact b (good w b h);
    root-final = answered w b h _ ∙ root_answer b (good w b h);
    support-answer = λ s t. answered w b h _;
    conflict-answer = answered w b h _;
    conflict-exact = conflict-exact b (good w b h);
    list-answer = λ buffer. answered w b h _;
    list_written = buffer-is our_list;
    list-exact = list-exact b (good w b h);
    paper-answer = λ buffer. answered w b h _;
    paper-written = buffer-is paper;
    paper-exact = paper-exact b (good w b h);
    best_exact = best_exact b (good w b h);
    checker_answer = λ l. answered w b h (λ m. check m l);
    checker_exact = λ l. checker_exact b l;
    conduct-exact = λ id. conduct-exact b id;
    named-exact = our_list_passes b (good w b h);
    move_exact = move_exact b (good w b h);
    none_innocent = λ l s bytes passes. no_innocent_named b l s bytes (sym (answered w b h (λ m. check m l)) ∙ passes);
  }

pub demand_2 : Demand2
demand_2 w typed sound = by_the_rules w (model_of w) (record { model = refl; sound = sound_true w typed sound })

-- 2 of 3 parts are two thirds
standard-most : (b : Model) → b.rule ≡ standard → 2 * (quota b).q ≤ 3 * (quota b).p
unfolding quota_of
standard-most b e = subst (λ (r : Rule). 2 * (quota_of r).q ≤ 3 * (quota_of r).p) (sym e) (omega arith)

pub demand_3 : Demand3
demand_3 name long es bytes =
    let h = run_holds (empty_witness name) (start name) (start-holds name long) es bytes in
    record {
      outcomes-agree = run-told (empty_witness name) (start name) (start-holds name long) es bytes;
      answers = by_the_rules (witness_after (empty_witness name) es) (after (start name) es) h;
      share = accountable_safety name es bytes;
      standard-rule = standard-kept name es;
      standard-third = λ none-given finals.
          (accountable_safety name es bytes finals).third
          (standard-most (after (start name) es) (standard-kept name es none-given));
    }

pub records-bytes : (limit : ℕ) (log : List ℕ) → AreBytes log → All OfBytes (records_of limit log)
records-bytes limit log bytes = readings-bytes limit (drop 37 log) (drop-bytes 37 log bytes)

pub log_is_run : LogIsRun
unfolding replayed
log_is_run w log bytes limit name e =
    let es = records_of limit log in
    let es-bytes = records-bytes limit log bytes in (
      es-bytes,
      subst (λ h. Guarantee name es (replayed w log limit h).witness (after (start name) es)) (sym e) (demand_3 name (header-name log name e) es es-bytes),
    )

pub log_is_whole : LogIsWhole
log_is_whole log limit long =
    readings-bound limit (length log) (drop 37 log) (omega (arith, length-drop 37 log)) (omega (arith, length-drop 37 log))
