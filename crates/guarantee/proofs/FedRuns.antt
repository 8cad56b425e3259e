-- `feed` is a run over the records that it passed; which calls leave the witness handed in.
use Prim.Native.Nat.{ℕ, suc, ◌+◌, ◌-◌}
use native.Mathlib.Omega.{arith}
use mathlib.Core.Path.{◌≡◌, refl, sym, ap, ◌∙◌, subst}
use mathlib.Core.List.{List, [], ◌∷◌, ◌++◌, append_assoc}
use mathlib.Core.Logic.{◌⊎◌, inl, inr}
use mathlib.Core.Bool.{Bool, true, false, cond, not, ◌&&◌, ◌||◌}
use borrow.Author.Tests.{eqb-true, eqb-false, ltb-true}
use lib.Dec.{eqb, ltb}
use lib.ListN.{length, drop, length-drop, length-append}
use lib.Seq.{drop-drop}
use Rattle.model.specs.Answer.{Answer, refused, answer}
use Rattle.model.specs.Bytes.{AreBytes}
use Rattle.model.specs.Change.{Decision, single, decided}
use Rattle.model.specs.Decide.{decide, decide_record}
use Rattle.model.specs.Log.{header, record_length, decode}
use Rattle.model.specs.Model.{Model}
use Rattle.model.specs.Report.{outcome_line, outcome_lines}
use Rattle.model.specs.Run.{Event, reading, decide_event, outcomes}
use Rattle.model.proofs.Refused.{Keeps, single-keeps, refused-keeps as event-keeps}
use Rattle.model.specs.declared.Refusal.TheVariants.{UnsoundState}
use Rattle.state.specs.State.{model_of, store_all, stored}
use Rattle.state.specs.declared.Witness.{Witness}
use Rattle.state.proofs.Kept.{reading-kept}
use Rattle.reader.specs.Many.{ended_by, none_passed}
use Rattle.reader.proofs.Made.{length-inside}
use Rattle.state.specs.Sound.{Sound, sound?}
use Rattle.state.proofs.Sound.{sound_true}
use Rattle.sound.specs.Held.{held}
use Rattle.witness.specs.Calls.{decide_on, event_call}
use Rattle.witness.specs.Readings.{many_call}
use Rattle.answers.specs.Calls.{write_call, write_buffer}
use Rattle.answers.proofs.Placed.{write_40}
use Rattle.feeding.specs.Feed.{Paused, wants, full, out_of_numbers, ended, refused_by, Feeding, paused_at, ahead, line_room, record_room, last_number, spent, halted, headed, open_call, feed_call, end_fed, end_call, end_text}
use Rattle.feeding.specs.Feed as Feed
use Rattle.pieces.proofs.ByRecord.{call_elim, Halts, nothing_left, unknown, cut, halts, unknown-decided, cut-decided}
use Rattle.guarantee.specs.CallsAreRuns.{first_records, behind_records, no_record, one_record, stop_line, Cause, FedRun, FeedIsRun, CallsKeep}
use Rattle.guarantee.specs.Demand3.{witness_after}
use Rattle.guarantee.proofs.Demand.{decided-here}
use Rattle.guarantee.proofs.FirstRecords.{passed_first}

-- no record is passed
module _ (room : ℕ) (w : Witness) (k : ℕ) (s : List ℕ) where
  none_passed_run : (why : Paused) → Cause why room (paused_at (stop_line why k) why w k) s → FedRun room w k s (paused_at (stop_line why k) why w k)
  unfolding first_records behind_records witness_after outcomes outcome_lines
  none_passed_run why cause =
      let none : k ≡ k + 0 = omega arith in
      record { number = 0; whole = no_record; records = none; witness = refl; inside = omega arith; left = refl; text = refl; cause = cause }

  spent-run : (ltb room record_room || eqb k last_number) ≡ true → FedRun room w k s (paused_at [] (spent room) w k)
  spent-run none = go (ltb room record_room) refl none
    where
      go : (no_room : Bool) → ltb room record_room ≡ no_room → (no_room || eqb k last_number) ≡ true → FedRun room w k s (paused_at [] (cond no_room full out_of_numbers) w k)
      go true e none = none_passed_run full (omega (arith, ltb-true room record_room e))
      go false e none = none_passed_run out_of_numbers (eqb-true k last_number none)

halted-run : (room : ℕ) (w : Witness) → Sound w → (k : ℕ) (s : List ℕ) → Halts s → FedRun room w k s (halted (decide (model_of w) s).told w k)
unfolding halted decide decide_record decode single
halted-run room w sound k [] nothing_left = none_passed_run room w k [] wants (inl refl)
halted-run room w sound k (kind ∷ r) (unknown e) =
    let is = (unknown-decided (model_of w) kind r e).is in
    subst (λ (d : Decision). FedRun room w k (kind ∷ r) (halted d.told w k)) (sym is) (none_passed_run room w k (kind ∷ r) ended (ap (λ (d : Decision). d.told) (decided-here w sound (kind ∷ r) ∙ is)))
halted-run room w sound k (kind ∷ r) (cut short) =
    let is = (cut-decided (model_of w) kind r short).is in
    subst (λ (d : Decision). FedRun room w k (kind ∷ r) (halted d.told w k)) (sym is) (none_passed_run room w k (kind ∷ r) wants (inr (ap (λ (d : Decision). d.told) (decided-here w sound (kind ∷ r) ∙ is))))

-- why a call paused stays so with a line in front of its text
ahead-cause : (room : ℕ) (why : Paused) (f : Feeding) (line : List ℕ) (size : ℕ) (rest rest' : List ℕ) → rest ≡ rest' → Cause why (room - length line) f rest → Cause why room (ahead line size f) rest'
ahead-cause room wants f line size rest rest' same c = subst (λ (l : List ℕ). (l ≡ []) ⊎ ((event_call f.witness (reading l)).told ≡ refused 5)) same c
ahead-cause room full f line size rest rest' same c = omega (arith, c, length-append line f.text)
ahead-cause room out_of_numbers f line size rest rest' same c = c
ahead-cause room ended f line size rest rest' same c = subst (λ (l : List ℕ). (event_call f.witness (reading l)).told ≡ refused 4) same c
ahead-cause room (refused_by n) f line size rest rest' same c = c

-- one is, and what the call comes to behind it
passed-run : (room : ℕ) (w : Witness) → Sound w → (k : ℕ) (s : List ℕ) → AreBytes s → eqb (record_length s) 0 ≡ false → (f : Feeding)
    → let d = decide (model_of w) s in
    let line = outcome_line k d.told in
    FedRun (room - length line) (stored w d) (k + 1) (drop (record_length s) s) f → FedRun room w k s (ahead line (record_length s) f)
unfolding first_records behind_records outcomes outcome_lines decide_event
passed-run room w sound k s bytes e f later =
    let d = decide (model_of w) s in
    let size = record_length s in
    let es = first_records later.number (drop size s) in
    let line = outcome_line k d.told in
    let past = drop-drop f.passed size s in
    let one : k + 1 ≡ suc k = omega arith in
    record {
      number = suc later.number;
      whole = one_record (eqb-false size 0 e) later.whole;
      records = omega (arith, later.records);
      witness = later.witness ∙ passed_first w sound s es;
      inside = omega (arith, later.inside, length-drop size s, length-inside s);
      left = sym past ∙ later.left;
      text =
          ap (λ (x : List ℕ). line ++ x) (later.text ∙ (λ i. outcome_lines (one i) (outcomes ((reading-kept w sound.typed s bytes).model i) es) ++ stop_line f.paused f.records))
          ∙ sym (append_assoc line (outcome_lines (suc k) (outcomes (decided (model_of w) d) es)) (stop_line f.paused f.records));
      cause = ahead-cause room f.paused f line size (drop f.passed (drop size s)) (drop (size + f.passed) s) past later.cause;
    }

pub feed_is_run : FeedIsRun
feed_is_run w typed is-sound room k s bytes =
    call_elim FedRun
    (λ space v sound n l none. spent-run space v n l none)
    (λ space v sound n l e. halted-run space v sound n l (halts l e))
    (λ space v sound n l are e f later. passed-run space v sound n l are e f later)
    room w (sound_true w typed is-sound) k s bytes

-- ---- calls that leave the witness handed in

module _ (w : Witness) where
  refused-keeps : (e : Event) (n : ℕ) → (event_call w e).told ≡ refused n → stored w (event_call w e) ≡ w
  unfolding store_all decide_on
  refused-keeps e n told = ap (store_all w) (kept (held w) n told)
    where
      kept : (h : Answer Model) → Keeps (decide_on h e)
      kept (refused k) = single-keeps (refused k)
      kept (answer m) = event-keeps m e

  close_keeps : (room k left : ℕ) → (end_call room w k left).witness ≡ w
  unfolding end_call end_fed Feed.on_sound
  close_keeps room k left = go (sound? w) (ltb room (length (end_text (model_of w) k left)))
    where
      go : (b short : Bool) → (cond b (cond short (paused_at [] full w k) (paused_at (end_text (model_of w) k left) ended w k)) (paused_at [] (refused_by 40) w k)).witness ≡ w
      go false short = refl
      go true true = refl
      go true false = refl

  open_keeps : (last : Bool) (room : ℕ) (log : List ℕ) (n : ℕ) → header log ≡ refused n → (open_call last room w log).witness ≡ w
  unfolding open_call headed
  open_keeps last room log n e = go (ltb (length log) 37 && not last) (ltb room line_room) (header log) e
    where
      go : (short no_room : Bool) (h : Answer (List ℕ)) → h ≡ refused n → (cond short (paused_at [] wants w 0) (cond no_room (paused_at [] full w 0) (headed w h))).witness ≡ w
      go true no_room h e = refl
      go false true h e = refl
      go false false (refused m) e = refl
      go false false (answer name) e = let z : ◌≡◌ {A = ℕ} 0 1 = cc in absurd (omega arith)

  feed_unsound : sound? w ≡ false → (room k : ℕ) (s : List ℕ) → feed_call room w k s ≡ paused_at [] (refused_by 40) w k
  unfolding feed_call Feed.on_sound
  feed_unsound e room k s = rw e

  many_unsound : sound? w ≡ false → (n room : ℕ) (log : List ℕ) (at : ℕ) → many_call n room w log at ≡ none_passed (ended_by (refused 40)) w at
  unfolding many_call
  many_unsound e n room log at = rw e

  write_unsound : sound? w ≡ false → (text : Model → List ℕ) (buffer : List ℕ)
      → (write_call text w buffer ≡ refused 40) × (write_buffer text w buffer ≡ buffer)
  write_unsound e text buffer = let so = write_40 w UnsoundState (refl, e) text buffer in (sym so.0, sym so.1)

pub calls-keep : CallsKeep
calls-keep w =
    record {
      refused-keeps = refused-keeps w;
      close_keeps = close_keeps w;
      open_keeps = open_keeps w;
      feed_unsound =
          feed_unsound w;
      many_unsound = many_unsound w;
      write_unsound = write_unsound w;
    }
