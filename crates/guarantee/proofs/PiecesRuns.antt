-- A log fed in pieces is a run over the records passed so far.
use Prim.Native.Nat.{ℕ, zero, suc, ◌≤◌}
use native.Mathlib.Omega.{arith}
use mathlib.Core.Path.{◌≡◌, refl, sym, ap, ap₂, ◌∙◌, subst}
use mathlib.Core.List.{List, [], ◌∷◌, ◌++◌, append_assoc, append-nil, flat_map}
use mathlib.Core.Logic.{inl}
use mathlib.Core.Bool.{Bool, cond}
use borrow.Author.Tests.{eq-eqb, ne_eqb}
use lib.ListN.{length, drop, length-drop}
use lib.Seq.{drop-append-le}
use Rattle.model.specs.Answer.{Answer, answer}
use Rattle.model.specs.Bytes.{AreBytes}
use Rattle.model.specs.Change.{Decision}
use Rattle.model.specs.Log.{header, record_length}
use Rattle.model.specs.Model.{start}
use Rattle.model.specs.Run.{reading, after, readings}
use Rattle.model.proofs.Bytes.{drop-bytes}
use Rattle.state.specs.State.{empty_witness, model_of, stored}
use Rattle.state.specs.declared.Witness.{Witness}
use Rattle.state.proofs.Started.{empty_sound, header-name}
use Rattle.state.specs.Sound.{Sound}
use Rattle.state.proofs.Kept.{reading-sound}
use Rattle.state.proofs.Sound.{true_sound}
use Rattle.reader.proofs.Made.{stays}
use Rattle.witness.specs.Calls.{event_call}
use Rattle.feeding.specs.Feed.{Feeding, headed, open_call, feed_call}
use Rattle.pieces.specs.Pieces.{Piece}
use Rattle.pieces.proofs.Prefix.{left_shorter}
use Rattle.pieces.proofs.Pieces.{bytes-before, bytes-behind, bytes-both, opened-is}
use Rattle.guarantee.specs.CallsAreRuns.{first_records, behind_records, Whole, no_record, one_record, Stand, stand_after, feeds, PiecesAreRun}
use Rattle.guarantee.specs.Demand3.{witness_after, Guarantee}
use Rattle.guarantee.specs.LogRead.{replayed}
use Rattle.guarantee.proofs.Demand.{demand_3, decided-here}
use Rattle.guarantee.proofs.FirstRecords.{after_both, first-bytes, run_sound, whole_same, behind-same, after_same, whole-both, behind-both, first-both}
use Rattle.guarantee.proofs.FedRuns.{feed_is_run}

abbrev all : List Piece → List ℕ
all ps = flat_map (λ p. p.bytes) ps

-- where the calls stand, the pieces `later` being still to come: `body` is the log behind its header
module _ (name : List ℕ) (body : List ℕ) where
  record Stands (t : Stand) (later : List ℕ) : Type 0 where
    sound : Sound t.witness
    bytes : AreBytes t.left
    whole : Whole t.records body
    left : t.left ++ later ≡ behind_records t.records body
    witness : t.witness ≡ witness_after (empty_witness name) (first_records t.records body)

  one-call : (t : Stand) (p : Piece) (later : List ℕ) → AreBytes p.bytes → Stands t (p.bytes ++ later)
      → let s = t.left ++ p.bytes in Stands (stand_after s (feed_call p.room t.witness t.records s)) later
  one-call t p later p-bytes so =
      let s = t.left ++ p.bytes in
      let f = feed_call p.room t.witness t.records s in
      let s-bytes = bytes-both t.left p.bytes so.bytes p-bytes in
      let run = feed_is_run t.witness so.sound.typed (true_sound t.witness so.sound) p.room t.records s s-bytes in
      let k = t.records in
      let j = run.number in
      let here : s ++ later ≡ behind_records k body = append_assoc t.left p.bytes later ∙ so.left in
      record {
        sound = subst Sound (sym run.witness) (run_sound t.witness so.sound (first_records j s) (first-bytes j s s-bytes));
        bytes = drop-bytes f.passed s s-bytes;
        whole = subst (λ (n : ℕ). Whole n body) (sym run.records) (whole-both k j so.whole (subst (Whole j) here (whole_same later run.whole)));
        left =
            ap (λ (l : List ℕ). l ++ later) run.left
            ∙ sym (behind-same later run.whole)
            ∙ ap (behind_records j) here
            ∙ behind-both k j body
            ∙ ap (λ (n : ℕ). behind_records n body) (sym run.records);
        witness =
            run.witness
            ∙ after_same later t.witness run.whole
            ∙ ap₂ (λ (w : Witness) (l : List ℕ). witness_after w (first_records j l)) so.witness here
            ∙ sym (after_both (empty_witness name) (first_records k body) (first_records j (behind_records k body)))
            ∙ ap (witness_after (empty_witness name)) (first-both k j body ∙ ap (λ (n : ℕ). first_records n body) (sym run.records));
      }

  all-calls : (t : Stand) (ps : List Piece) → AreBytes (all ps) → Stands t (all ps) → Stands (feeds t ps) []
  unfolding feeds flat_map
  all-calls t [] bytes so = so
  all-calls t (p ∷ ps) bytes so =
      let s = t.left ++ p.bytes in
      all-calls (stand_after s (feed_call p.room t.witness t.records s)) ps (bytes-behind p.bytes (all ps) bytes)
      (one-call t p (all ps) (bytes-before p.bytes (all ps) bytes) so)

-- a record that cannot be passed changes nothing
last-reading : (w : Witness) → Sound w → (n : ℕ) (s : List ℕ) → record_length s ≡ 0 → w ≡ witness_after w (readings n s)
unfolding witness_after readings
last-reading w sound zero s none = refl
last-reading w sound (suc n) [] none = refl
last-reading w sound (suc n) (kind ∷ r) none =
    let s = kind ∷ r in
    sym (stays w (model_of w) s none)
    ∙ ap (stored w) (sym (decided-here w sound s))
    ∙ ap (λ (b : Bool). witness_after w (reading s ∷ cond b [] (readings n (drop (record_length s) s)))) (sym (eq-eqb (record_length s) 0 none))

-- where no more can be passed behind the first records, they leave what all readings leave
all-readings : (w : Witness) → Sound w → (n : ℕ) (s : List ℕ) → AreBytes s → length s ≤ n → {k : ℕ} → Whole k s → record_length (behind_records k s) ≡ 0
    → witness_after w (first_records k s) ≡ witness_after w (readings n s)
unfolding first_records behind_records witness_after readings record_length
all-readings w sound n s bytes few no_record none = last-reading w sound n s none
all-readings w sound n [] bytes few (one_record some later) none = absurd (some refl)
all-readings w sound zero (kind ∷ r) bytes few (one_record some later) none = absurd (omega arith)
all-readings w sound (suc n) (kind ∷ r) bytes few (one_record some later) none =
    let s = kind ∷ r in
    let size = record_length s in
    let more = ne_eqb size 0 some in
    let left-sound = subst (λ (d : Decision). Sound (stored w d)) (sym (decided-here w sound s)) (reading-sound w sound s bytes) in
    all-readings (stored w (event_call w (reading s))) left-sound n (drop size s) (drop-bytes size s bytes) (omega (arith, left_shorter s more)) later none
    ∙ ap (λ (b : Bool). witness_after w (reading s ∷ cond b [] (readings n (drop size s)))) (sym more)

pub pieces_are_run : PiecesAreRun
unfolding headed behind_records witness_after first_records replayed
pieces_are_run log bytes name right w last first ps is long room =
    let later = all ps in
    let long-name = header-name log name right in
    let opened = opened-is last first.bytes later first.room w (inl long) room ∙ ap (headed w) (ap header (sym is) ∙ right) in
    let cut : AreBytes (first.bytes ++ later) = subst AreBytes is bytes in
    let body = drop 37 log in
    let begun = stand_after first.bytes (headed w (answer name)) in
    let at-start : Stands name body begun later =
    record {
      sound = empty_sound name long-name;
      bytes = drop-bytes 37 first.bytes (bytes-before first.bytes later cut);
      whole = no_record;
      left = sym (drop-append-le 37 first.bytes later long) ∙ ap (drop 37) (sym is);
      witness = refl;
    }
    in
    let t = feeds (stand_after first.bytes (open_call last first.room w first.bytes)) ps in
    let so = all-calls name body _ ps (bytes-behind first.bytes later cut) (subst (λ (f : Feeding). Stands name body (stand_after first.bytes f) later) (sym opened) at-start) in
    let es = first_records t.records body in
    record {
      whole = so.whole;
      left = sym (append-nil t.left) ∙ so.left;
      guarantee =
          subst (λ (v : Witness). Guarantee name es v (after (start name) es)) (sym so.witness)
          (demand_3 name long-name es (first-bytes t.records body (drop-bytes 37 log bytes)));
      whole-log = λ none v.
          so.witness
          ∙ all-readings (empty_witness name) (empty_sound name long-name) (length log) body (drop-bytes 37 log bytes) (omega (arith, length-drop 37 log)) so.whole
          (ap record_length (sym so.left ∙ append-nil t.left) ∙ none)
          ∙ ap (λ (h : Answer (List ℕ)). (replayed v log (length log) h).witness) (sym right);
    }
