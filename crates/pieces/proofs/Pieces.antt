-- A log fed in pieces gives the report of the whole log.
use Prim.Native.Nat.{ℕ, zero, suc, ◌+◌, ◌-◌, ◌≤◌, ◌<◌}
use native.Mathlib.Omega.{arith}
use mathlib.Core.Path.{◌≡◌, refl, sym, ap, ap₂, ◌∙◌, subst}
use mathlib.Core.List.{List, [], ◌∷◌, ◌++◌, append_assoc, append-nil, flat_map}
use mathlib.Core.Logic.{◌⊎◌, ⊎_elim}
use mathlib.Core.Bool.{Bool, true, false, cond, not, ◌&&◌, ◌||◌}
use borrow.Author.Tests.{lt-ltb, le-ltb, ne_eqb, eqb-false}
use lib.Dec.{ltb, eqb}
use lib.ListN.{length, drop, length-append, get_or-append}
use lib.Seq.{get_or-append-add, drop-append-le}
use Rattle.model.specs.Answer.{Answer, refused, answer}
use Rattle.model.specs.Bytes.{AreBytes}
use Rattle.model.specs.Change.{Told, Decision}
use Rattle.model.specs.Decide.{decide}
use Rattle.model.specs.Log.{header, record_length}
use Rattle.model.specs.Model.{Model, start}
use Rattle.model.specs.Report.{report, report_body, report_run, stopped_line, outcome_line}
use Rattle.model.proofs.Bytes.{drop-bytes}
use Rattle.model.proofs.Lists.{clash}
use Rattle.state.specs.Sound.{Sound, sound?}
use Rattle.state.specs.State.{empty_witness, model_of, stored}
use Rattle.state.specs.declared.Witness.{Witness}
use Rattle.state.proofs.Sound.{true_sound}
use Rattle.state.proofs.Started.{empty_model, empty_sound, header-long, header-name}
use Rattle.feeding.specs.Feed.{Paused, wants, full, out_of_numbers, ended, refused_by, Feeding, paused_at, ahead, line_room, record_room, last_number, spent, halted, headed, on_sound, feed_from, open_call, feed_call, end_text, end_fed, end_call}
use Rattle.pieces.specs.Pieces.{Piece, onward, in_want?, fed_text, last_pause, end_pause, InPieces, OpenWaits, FeedGoesOn, CloseEnds}
use Rattle.pieces.proofs.Feeding.{Waits, fed-call}
use Rattle.pieces.proofs.RestOfReport.{rest_of_report}
use Rattle.pieces.proofs.Prefix.{header_in_piece}

-- ---- bytes put together

pub bytes-before : (s t : List ℕ) → AreBytes (s ++ t) → AreBytes s
bytes-before s t b i h = rw (← get_or-append s t 0 i h) (b i (omega (arith, length-append s t)))

pub bytes-behind : (s t : List ℕ) → AreBytes (s ++ t) → AreBytes t
bytes-behind s t b i h = rw (← get_or-append-add s t i 0) (b (length s + i) (omega (arith, length-append s t)))

pub bytes-both : (s t : List ℕ) → AreBytes s → AreBytes t → AreBytes (s ++ t)
bytes-both [] t b c i h = c i h
bytes-both (x ∷ s) t b c zero h = b 0 (omega arith)
bytes-both (x ∷ s) t b c (suc i) h = bytes-both s t (λ j l. b (suc j) (omega arith)) c i (omega arith)

-- ---- call by call

abbrev all : List Piece → List ℕ
all ps = flat_map (λ p. p.bytes) ps

module _ (room : ℕ) (w : Witness) (sound : sound? w ≡ true) (k n : ℕ) where
  close_is : (short : Bool) → ltb room (length (end_text (model_of w) k n)) ≡ short
      → end_call room w k n ≡ cond short (paused_at [] full w k) (paused_at (end_text (model_of w) k n) ended w k)
  unfolding end_call end_fed on_sound
  close_is short e = rw (sound, e)

  -- what `close` writes, where it has room
  close_text : in_want? (end_call room w k n).paused ≡ false → (end_call room w k n).text ≡ end_text (model_of w) k n
  unfolding in_want?
  close_text fits = go (ltb room (length (end_text (model_of w) k n))) refl
    where
      go : (short : Bool) → ltb room (length (end_text (model_of w) k n)) ≡ short → (end_call room w k n).text ≡ end_text (model_of w) k n
      go true e = clash (ap (λ (f : Feeding). in_want? f.paused) (close_is true e)) fits
      go false e = ap (λ (f : Feeding). f.text) (close_is false e)

module _ (room : ℕ) (w : Witness) (sound : Sound w) (k : ℕ) (s : List ℕ) where
  -- the last call of `feed` paused so
  last-fed : (why : Paused) → (why ≡ wants → Waits w k s) → in_want? (onward why why why) ≡ false → in_want? (onward why why (end_call room w k (length s)).paused) ≡ false
      → onward why [] (end_call room w k (length s)).text ≡ onward why [] (rest_of_report (model_of w) k s)
  unfolding onward in_want?
  last-fed wants waits fed closed = close_text room w (true_sound w sound) k (length s) closed ∙ sym (waits refl)
  last-fed full waits fed closed = clash refl fed
  last-fed out_of_numbers waits fed closed = clash refl fed
  last-fed ended waits fed closed = refl
  last-fed (refused_by n) waits fed closed = refl

-- a call paused so: the calls after it, if there are any, write y where they write x
onward-fed : (why last end : Paused) (x y : List ℕ) → (in_want? last ≡ false → in_want? end ≡ false → x ≡ y) → in_want? (onward why why last) ≡ false → in_want? (onward why why end) ≡ false
    → onward why [] x ≡ onward why [] y
unfolding onward
onward-fed wants last end x y same fed closed = same fed closed
onward-fed full last end x y same fed closed = same fed closed
onward-fed out_of_numbers last end x y same fed closed = same fed closed
onward-fed ended last end x y same fed closed = refl
onward-fed (refused_by n) last end x y same fed closed = refl

-- a call paused so, and left s: what is written after it
pieces-fed : (room : ℕ) (ps : List Piece) (why : Paused) (w : Witness) → Sound w → (k : ℕ) (s : List ℕ) → AreBytes s → AreBytes (all ps)
    → (why ≡ wants → Waits w k s) → in_want? (onward why why (last_pause why w k s ps)) ≡ false → in_want? (onward why why (end_pause room w k s ps)) ≡ false
    → onward why [] (fed_text room w k s ps) ≡ onward why [] (rest_of_report (model_of w) k (s ++ all ps))
unfolding fed_text last_pause end_pause flat_map
pieces-fed room [] why w sound k s bytes later waits fed closed = rw append-nil (last-fed room w sound k s why waits fed closed)
pieces-fed room (p ∷ ps) why w sound k s bytes later waits fed closed =
    let piece = s ++ p.bytes in
    let piece_bytes = bytes-both s p.bytes bytes (bytes-before p.bytes (all ps) later) in
    let f = feed_call p.room w k piece in
    let is = fed-call p.room w sound k piece piece_bytes in
    let left = drop f.passed piece in
    let rest = pieces-fed room ps f.paused f.witness is.sound f.records left (drop-bytes f.passed piece piece_bytes) (bytes-behind p.bytes (all ps) later) is.waits in
    onward-fed why _ _ _ _
    (λ r c. ap (λ (x : List ℕ). f.text ++ x) (rest r c) ∙ sym (is.goes_on (all ps)) ∙ ap (rest_of_report (model_of w) k) (append_assoc s p.bytes (all ps)))
    fed closed

-- ---- from the beginning

report_is_rest : (log name : List ℕ) → header log ≡ answer name → rest_of_report (start name) 0 (drop 37 log) ≡ report log
unfolding rest_of_report report report_body report_run
report_is_rest log name e = ap (report_body (drop 37 log)) (sym e)

report_is_stop : (log : List ℕ) (n : ℕ) → header log ≡ refused n → stopped_line n 0 ≡ report log
unfolding report report_body
report_is_stop log n e = ap (report_body (drop 37 log)) (sym e)

-- the first piece has the header, or is the log and the last piece
abbrev Heads : Bool → List ℕ → List ℕ → Type 0
Heads last first later = (37 ≤ length first) ⊎ ((last ≡ true) × (later ≡ []))

module _ (last : Bool) (first later : List ℕ) where
  -- `open` waits for no more
  not_short : Heads last first later → (ltb (length first) 37 && not last) ≡ false
  not_short h = ⊎_elim (λ (long : 37 ≤ length first). rw (le-ltb (length first) 37 long)) (λ (whole : (last ≡ true) × (later ≡ [])). rw whole.0 (and-false (ltb (length first) 37))) h
    where
      and-false : (b : Bool) → (b && false) ≡ false
      and-false true = refl
      and-false false = refl

  same-header : Heads last first later → header first ≡ header (first ++ later)
  same-header h = ⊎_elim (λ (long : 37 ≤ length first). sym (header_in_piece first later long)) (λ (whole : (last ≡ true) × (later ≡ [])). ap header (sym (append-nil first) ∙ ap (λ (l : List ℕ). first ++ l) (sym whole.1))) h

  pub opened-is : (room : ℕ) (w : Witness) → Heads last first later → line_room ≤ room → open_call last room w first ≡ headed w (header (first ++ later))
  unfolding open_call
  opened-is room w h has_room =
      ap (λ (b : Bool). cond b (paused_at [] wants w 0) (cond (ltb room line_room) (paused_at [] full w 0) (headed w (header first)))) (not_short h)
      ∙ ap (λ (b : Bool). cond b (paused_at [] full w 0) (headed w (header first))) (le-ltb room line_room has_room)
      ∙ ap (headed w) (same-header h)

-- what is written from `open` on, by what it came to
module _ (room : ℕ) (first : List ℕ) (ps : List Piece) where
  abbrev from : Feeding → List ℕ
  from f = f.text ++ onward f.paused [] (fed_text room f.witness f.records (drop f.passed first) ps)

  abbrev lasts : Feeding → Paused
  lasts f = onward f.paused f.paused (last_pause full f.witness f.records (drop f.passed first) ps)

  abbrev closes : Feeding → Paused
  closes f = onward f.paused f.paused (end_pause room f.witness f.records (drop f.passed first) ps)

  first-long : (last : Bool) → Heads last first (all ps) → (name : List ℕ) → header (first ++ all ps) ≡ answer name → 37 ≤ length first
  first-long last h name e =
      ⊎_elim (λ (long : 37 ≤ length first). long)
      (λ (whole : (last ≡ true) × (all ps ≡ [])). omega (arith, header-long (first ++ all ps) name e, length-append first (all ps), ap length whole.1)) h

  by-header : (last : Bool) → Heads last first (all ps) → (w : Witness) (h : Answer (List ℕ)) → AreBytes (first ++ all ps) → header (first ++ all ps) ≡ h → in_want? (lasts (headed w h)) ≡ false → in_want? (closes (headed w h)) ≡ false
      → from (headed w h) ≡ report (first ++ all ps)
  unfolding headed onward
  by-header last heads w (refused n) bytes e fed closed = append-nil (stopped_line n 0) ∙ report_is_stop (first ++ all ps) n e
  by-header last heads w (answer name) bytes e fed closed =
      let long = header-name (first ++ all ps) name e in
      let v = empty_witness name in
      let left = drop 37 first in
      let inside : 37 ≤ length first = first-long last heads name e in
      pieces-fed room ps full v (empty_sound name long) 0 left (drop-bytes 37 first (bytes-before first (all ps) bytes)) (bytes-behind first (all ps) bytes) (λ p. let z : ◌≡◌ {A = ℕ} 0 1 = cc in absurd (omega arith)) fed closed
      ∙ ap₂ (λ (m : Model) (l : List ℕ). rest_of_report m 0 l) (empty_model name long) (sym (drop-append-le 37 first (all ps) inside))
      ∙ report_is_rest (first ++ all ps) name e

pub in_pieces : InPieces
in_pieces log bytes room w last first ps is heads has_room (fed, closed) =
    let cut = first.bytes ++ all ps in
    let is-headed = opened-is last first.bytes (all ps) first.room w heads has_room in
    ap (from room first.bytes ps) is-headed
    ∙ by-header room first.bytes ps last heads w (header cut) (subst AreBytes is bytes) refl
    (subst (λ (f : Feeding). in_want? (lasts room first.bytes ps f) ≡ false) is-headed fed)
    (subst (λ (f : Feeding). in_want? (closes room first.bytes ps f) ≡ false) is-headed closed)
    ∙ ap report (sym is)

-- ---- with room for the lines of any record, one is passed

halted_not_in_want : (t : Answer Told) (w : Witness) (k : ℕ) → in_want? (halted t w k).paused ≡ false
unfolding halted in_want?
halted_not_in_want (refused n) w k = go (eqb n 4)
  where
    go : (b : Bool) → in_want? (cond b (paused_at (stopped_line 4 k) ended w k) (paused_at [] wants w k)).paused ≡ false
    go true = refl
    go false = refl
halted_not_in_want (answer t) w k = refl

-- one reading of the call's first record
module _ (n room : ℕ) (w : Witness) (k : ℕ) (s : List ℕ) where
  abbrev d : Decision
  d = decide (model_of w) s

  first-passed : (ltb room record_room || eqb k last_number) ≡ false → in_want? (feed_from (suc n) room w k s).paused ≡ true → 0 < (feed_from (suc n) room w k s).passed
  unfolding feed_from
  first-passed goes e = go (ltb room record_room || eqb k last_number) (eqb (record_length s) 0) goes refl e
    where
      later : Feeding
      later = feed_from n (room - length (outcome_line k d.told)) (stored w d) (k + 1) (drop (record_length s) s)

      go : (spent? none : Bool) → spent? ≡ false → eqb (record_length s) 0 ≡ none
          → in_want? (cond spent? (paused_at [] (spent room) w k) (cond none (halted d.told w k) (ahead (outcome_line k d.told) (record_length s) later))).paused ≡ true
          → 0 < (cond spent? (paused_at [] (spent room) w k) (cond none (halted d.told w k) (ahead (outcome_line k d.told) (record_length s) later))).passed
      go true none r e p = clash refl r
      go false true r e p = clash p (halted_not_in_want d.told w k)
      go false false r e p = omega (arith, eqb-false (record_length s) 0 e)

pub open_waits : OpenWaits
unfolding open_call
open_waits room w log short = rw (lt-ltb (length log) 37 short)

pub feed_goes_on : FeedGoesOn
unfolding feed_call on_sound in_want?
feed_goes_on room w k s has_room number = go (sound? w)
  where
    goes : (ltb room record_room || eqb k last_number) ≡ false
    goes = rw (le-ltb room record_room has_room) (ne_eqb k last_number (λ e. omega (arith, e, number)))

    go : (b : Bool) → in_want? (cond b (feed_from (length s + 1) room w k s) (paused_at [] (refused_by 40) w k)).paused ≡ true
        → 0 < (cond b (feed_from (length s + 1) room w k s) (paused_at [] (refused_by 40) w k)).passed
    go true e =
        let one : length s + 1 ≡ suc (length s) = omega arith in
        subst (λ (n : ℕ). in_want? (feed_from n room w k s).paused ≡ true → 0 < (feed_from n room w k s).passed) (sym one) (first-passed (length s) room w k s goes) e
    go false e = clash e refl

pub close_ends : CloseEnds
close_ends room w k left sound fits =
    ap (λ (f : Feeding). f.paused) (close_is room w sound k left false (le-ltb room (length (end_text (model_of w) k left)) fits))
