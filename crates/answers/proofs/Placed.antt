-- Row 41, and the other calls' answers, once it is known that the state is sound.
use Prim.Native.Nat.{ℕ}
use mathlib.Core.Path.{◌≡◌, sym, ap, ap₂, ◌∙◌}
use mathlib.Core.List.{List}
use mathlib.Core.Bool.{Bool, true, false, ◌&&◌, not}
use lib.Dec.{ltb}
use Rattle.std.specs.Prelude.{Result}
use Rattle.model.specs.Answer.{Answer, refused, answer, row}
use Rattle.model.specs.Refusals.{refusal_number}
use Rattle.model.specs.Buffer.{write_text, buffer_after, Written, write_answer_of}
use Rattle.model.specs.Finality.{status, status_at, conflicting?}
use Rattle.model.specs.Model.{Model, place_held}
use Rattle.model.specs.Support.{support, support_at}
use Rattle.state.specs.Sound.{Sound, sound?}
use Rattle.state.proofs.Sound.{true_sound}
use Rattle.state.specs.State.{model_of}
use Rattle.state.specs.declared.Witness.{Witness}
use Rattle.state.proofs.Entries.{count-checkpoints}
use Rattle.model.specs.declared.Refusal.{Refusal}
use Rattle.answers.specs.Calls.{status_call, support_call, conflict_call, write_call, write_buffer}
use Rattle.sound.specs.Held.{on_sound}
use Rattle.sound.proofs.Guarded.{on_unsound, on-sound}

module _ (w : Witness) where
  -- whether a place is held, by the count
  held : (p : ℕ) {b : Bool} → ltb p w.checkpoint_count ≡ b → place_held (model_of w) p ≡ b
  held p e = ap (ltb p) (count-checkpoints w) ∙ e

  module _ (sound : Sound w) where
    e : sound? w ≡ true
    e = true_sound w sound

    pub status-is : (p : ℕ) {b : Bool} → ltb p w.checkpoint_count ≡ b → row 41 (not b) (answer (status (model_of w) p)) ≡ status_call w p
    unfolding status_call status_at
    status-is p h = sym (on-sound w (λ m. status_at m p) e ∙ ap (λ (t : Bool). row 41 (not t) (answer (status (model_of w) p))) (held p h))

    pub support-is : (s t : ℕ) {a b : Bool} → ltb s w.checkpoint_count ≡ a → ltb t w.checkpoint_count ≡ b
        → row 41 (not (a && b)) (answer (support (model_of w) s t)) ≡ support_call w s t
    unfolding support_call support_at
    support-is s t h k =
        sym (on-sound w (λ m. support_at m s t) e
        ∙ ap₂ (λ (x y : Bool). row 41 (not (x && y)) (answer (support (model_of w) s t))) (held s h) (held t k))

    pub conflict-is : answer (conflicting? (model_of w)) ≡ conflict_call w
    unfolding conflict_call
    conflict-is = sym (on-sound w (λ m. answer (conflicting? m)) e)

    -- a call that writes a text, from what its writer says
    pub write_is : (text : Model → List ℕ) (buffer : List ℕ) {r : Result ℕ Refusal} {left : List ℕ}
        → Written (text (model_of w)) buffer r left
        → (write_answer_of r ≡ write_call text w buffer) × (left ≡ write_buffer text w buffer)
    unfolding write_call write_buffer
    write_is text buffer written =
        let call = sym (on-sound w (λ m. write_text (text m) buffer) e) in
        (written.answered ∙ call, written.buffer ∙ ap (buffer_after (text (model_of w)) buffer) call)

  -- row 40, by what `sound` said
  module _ (why : Refusal) (said : (refusal_number why ≡ 40) × (sound? w ≡ false)) where
    pub row_40 : {A : Type 0} (answers : Model → Answer A) → refused (refusal_number why) ≡ on_sound w answers
    row_40 answers = ap refused said.0 ∙ sym (on_unsound w answers said.1)

    pub write_40 : (text : Model → List ℕ) (buffer : List ℕ)
        → (refused (refusal_number why) ≡ write_call text w buffer) × (buffer ≡ write_buffer text w buffer)
    unfolding write_call write_buffer buffer_after
    write_40 text buffer =
        let call = row_40 (λ m. write_text (text m) buffer) in
        (call, ap (buffer_after (text (model_of w)) buffer) call)
