-- What row 40 makes of a call's answer, once the state's soundness is known.
use mathlib.Core.Path.{◌≡◌, sym, ap, ◌∙◌}
use mathlib.Core.Bool.{Bool, true, false, not}
use borrow.Author.Tests.{not-true, not-false}
use Rattle.model.specs.Answer.{Answer, refused, answer, row, and_then}
use Rattle.model.specs.Model.{Model}
use Rattle.state.specs.Sound.{Typed, Sound, sound?}
use Rattle.state.specs.State.{model_of}
use Rattle.state.specs.declared.Witness.{Witness}
use Rattle.state.proofs.Sound.{sound_true}
use Rattle.sound.specs.Held.{held, on_sound}

-- what `is_sound` said of the state, and the branch on it
module _ (w : Witness) {r : Bool} (said : (r ≡ sound? w) × Typed w) where
  pub passes_40 : not r ≡ false → sound? w ≡ true
  passes_40 e = sym said.0 ∙ not-false r e

  pub meets_40 : not r ≡ true → sound? w ≡ false
  meets_40 e = sym said.0 ∙ not-true r e

  pub good-state : not r ≡ false → Sound w
  good-state e = sound_true w said.1 (passes_40 e)

module _ (w : Witness) where
  pub held_unsound : sound? w ≡ false → held w ≡ refused 40
  unfolding held row
  held_unsound e = rw e

  pub held-sound : sound? w ≡ true → held w ≡ answer (model_of w)
  unfolding held row
  held-sound e = rw e

module _ {A : Type 0} (w : Witness) (answers : Model → Answer A) where
  pub on_unsound : sound? w ≡ false → on_sound w answers ≡ refused 40
  unfolding and_then
  on_unsound e = ap (λ (h : Answer Model). and_then h answers) (held_unsound w e)

  pub on-sound : sound? w ≡ true → on_sound w answers ≡ answers (model_of w)
  unfolding and_then
  on-sound e = ap (λ (h : Answer Model). and_then h answers) (held-sound w e)
