-- What a call is told of a state that was handed in: row 40 before everything else.
use Rattle.std.specs.Prelude.{not}
use Rattle.model.specs.Answer.{Answer, answer, row, and_then}
use Rattle.model.specs.Model.{Model}
use Rattle.state.specs.Sound.{sound?}
use Rattle.state.specs.State.{model_of}
use Rattle.state.specs.declared.Witness.{Witness}

-- the model that a state holds: 40 where the state is not sound
unfoldable pub held : Witness → Answer Model
held w = row 40 (not (sound? w)) (answer (model_of w))

-- an answer on what a state holds
abbrev pub on_sound : {A : Type 0} → Witness → (Model → Answer A) → Answer A
on_sound w answers = and_then (held w) answers
