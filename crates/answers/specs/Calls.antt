-- What the calls that ask give: row 40 before everything else.
use Rattle.std.specs.Prelude.{ℕ, List, Bool}
use Rattle.model.specs.Answer.{Answer, answer}
use Rattle.model.specs.Buffer.{write_text, buffer_after}
use Rattle.model.specs.Checker.{check}
use Rattle.model.specs.Finality.{status_at, conflicting?}
use Rattle.model.specs.Model.{Model}
use Rattle.model.specs.Support.{Support, support_at}
use Rattle.model.specs.declared.Status.{Status}
use Rattle.state.specs.State.{model_of}
use Rattle.state.specs.declared.Witness.{Witness}
use Rattle.sound.specs.Held.{on_sound}

-- the status of a place
unfoldable pub status_call : Witness → ℕ → Answer Status
status_call w p = on_sound w (λ m. status_at m p)

-- the support of a link between two places
unfoldable pub support_call : Witness → ℕ → ℕ → Answer Support
support_call w s t = on_sound w (λ m. support_at m s t)

-- whether any two final checkpoints conflict
unfoldable pub conflict_call : Witness → Answer Bool
conflict_call w = on_sound w (λ m. answer (conflicting? m))

-- a text into a lent buffer: its length, 60 where the buffer is shorter; and the buffer afterwards, which a refusal
-- leaves as it was

unfoldable pub write_call : (Model → List ℕ) → Witness → List ℕ → Answer ℕ
write_call text w buffer = on_sound w (λ m. write_text (text m) buffer)

unfoldable pub write_buffer : (Model → List ℕ) → Witness → List ℕ → List ℕ
write_buffer text w buffer = buffer_after (text (model_of w)) buffer (write_call text w buffer)

-- the checker: the sum of the named bonds
unfoldable pub check_call : Witness → List ℕ → Answer ℕ
check_call w l = on_sound w (λ m. check m l)
