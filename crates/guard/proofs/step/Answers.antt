-- `guard::step` meets its contract: the record goes with the answer. Assumes nothing.
use mathlib.Core.Path.{sym, ap, ◌∙◌}
use Rattle.guard.specs.Signing.{sign_answer_of}
use Rattle.guard.proofs.Rows.{signs, refuses}
use Rattle.guard.proofs.step.Goals as goal

pub returns-in-Ok : goal.returns-in-Ok
returns-in-Ok c =
    rw c.in-Ok.is (signs _ _ _ (sym (ap sign_answer_of c.in-Ok.is) ∙ c.judge-answer.ensures))

pub returns-in-Err : goal.returns-in-Err
returns-in-Err c =
    rw c.in-Err.is (refuses _ _ _ _ (sym (ap sign_answer_of c.in-Err.is) ∙ c.judge-answer.ensures))
