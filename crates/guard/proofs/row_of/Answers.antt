-- `guard::row_of` meets its contract, case by case. Assumes nothing.
use mathlib.Core.Path.{◌∙◌}
use Rattle.model.specs.Answer.{row_of}
use Rattle.guard.proofs.row_of.Goals as goal

pub returns-in-Ok : goal.returns-in-Ok
unfolding row_of
returns-in-Ok c = rw c.in-Ok.is

pub returns-in-Err : goal.returns-in-Err
unfolding row_of
returns-in-Err c = rw c.in-Err.is (c.from-in-Err.ensures ∙ c.from.ensures)
