-- `answers::conflict` meets its contract: row 40, then the conflict answer. Assumes nothing.
use mathlib.Core.Path.{ap, ◌∙◌}
use Rattle.std.proofs.lemmas.Result.{err_from_is_err_and}
use Rattle.model.specs.Answer.{answer}
use Rattle.answers.specs.Calls.{conflict_call}
use Rattle.answers.proofs.Placed.{row_40, conflict-is}
use Rattle.answers.proofs.conflict.Goals as goal

pub returns-in_err-sound : goal.returns-in_err-sound
unfolding conflict_call
returns-in_err-sound c =
    let p = err_from_is_err_and c.from_residual.result c.from_residual.ensures.1 in
    rw (p.1, p.2) (row_40 c.args.w _ c.in_err-sound.ensures _)

pub returns : goal.returns
returns c = ap answer c.conflict.ensures ∙ conflict-is c.args.w c.in_ok-sound.ensures
