-- `answers::status` meets its contract: rows 40 and 41, then the status. Assumes nothing.
use mathlib.Core.Path.{ap, ◌∙◌}
use borrow.Author.Tests.{lt-ltb, le-ltb}
use Rattle.std.proofs.lemmas.Result.{err_from_is_err_and}
use Rattle.model.specs.Answer.{refused, answer, row}
use Rattle.answers.specs.Calls.{status_call}
use Rattle.answers.proofs.Placed.{row_40, status-is}
use Rattle.answers.proofs.status.Goals as goal

pub returns-in_err-sound : goal.returns-in_err-sound
unfolding status_call
returns-in_err-sound c =
    let p = err_from_is_err_and c.from_residual.result c.from_residual.ensures.1 in
    rw (p.1, p.2) (row_40 c.args.w _ c.in_err-sound.ensures _)

pub returns-in_err-held : goal.returns-in_err-held
unfolding row
returns-in_err-held c =
    let p = err_from_is_err_and c.from_residual-in_err-held.result c.from_residual-in_err-held.ensures.1 in
    let e = c.in_err-held.ensures in
    rw (p.1, p.2) (ap refused e.0 ∙ status-is c.args.w c.in_ok-sound.ensures c.args.p.0 (le-ltb _ _ e.1))

pub returns : goal.returns
unfolding row
returns c = ap answer c.status.ensures ∙ status-is c.args.w c.in_ok-sound.ensures c.args.p.0 (lt-ltb _ _ c.in_ok-held.ensures)
