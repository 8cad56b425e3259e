-- `answers::support` meets its contract: rows 40 and 41, then the support. Assumes nothing.
use mathlib.Core.Path.{refl, ap, ◌∙◌}
use borrow.Author.Tests.{lt-ltb, le-ltb}
use Rattle.std.proofs.lemmas.Result.{err_from_is_err_and}
use Rattle.model.specs.Answer.{refused, answer, row}
use Rattle.answers.specs.Calls.{support_call}
use Rattle.answers.proofs.Placed.{row_40, support-is}
use Rattle.answers.proofs.support.Goals as goal

pub returns-in_err-sound : goal.returns-in_err-sound
unfolding support_call
returns-in_err-sound c =
    let p = err_from_is_err_and c.from_residual.result c.from_residual.ensures.1 in
    rw (p.1, p.2) (row_40 c.args.w _ c.in_err-sound.ensures _)

pub returns-in_err-held : goal.returns-in_err-held
unfolding row
returns-in_err-held c =
    let a = c.args in
    let p = err_from_is_err_and c.from_residual-in_err-held.result c.from_residual-in_err-held.ensures.1 in
    let e = c.in_err-held.ensures in
    rw (p.1, p.2) (ap refused e.0 ∙ support-is a.w c.in_ok-sound.ensures a.s.0 a.t.0 (le-ltb _ _ e.1) refl)

pub returns-in_err-held-2 : goal.returns-in_err-held-2
unfolding row
returns-in_err-held-2 c =
    let a = c.args in
    let p = err_from_is_err_and c.from_residual-in_err-held-2.result c.from_residual-in_err-held-2.ensures.1 in
    let e = c.in_err-held-2.ensures in
    rw (p.1, p.2) (ap refused e.0 ∙ support-is a.w c.in_ok-sound.ensures a.s.0 a.t.0 (lt-ltb _ _ c.in_ok-held.ensures) (le-ltb _ _ e.1))

pub returns : goal.returns
unfolding row
returns c =
    let a = c.args in
    ap answer c.support.ensures ∙ support-is a.w c.in_ok-sound.ensures a.s.0 a.t.0 (lt-ltb _ _ c.in_ok-held.ensures) (lt-ltb _ _ c.in_ok-held-2.ensures)
