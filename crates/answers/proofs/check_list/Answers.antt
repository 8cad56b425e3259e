-- `answers::check_list` meets its contract: row 40, then the checker. Assumes nothing.
use mathlib.Core.Path.{sym, ◌∙◌}
use Rattle.std.proofs.lemmas.Result.{err_from_is_err_and}
use Rattle.model.specs.Checker.{check}
use Rattle.state.proofs.Sound.{true_sound}
use Rattle.sound.proofs.Guarded.{on-sound}
use Rattle.answers.specs.Calls.{check_call}
use Rattle.answers.proofs.Placed.{row_40}
use Rattle.answers.proofs.check_list.Goals as goal

pub returns-in_err-sound : goal.returns-in_err-sound
unfolding check_call
returns-in_err-sound c =
    let p = err_from_is_err_and c.from_residual.result c.from_residual.ensures.1 in
    rw (p.1, p.2) (row_40 c.args.w _ c.in_err-sound.ensures _)

pub returns : goal.returns
unfolding check_call
returns c =
    let a = c.args in
    c.check_list.ensures ∙ sym (on-sound a.w (λ m. check m a.list.now) (true_sound a.w c.in_ok-sound.ensures))
