-- `answers::write_paper` meets its contract: row 40, then the paper's writer. Assumes nothing.
use Rattle.std.proofs.lemmas.Result.{err_from_is_err_and}
use Rattle.model.specs.Paper.{paper}
use Rattle.answers.proofs.Placed.{write_40, write_is}
use Rattle.answers.proofs.write_paper.Goals as goal

pub returns-in_err-sound : goal.returns-in_err-sound
returns-in_err-sound c =
    let p = err_from_is_err_and c.from_residual.result c.from_residual.ensures.1 in
    rw (p.1, p.2) (write_40 c.args.w _ c.in_err-sound.ensures paper c.args.buf.now)

pub returns : goal.returns
returns c = write_is c.args.w c.in_ok-sound.ensures paper c.args.buf.now c.write_paper.ensures
