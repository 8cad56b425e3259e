-- `ask::ask` meets its contract: the log is read, and each call answers on the witness that it leaves. Assumes nothing.
use mathlib.Core.Path.{refl, ◌∙◌}
use Rattle.model.specs.Bytes.{AreBytes}
use Rattle.ask.proofs.Asked.{answers-begun, answers-refused, buffer-begun, buffer-refused}
use Rattle.ask.proofs.ask.Goals as goal

pub returns-in-Ok : goal.returns-in-Ok
returns-in-Ok c =
    let a = c.args in
    let bytes : AreBytes a.log.now = λ i h. (c.shared_slice_known-1.given i).fits in (
      answers-begun a.w a.log.now a.limit c.replay-start.result c.replay-start.ensures a.p.0 a.theirs.now a.buf.now bytes c.in-Ok.is _ refl refl refl c.status.ensures
          c.conflict.ensures c.write_list.ensures.0 c.check_list.ensures,
      c.write_list.ensures.1 ∙ buffer-begun a.w a.log.now a.limit c.replay-start.result c.replay-start.ensures a.buf.now bytes c.in-Ok.is,
    )

pub returns-in-Err : goal.returns-in-Err
returns-in-Err c =
    let a = c.args in (
      answers-refused a.w a.log.now a.limit c.replay-start.result c.replay-start.ensures a.p.0 a.theirs.now a.buf.now _ c.in-Err.is,
      buffer-refused a.w a.log.now a.limit c.replay-start.result c.replay-start.ensures a.buf.now _ c.in-Err.is,
    )
