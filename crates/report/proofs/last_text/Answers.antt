-- `report::last_text` meets its contract. Assumes nothing.
use Rattle.state.specs.State.{model_of}
use Rattle.text.proofs.Putting.{spelled}
use Rattle.report.proofs.Ends.{end-summary, end-cut}
use Rattle.report.proofs.last_text.Goals as goal

pub returns-then-left-eq0 : goal.returns-then-left-eq0
returns-then-left-eq0 c =
    let a = c.args in
    spelled c.summary.ensures.0 (end-summary (model_of a.w) a.records a.left c.if-left-eq0.true)

pub returns : goal.returns
returns c =
    let a = c.args in
    spelled c.stopped_line.ensures.0 (end-cut (model_of a.w) a.records a.left c.if-left-eq0.false)
