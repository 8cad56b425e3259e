-- `report::open` meets its contract. Assumes nothing.
use Rattle.std.specs.Prelude.{Ok}
use Rattle.feeding.specs.declared.Pause.TheVariants.{Ended}
use Rattle.report.proofs.Ends.{open_short, open_full, open_begun, open_refused}
use Rattle.feeding.proofs.Told.{paused-fed, fed-as}
use Rattle.report.proofs.open.Goals as goal

pub returns-then-not-last : goal.returns-then-not-last
returns-then-not-last c =
    let a = c.args in
    fed-as (open_short a.w a.log.now a.last _ c.if-log-lt37.true c.if-not-last.true) (c.paused.ensures a.buf.now)

pub returns-then-buf-lt64 : goal.returns-then-buf-lt64
returns-then-buf-lt64 c =
    let a = c.args in
    fed-as (open_full a.w a.log.now a.last _ c.else-log-lt37.either c.if-buf-lt64.true) (c.paused-then-buf-lt64.ensures a.buf.now)

pub returns-in-Ok : goal.returns-in-Ok
returns-in-Ok c =
    let a = c.args in
    open_begun a.w a.log.now a.last _ c.else-log-lt37.either c.if-buf-lt64.false c.begin-outcome.ensures a.buf.now _ c.in-Ok.is (c.paused-in-Ok.ensures a.buf.now)

pub returns-in-Err : goal.returns-in-Err
returns-in-Err c =
    let a = c.args in
    paused-fed _ 0 0 0 _ a.buf.now _ (Ok Ended) (open_refused a.w a.log.now a.last _ c.else-log-lt37.either c.if-buf-lt64.false c.begin-outcome.ensures _ c.in-Err.is) c.stopped_line-written.ensures.0
