-- `report::put_end` meets its contract. Assumes nothing.
use native.Mathlib.Omega.{arith}
use mathlib.Core.Path.{ap}
use Rattle.std.specs.Prelude.{Ok}
use lib.ListN.{length}
use Rattle.text.proofs.Putting.{spelled}
use Rattle.feeding.specs.declared.Pause.TheVariants.{Ended}
use Rattle.report.proofs.Ends.{end-full, end_fits}
use Rattle.feeding.proofs.Told.{paused-fed, fed-as, text-is}
use Rattle.report.proofs.put_end.Goals as goal

pub returns-then-buf-n : goal.returns-then-buf-n
returns-then-buf-n c =
    let a = c.args in
    fed-as (end-full a.w a.records _ a.left (omega (arith, c.last_text-n.ensures.past, c.if-buf-n.true))) (c.paused.ensures a.buf.now)

pub slice_bounds-put-end : goal.slice_bounds-put-end
slice_bounds-put-end c = let put = c.last_text-n.ensures in omega (arith, put.past, ap length (text-is put))

pub put-written-requires : goal.put-written-requires
put-written-requires c =
    let put = c.last_text-n.ensures in
    omega (arith, put.past, ap length (text-is put), c.if-buf-n.false)

pub returns : goal.returns
returns c =
    let a = c.args in
    paused-fed a.w a.records 0 0 _ a.buf.now _ (Ok Ended) (end_fits a.w a.records _ a.left (omega (arith, c.last_text-n.ensures.past, c.if-buf-n.false)))
    (spelled c.put-written.ensures (text-is c.last_text-n.ensures))
