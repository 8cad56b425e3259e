-- `report::close` meets its contract. Assumes nothing.
use mathlib.Core.Path.{ap}
use mathlib.Core.Bool.{true, false, not}
use Rattle.sound.proofs.Guarded.{passes_40, meets_40, good-state}
use Rattle.feeding.specs.Feed.{end_call}
use Rattle.report.proofs.Ends.{on-sound}
use Rattle.report.proofs.close.Goals as goal
use mathlib.Core.Path.{ap}
use mathlib.Core.Bool.{not}

pub put_end-requires : goal.put_end-requires
put_end-requires c = good-state c.args.w c.is_sound.ensures (ap not c.if-is_sound.true)

pub returns-then-is_sound : goal.returns-then-is_sound
unfolding end_call
returns-then-is_sound c =
    let a = c.args in
    on-sound a.w a.records _ true (passes_40 a.w c.is_sound.ensures (ap not c.if-is_sound.true)) c.put_end.ensures

pub returns : goal.returns
unfolding end_call
returns c =
    let a = c.args in
    on-sound a.w a.records _ false (meets_40 a.w c.is_sound.ensures (ap not c.if-is_sound.false)) (c.unsound.ensures a.buf.now)
