-- `report::feed` meets its contract. Assumes nothing.
use mathlib.Core.Bool.{true, false}
use Rattle.sound.proofs.Guarded.{passes_40, meets_40, good-state}
use Rattle.feeding.specs.Feed.{feed_call}
use Rattle.report.proofs.Ends.{on-sound}
use Rattle.report.proofs.feed.Goals as goal
use mathlib.Core.Path.{ap}
use mathlib.Core.Bool.{not}

pub returns-then-not-is_sound : goal.returns-then-not-is_sound
unfolding feed_call
returns-then-not-is_sound c =
    let a = c.args in
    on-sound a.w a.records _ false (meets_40 a.w c.is_sound.ensures (ap not c.if-not-is_sound.true)) (c.unsound.ensures a.buf.now)

pub read_on-requires : goal.read_on-requires
read_on-requires c = good-state c.args.w c.is_sound.ensures (ap not c.if-not-is_sound.false)

pub returns : goal.returns
unfolding feed_call
returns c =
    let a = c.args in
    on-sound a.w a.records _ true (passes_40 a.w c.is_sound.ensures (ap not c.if-not-is_sound.false)) c.read_on.ensures
