-- `witness::read` meets its contract: row 40, then the record reader. Assumes nothing.
use lib.ListN.{drop}
use Rattle.sound.proofs.Guarded.{passes_40, meets_40, good-state}
use Rattle.witness.proofs.Guarded.{unsound_reading, sound-reading}
use Rattle.witness.proofs.read.Goals as goal
use mathlib.Core.Path.{ap}
use mathlib.Core.Bool.{not}

pub returns-then-not-is_sound : goal.returns-then-not-is_sound
returns-then-not-is_sound c =
    let a = c.args in
    unsound_reading a.w (drop a.at a.log.now) a.at (meets_40 a.w c.is_sound.ensures (ap not c.if-not-is_sound.true))

pub read_record-requires : goal.read_record-requires
read_record-requires c = good-state c.args.w c.is_sound.ensures (ap not c.if-not-is_sound.false)

pub returns : goal.returns
returns c =
    let a = c.args in
    sound-reading a.w (drop a.at a.log.now) a.at (passes_40 a.w c.is_sound.ensures (ap not c.if-not-is_sound.false)) c.read_record.ensures
