-- `witness::read_many` meets its contract: row 40, then reading on. Assumes nothing.
use Rattle.sound.proofs.Guarded.{passes_40, meets_40, good-state}
use Rattle.witness.proofs.Guarded.{many_unsound, many-sound}
use Rattle.witness.proofs.read_many.Goals as goal
use mathlib.Core.Path.{ap}
use mathlib.Core.Bool.{not}

pub returns-then-not-is_sound : goal.returns-then-not-is_sound
returns-then-not-is_sound c =
    let a = c.args in
    many_unsound _ _ a.w a.log.now a.at (meets_40 a.w c.is_sound.ensures (ap not c.if-not-is_sound.true)) a.rows.now

pub read_from-requires : goal.read_from-requires
read_from-requires c = good-state c.args.w c.is_sound.ensures (ap not c.if-not-is_sound.false)

pub returns : goal.returns
returns c =
    let r = c.before.before in
    let a = c.args in
    many-sound _ _ a.w a.log.now a.at (passes_40 a.w c.is_sound.ensures (ap not c.if-not-is_sound.false)) c.read_from.ensures
