-- `witness::move_root` meets its contract: row 40, then the move. Assumes nothing.
use mathlib.Core.Path.{sym, subst}
use Rattle.model.specs.Run.{moving}
use Rattle.mover.specs.Moved.{IsMoved}
use Rattle.witness.specs.Calls.{event_call}
use Rattle.sound.proofs.Guarded.{passes_40, meets_40, good-state}
use Rattle.witness.proofs.Guarded.{unsound_move, sound_move}
use Rattle.witness.proofs.move_root.Goals as goal
use mathlib.Core.Path.{ap}
use mathlib.Core.Bool.{not}

pub returns-then-not-is_sound : goal.returns-then-not-is_sound
returns-then-not-is_sound c =
    let a = c.args in
    subst (IsMoved a.w (event_call a.w (moving a.place.0))) (sym c.refuse.ensures)
    (unsound_move a.w a.place.0 (meets_40 a.w c.is_sound.ensures (ap not c.if-not-is_sound.true)))

pub move_root-requires : goal.move_root-requires
move_root-requires c = good-state c.args.w c.is_sound.ensures (ap not c.if-not-is_sound.false)

pub returns : goal.returns
returns c =
    let a = c.args in
    let sound = passes_40 a.w c.is_sound.ensures (ap not c.if-not-is_sound.false) in
    sound_move a.w a.place.0 sound c.move_root.ensures
