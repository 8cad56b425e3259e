use native.Mathlib.Omega.{arith}
use Rattle.std.proofs.lemmas.List.{length-take}
use Rattle.voters.specs.declared.Voters.{Voters}
use Rattle.state.proofs.Sound.{few-members}
use Rattle.tally.proofs.Ready.{ready-bonds, ready-bar}
use Rattle.standing.proofs.Turns.{turn-first, turn-walk, turn-parent, turn_more, turn_last}
use Rattle.standing.proofs.analyse.Goals as goal

pub shared_ref_as_front-bonds : goal.shared_ref_as_front-bonds
shared_ref_as_front-bonds c = few-members _ c.requires.sound

pub loop-t-init : goal.loop-t-init
loop-t-init c = turn-first c.requires

pub gather-requires-clause-walk : goal.gather-requires-clause-walk
gather-requires-clause-walk c = turn-walk c.loop-t.invariant c.loop-t-test.true

pub reaches-requires : goal.reaches-requires
reaches-requires c =
    let at = c.loop-t.invariant in (
      omega (arith, length-take {A = Voters}, at.marked.long),
      ready-bonds at.ready,
      ready-bar at.ready,
    )

pub bounds-voters-p : goal.bounds-voters-p
bounds-voters-p c = rw c.from-p.ensures (turn-parent c.loop-t.invariant c.loop-t-test.true)

pub carries-requires : goal.carries-requires
carries-requires c = (ready-bonds c.loop-t.invariant.ready, ready-bar c.loop-t.invariant.ready)

pub bounds-marks-p : goal.bounds-marks-p
bounds-marks-p c = rw c.from-p.ensures (turn-parent c.loop-t.invariant c.loop-t-test.true)

pub bounds-marks-p-in-loop-t : goal.bounds-marks-p-in-loop-t
bounds-marks-p-in-loop-t c = rw c.from-p.ensures (turn-parent c.loop-t.invariant c.loop-t-test.true)

pub loop-t-preserved : goal.loop-t-preserved
loop-t-preserved c =
    rw c.from-p.ensures
    (turn_more c.loop-t.invariant c.loop-t-test.true c.gather.new.voters (omega arith) c.gather.ensures
    c.reaches.ensures
    (rw c.from-p.ensures at c.carries.ensures))

pub returns : goal.returns
returns c = turn_last c.loop-t.invariant c.loop-t-test.false
