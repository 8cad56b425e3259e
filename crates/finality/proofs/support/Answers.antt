-- `finality::support` meets its contract: the voters gathered for the link are its supporters. Assumes nothing.
use Prim.Native.Nat.{◌<◌}
use native.Mathlib.Omega.{arith}
use Rattle.state.proofs.Sound.{few-members, few-checkpoints}
use Rattle.tally.proofs.Ready.{ready-bonds, ready-bar, ready-walk, ready-support}
use Rattle.finality.proofs.support.Goals as goal
use Rattle.finality.proofs.support.Goals.{After-prepare-b}

-- the two places are held
low : (c : After-prepare-b) → (c.args.s.0 < 512) × (c.args.t.0 < 512)
low c = let few = few-checkpoints _ c.requires.0 in (omega arith, omega arith)

pub shared_ref_as_front-bonds : goal.shared_ref_as_front-bonds
shared_ref_as_front-bonds c = few-members _ c.requires.0

pub bounds-b-target : goal.bounds-b-target
bounds-b-target c = rw c.from-target.ensures (low (goal.at.bounds-b-target c).After-prepare-b).1

pub gather-requires-clause-walk : goal.gather-requires-clause-walk
gather-requires-clause-walk c =
    rw c.from-target.ensures
    (ready-walk c.prepare-b.ensures _ (low (goal.at.gather-requires-clause-walk c).After-prepare-b).1)

pub bounds-voters-source : goal.bounds-voters-source
bounds-voters-source c = rw c.from-source.ensures (low (goal.at.bounds-voters-source c).After-prepare-b).0

pub backed_by-requires : goal.backed_by-requires
backed_by-requires c = (ready-bonds c.prepare-b.ensures, ready-bar c.prepare-b.ensures)

pub returns : goal.returns
returns c =
    let r = c.prepare-b.ensures in
    let is = c.backed_by.ensures in
    let places = low (goal.at.returns c).After-prepare-b in
    ready-support r _ _ places.1 (rw c.from-target.ensures at c.gather.ensures) _ places.0
    (rw c.from-source.ensures at is.number)
    (rw c.from-source.ensures at is.weight)
    is.yes?
