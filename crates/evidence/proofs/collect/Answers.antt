use Prim.Native.Nat.{◌<◌}
use native.Mathlib.Omega.{arith}
use mathlib.Core.Path.{sym, ◌∙◌}
use lib.ListN.{length, get_or}
use Rattle.evidence.proofs.Listing.{listed-none, listed_more}
use Rattle.conduct.proofs.Sorting.{all_get_d}
use Rattle.evidence.proofs.collect.Goals as goal
use Rattle.evidence.proofs.collect.Goals.{In-loop-place}

-- a place is a member's
inside : (c : In-loop-place)
    → let p = get_or c.args.places.now c.loop-place.place-index 0 in
    (p < length c.args.ids.now) × (p < length c.args.shown.now)
inside c = all_get_d c.args.places.now c.loop-place.place-index 0 c.requires.1 c.loop-place-test.true

pub loop-place-init : goal.loop-place-init
loop-place-init c = (omega arith, c.none-charges.ensures.1 ∙ sym (listed-none c.args.ids.now c.args.shown.now))

pub bounds-ids-p : goal.bounds-ids-p
bounds-ids-p c = (inside (goal.at.bounds-ids-p c).In-loop-place).0

pub bounds-shown-p : goal.bounds-shown-p
bounds-shown-p c = (inside (goal.at.bounds-shown-p c).In-loop-place).1

pub loop-place-preserved : goal.loop-place-preserved
loop-place-preserved c =
    let l = c.loop-place in
    let a = c.args in
    (omega (arith, c.add.ensures.0), listed_more a.ids.now a.shown.now l.place-index a.places.now c.loop-place-test.true c.add.ensures.1 l.invariant.1)
