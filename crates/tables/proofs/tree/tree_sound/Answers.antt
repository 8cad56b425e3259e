use mathlib.Core.Path.{sym}
use Rattle.search.proofs.Below.{all_more, all-fails, all_fewer}
use Rattle.tables.proofs.Steps.{not_smaller, not_higher, one_higher, root-sound}
use Rattle.tables.proofs.tree.tree_sound.Goals as goal

pub loop-i-init : goal.loop-i-init
loop-i-init c = root-sound c.args.parents.now c.args.heights.now

pub returns-then-i-p : goal.returns-then-i-p
returns-then-i-p c =
    all-fails _ _ _ c.loop-i-test.true
    (not_smaller c.args.parents.now c.args.heights.now c.loop-i.auto.i c.if-i-p.true)

pub returns-then-heights-i : goal.returns-then-heights-i
returns-then-heights-i c =
    all-fails _ _ _ c.loop-i-test.true
    (not_higher c.args.parents.now c.args.heights.now c.loop-i.auto.i c.if-heights-i.true)

pub loop-i-preserved : goal.loop-i-preserved
loop-i-preserved c =
    all_more _ _ c.loop-i.invariant
    (sym (one_higher c.args.parents.now c.args.heights.now c.if-i-p.false c.if-heights-i.false))

pub returns : goal.returns
returns c = all_fewer _ _ _ c.loop-i-test.false c.loop-i.invariant
