use native.Mathlib.Omega.{arith}
use Rattle.state.proofs.Sound.{few-checkpoints, falling}
use Rattle.pruning.proofs.Stays.{found_first, found-few, turn-keep, turn-drop, found_all}
use Rattle.pruning.proofs.kept_by.Goals as goal
use Rattle.pruning.proofs.kept_by.Goals.{else-stays-parent, then-stays-parent}

pub bounds-stays-root : goal.bounds-stays-root
bounds-stays-root c = omega (arith, few-checkpoints _ c.requires.0)

pub loop-p-init : goal.loop-p-init
loop-p-init c =
    let s = c.requires.0 in
    (few-checkpoints _ s, found_first _ s _ c.requires.1)

pub bounds-stays-parent : goal.bounds-stays-parent
bounds-stays-parent c =
    omega (arith, falling _ c.requires.0 c.loop-p.p (omega arith) c.loop-p-test.true)

pub overflow_add-n : goal.overflow_add-n
overflow_add-n c = omega (arith, found-few _ _ c.loop-p.invariant.1)

pub loop-p-preserved : goal.loop-p-preserved
loop-p-preserved c =
    let s = c.requires.0 in
    let so = c.loop-p.invariant.1 in
    let h = c.loop-p-test.true in (
      c.loop-p.invariant.0,
      elim c.if-stays-parent.branch [
        | then-stays-parent w ↦ turn-keep _ s _ so h w.if-stays-parent.true w.stays-is w.n-is
        | else-stays-parent w ↦ turn-drop _ s _ so h w.if-stays-parent.false w.stays-is w.n-is
      ],
    )

pub returns : goal.returns
returns c = found_all _ c.requires.0 _ c.loop-p-test.false c.loop-p.invariant.1
