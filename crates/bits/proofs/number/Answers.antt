use native.Mathlib.Omega.{arith}
use native.Mathlib.Nat.{le_antisymm}
use mathlib.Core.Path.{refl, sym, ◌∙◌}
use Rattle.model.specs.Bits.{set_places}
use Rattle.model.specs.Bytes.{part}
use Rattle.model.specs.Lists.{concat_below}
use Rattle.bits.proofs.SetPlaces.{length_more, length-same, few-set}
use Rattle.bits.proofs.number.Goals as goal
use Rattle.bits.proofs.number.Goals.{then-is_set, else-is_set}

pub loop-p-init : goal.loop-p-init
unfolding concat_below
loop-p-init c = refl

pub overflow_add-n : goal.overflow_add-n
overflow_add-n c = omega (arith, c.loop-p.invariant, few-set (part c.args.at 16 c.args.s.now) c.loop-p.p, c.loop-p-test.true)

pub loop-p-preserved : goal.loop-p-preserved
loop-p-preserved c =
    let bits = part c.args.at 16 c.args.s.now in
    let so = c.loop-p.invariant in
    elim c.if-is_set.branch [
      | then-is_set w ↦ w.n-is ∙ length_more bits c.loop-p.p so (sym w.if-is_set.ensures)
      | else-is_set w ↦ w.n-is ∙ length-same bits c.loop-p.p so (sym w.if-is_set.ensures)
    ]

pub returns : goal.returns
unfolding set_places
returns c =
    let bits = part c.args.at 16 c.args.s.now in
    let many = rw (le_antisymm c.loop-p.auto.p-end c.loop-p-test.false) at c.loop-p.invariant in
    (many, omega (arith, many, few-set bits 128))
