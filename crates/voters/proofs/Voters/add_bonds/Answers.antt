use Prim.Native.Nat.{ℕ}
use native.Mathlib.Omega.{arith}
use mathlib.Core.Path.{sym, ◌∙◌}
use lib.ListN.{get_or}
use Rattle.model.specs.Limits.{bond_limit}
use Rattle.voters.specs.Bits.{among}
use Rattle.voters.proofs.Bits.{sum_bound, sum-none, sum_with, sum_without}
use Rattle.voters.proofs.Voters.add_bonds.Goals as goal
use Rattle.voters.proofs.Voters.add_bonds.Goals.{then-has, else-has}

pub loop-i-init : goal.loop-i-init
loop-i-init c = sum-none _ _

pub overflow_add-sum : goal.overflow_add-sum
overflow_add-sum c =
    let a = c.args in
    let each = c.requires.each in
    let bound = sum_bound c.loop-i.i bond_limit (among a.self)
    (λ k. get_or a.bonds.now k 0) (λ k h. each k (omega arith)) in
    omega (arith, each c.loop-i.i c.loop-i-test.true, bound, c.loop-i.invariant)

pub loop-i-preserved : goal.loop-i-preserved
loop-i-preserved c =
    let a = c.args in
    let bond : ℕ → ℕ = λ k. get_or a.bonds.now k 0 in
    let is = c.has.ensures in
    elim c.if-has.branch [
      | then-has w ↦ w.sum-is ∙ sum_with (among a.self) bond (sym is ∙ w.if-has.true) c.loop-i.invariant
      | else-has w ↦ w.sum-is ∙ sum_without (among a.self) bond (sym is ∙ w.if-has.false) c.loop-i.invariant
    ]
