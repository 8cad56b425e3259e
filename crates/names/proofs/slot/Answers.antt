-- `names::slot` meets its contract. Assumes nothing.
use native.Mathlib.Omega.{arith}
use Rattle.names.proofs.Slots.{slot_is}
use Rattle.names.proofs.slot.Goals as goal

pub returns : goal.returns
returns c =
    let third = c.before in
    let second = third.before in
    let first = second.before in
    let a = first.args in
    let is = slot_is a.names.now a.at in
    (is first.le64.ensures second.le64-2.ensures third.le64-3.ensures c.le64-4.ensures, omega arith)
