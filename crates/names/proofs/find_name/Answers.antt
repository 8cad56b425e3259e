use Prim.Native.Nat.{◌+◌}
use native.Mathlib.Omega.{arith}
use native.Mathlib.Nat.{le_antisymm}
use mathlib.Core.Path.{sym, ◌∙◌}
use Rattle.search.proofs.Search.{passed_none, passed-more, found_here, found_none}
use Rattle.names.proofs.Rows.{rows-length, rows_at}
use Rattle.names.proofs.Words.{others-passed}
use Rattle.names.proofs.find_name.Goals as goal

pub loop-i-init : goal.loop-i-init
loop-i-init c =
    let so = c.next_alike-i.ensures in
    let a = c.args in
    let on = others-passed a.names.now a.s.now a.at a.count 0 _ so.0 so.1 so.2 in
    (omega arith, so.1, on (passed_none _ _))

pub returns-then-same : goal.returns-then-same
returns-then-same c =
    let turn = c.before.before in
    let same = sym c.same.ensures ∙ c.if-same.true in
    (found_here _ (rows_at _ _ _ turn.loop-i-test.true) same turn.loop-i.invariant.2, turn.loop-i-test.true)

pub loop-i-smaller : goal.loop-i-smaller
loop-i-smaller c = omega (arith, c.next_alike-i-in-loop-i.ensures.0)

pub loop-i-preserved : goal.loop-i-preserved
loop-i-preserved c =
    let so = c.next_alike-i-in-loop-i.ensures in
    let other = c.before in
    let turn = other.before.before in
    let a = turn.args in
    let l = turn.loop-i in
    let on = others-passed a.names.now a.s.now a.at a.count (l.i + 1) _ so.0 so.1 so.2 in
    let not_same = sym other.same.ensures ∙ other.if-same.false in
    (omega arith, so.1, on (passed-more _ (rows_at _ _ _ turn.loop-i-test.true) not_same l.invariant.2))

pub returns : goal.returns
returns c =
    sym (found_none _ _ (rows-length _ _) c.loop-i-test.false c.loop-i.invariant.2)
    ∙ le_antisymm c.loop-i.invariant.1 c.loop-i-test.false
