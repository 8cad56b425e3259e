use native.Mathlib.Omega.{arith}
use Prim.Native.Nat.{◌≤◌}
use Rattle.tally.proofs.Chains.{gathered_none, gathered_next, gathered_all}
use Rattle.tally.proofs.votes.gather.Goals as goal

pub loop-vote-init : goal.loop-vote-init
loop-vote-init c = gathered_none _ _ _ _ c.requires.blank

pub loop-vote-preserved : goal.loop-vote-preserved
loop-vote-preserved c =
    let is = c.in-Some.ensures in
    gathered_next _ _ _ _ _ _ _ _ c.loop-vote.voters c.insert.new.self
    (omega (arith, c.from-k.ensures, is.0, is.1))
    c.from-source.ensures
    c.from.ensures
    c.requires.walk
    c.loop-vote.invariant
    c.insert.ensures

pub returns : goal.returns
returns c =
    let none : c.loop-vote.at ≤ 0 = omega (arith, c.in_default.ensures) in
    gathered_all _ _ _ _ none c.loop-vote.invariant
