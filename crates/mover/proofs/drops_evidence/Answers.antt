use Prim.Native.Nat.{◌<◌}
use mathlib.Core.Path.{◌≡◌, sym, ◌∙◌}
use mathlib.Core.Bool.{true, false}
use lib.ListN.{length}
use Rattle.model.specs.Lists.{any_below}
use Rattle.model.proofs.Lists.{found_below}
use Rattle.search.proofs.Below.{any_none, any-more}
use Rattle.mover.specs.Moved.{charge_at, shows_dropped}
use Rattle.mover.proofs.drops_evidence.Goals as goal
use Rattle.mover.proofs.drops_evidence.Goals.{In-loop-charge}

-- the numbers that a charge shows are those of votes
inside : (c : In-loop-charge) → let a = c.args in let x = charge_at a.charges.now c.loop-charge.charge-index in
    (x.earlier < length a.votes.now) × (x.later < length a.votes.now)
inside c = c.requires c.loop-charge.charge-index c.loop-charge-test.true

-- a charge that shows a vote which does not stay ends the search
found : (c : In-loop-charge) → let a = c.args in
    shows_dropped a.votes.now a.charges.now c.loop-charge.charge-index ≡ true
    → true ≡ any_below (length a.charges.now) (shows_dropped a.votes.now a.charges.now)
found c e = sym (found_below _ _ c.loop-charge.charge-index c.loop-charge-test.true e)

pub loop-charge-init : goal.loop-charge-init
loop-charge-init c = any_none false _

pub bounds-votes-first : goal.bounds-votes-first
bounds-votes-first c = (inside (goal.at.bounds-votes-first c).In-loop-charge).0

pub bounds-votes-second : goal.bounds-votes-second
bounds-votes-second c = (inside (goal.at.bounds-votes-second c).In-loop-charge).1

pub returns-then-votes-first : goal.returns-then-votes-first
returns-then-votes-first c = found (goal.at.returns-then-votes-first c).In-loop-charge c.if-votes-first.true

pub loop-charge-preserved : goal.loop-charge-preserved
loop-charge-preserved c = sym c.if-votes-first.false ∙ any-more false _ _ c.loop-charge.invariant
