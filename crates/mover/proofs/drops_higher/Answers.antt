use Prim.Native.Nat.{ℕ, ◌<◌}
use native.Mathlib.Omega.{arith}
use mathlib.Core.Path.{◌≡◌, sym, ◌∙◌}
use mathlib.Core.Bool.{Bool, false}
use Rattle.model.proofs.Lists.{found_below}
use Rattle.search.proofs.Below.{any_none, any-more}
use Rattle.tables.specs.Places.{place_at, height_at}
use Rattle.state.proofs.Sound.{few-checkpoints, few-votes, target-held}
use Rattle.mover.proofs.Rows.{drops_at, drops_higher_lem}
use Rattle.mover.proofs.drops_higher.Goals as goal
use Rattle.mover.proofs.drops_higher.Goals.{In-loop-i, Start}

few : (c : In-loop-i) → c.loop-i.i < 4096
few c = omega (arith, c.loop-i-test.true, few-votes c.args.w.now c.requires.0)

target : (c : In-loop-i) → place_at c.args.w.now.targets c.loop-i.i < 512
target c =
    let w = c.args.w.now in
    let sound = c.requires.0 in
    omega (arith, target-held w sound c.loop-i.i c.loop-i-test.true, few-checkpoints w sound)

-- the votes that row 72 asks for
abbrev drops : Start → ℕ → Bool
drops s =
    let w = s.args.w.now in
    let r = s.args.r.0 in
    drops_at w s.requires.0 r s.args.votes.now s.requires.2 (height_at w.heights r)

pub bounds-w-r : goal.bounds-w-r
bounds-w-r c = omega (arith, c.requires.1, few-checkpoints c.args.w.now c.requires.0)

pub loop-i-init : goal.loop-i-init
loop-i-init c = any_none false _

pub offset_bounds-w-i : goal.offset_bounds-w-i
offset_bounds-w-i c = omega (arith, few (goal.at.offset_bounds-w-i c).In-loop-i)

pub bounds-w-i : goal.bounds-w-i
bounds-w-i c = omega (arith, few (goal.at.bounds-w-i c).In-loop-i)

pub bounds-w-target : goal.bounds-w-target
bounds-w-target c = omega (arith, target (goal.at.bounds-w-target c).In-loop-i)

pub bounds-votes-i : goal.bounds-votes-i
bounds-votes-i c = omega (arith, few (goal.at.bounds-votes-i c).In-loop-i, c.requires.3)

pub returns-then-votes-i : goal.returns-then-votes-i
returns-then-votes-i c =
    let a = c.args in
    sym (found_below a.w.now.vote_count (drops (goal.at.returns-then-votes-i c).Start) c.loop-i.i c.loop-i-test.true c.if-votes-i.true)
    ∙ drops_higher_lem a.w.now c.requires.0 a.r.0 a.votes.now c.requires.2 c.requires.1

pub loop-i-preserved : goal.loop-i-preserved
loop-i-preserved c =
    sym c.if-votes-i.false ∙ any-more false _ _ c.loop-i.invariant

pub returns : goal.returns
returns c =
    let l = c.loop-i in
    let a = c.args in
    let all : l.i ≡ a.w.now.vote_count = omega arith in
    (rw all at l.invariant)
    ∙ drops_higher_lem a.w.now c.requires.0 a.r.0 a.votes.now c.requires.2 c.requires.1
