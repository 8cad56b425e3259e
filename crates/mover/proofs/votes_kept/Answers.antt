use Prim.Native.Nat.{◌<◌}
use native.Mathlib.Omega.{arith}
use mathlib.Core.Path.{refl, ◌∙◌}
use mathlib.Core.Bool.{false, ◌&&◌}
use mathlib.Core.Path.{◌≡◌}
use lib.ListN.{get_or, length-set, length-replicate}
use Rattle.search.proofs.Filled.{each_more}
use Rattle.tables.specs.Places.{place_at}
use Rattle.state.proofs.Sound.{few-checkpoints, few-votes, source-held, target-held}
use Rattle.mover.proofs.Rows.{kept_at}
use Rattle.mover.proofs.votes_kept.Goals as goal
use Rattle.mover.proofs.votes_kept.Goals.{In-loop-i}

few : (c : In-loop-i) → c.loop-i.i < 4096
few c = omega (arith, c.loop-i-test.true, few-votes c.args.w.now c.requires.0)

-- the places of a vote
places : (c : In-loop-i) → let w = c.args.w.now in let i = c.loop-i.i in
    (place_at w.sources i < 512) × (place_at w.targets i < 512)
places c =
    let w = c.args.w.now in
    let sound = c.requires.0 in
    let i = c.loop-i.i in
    let most = few-checkpoints w sound in (
      omega (arith, source-held w sound i c.loop-i-test.true),
      omega (arith, target-held w sound i c.loop-i-test.true),
    )

pub loop-i-init : goal.loop-i-init
loop-i-init c = (length-replicate 4096 false, λ j h. absurd (omega arith))

pub offset_bounds-w-i : goal.offset_bounds-w-i
offset_bounds-w-i c = omega (arith, few (goal.at.offset_bounds-w-i c).In-loop-i)

pub bounds-w-i : goal.bounds-w-i
bounds-w-i c = omega (arith, few (goal.at.bounds-w-i c).In-loop-i)

pub offset_bounds-w-i-in-loop-i : goal.offset_bounds-w-i-in-loop-i
offset_bounds-w-i-in-loop-i c = omega (arith, few (goal.at.offset_bounds-w-i-in-loop-i c).In-loop-i)

pub bounds-w-i-in-loop-i : goal.bounds-w-i-in-loop-i
bounds-w-i-in-loop-i c = omega (arith, few (goal.at.bounds-w-i-in-loop-i c).In-loop-i)

pub bounds-k-source : goal.bounds-k-source
bounds-k-source c = (places (goal.at.bounds-k-source c).In-loop-i).0

pub bounds-k-target : goal.bounds-k-target
bounds-k-target c = (places (goal.at.bounds-k-target c).In-loop-i).1

pub bounds-v-i : goal.bounds-v-i
bounds-v-i c = omega (arith, few (goal.at.bounds-v-i c).In-loop-i)

pub loop-i-preserved : goal.loop-i-preserved
loop-i-preserved c =
    let l = c.loop-i in
    let w = c.args.w.now in
    let stays = c.args.k.now.stays in (
      simp length-set l.invariant.0,
      each_more
          (λ j b. b ≡ (get_or stays (place_at w.sources j) false && get_or stays (place_at w.targets j) false))
          false
          l.i
          l.v
          _
          (omega (arith, few (goal.at.loop-i-preserved c).In-loop-i))
          refl
          l.invariant.1,
    )

pub returns : goal.returns
returns c =
    λ i h. c.loop-i.invariant.1 i (omega arith) ∙ kept_at c.args.w.now c.requires.0 c.args.r.0 c.requires.1 i h
