use Prim.Native.Nat.{◌<◌}
use native.Mathlib.Omega.{arith}
use mathlib.Core.Path.{ap}
use lib.ListN.{get_or}
use Rattle.model.specs.declared.Place.{Place}
use Rattle.state.specs.State.{place}
use Rattle.pruning.proofs.Parts.{votes-none, votes-all, vote-source, vote-target}
use Rattle.pruning.proofs.Parts.{votes-keep, votes-drop}
use Rattle.pruning.proofs.prune_votes.Goals as goal
use Rattle.pruning.proofs.prune_votes.Goals.{In-loop-j, else-k-source, then-k-source}

-- the vote that is looked at is as it was, so its places can be looked up
inside : (c : In-loop-j)
    → ((get_or c.loop-j.w.sources c.loop-j.j (place 0)).0 < 512)
    × ((get_or c.loop-j.w.targets c.loop-j.j (place 0)).0 < 512)
inside c =
    let l = c.loop-j in
    let fits = c.requires.0 in (
      omega (arith, fits.sources l.j c.loop-j-test.true, ap (λ (x : Place). x.0) (vote-source _ _ l.invariant)),
      omega (arith, fits.targets l.j c.loop-j-test.true, ap (λ (x : Place). x.0) (vote-target _ _ l.invariant)),
    )

pub loop-j-init : goal.loop-j-init
loop-j-init c = votes-none _ _

pub bounds-k-source : goal.bounds-k-source
bounds-k-source c = omega (arith, inside (goal.at.bounds-k-source c).In-loop-j)

pub bounds-k-target : goal.bounds-k-target
bounds-k-target c = omega (arith, inside (goal.at.bounds-k-target c).In-loop-j)

pub loop-j-preserved : goal.loop-j-preserved
loop-j-preserved c =
    let so = c.loop-j.invariant in
    elim c.if-k-source.branch [
      | then-k-source t ↦
          votes-keep _ _ so c.requires.1 (omega (arith, c.requires.0.few)) t.if-k-source.true
          t.w-is t.n-is
      | else-k-source t ↦ votes-drop _ _ so t.if-k-source.false t.w-is t.n-is
    ]

pub returns : goal.returns
returns c = let l = c.loop-j in votes-all _ _ l.auto.j-end c.loop-j-test.false l.invariant
