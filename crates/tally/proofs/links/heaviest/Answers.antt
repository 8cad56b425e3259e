use Prim.Native.Nat.{◌+◌}
use mathlib.Core.Path.{refl, sym, subst}
use lib.ListN.{length}
use Rattle.voters.specs.Bits.{nobody}
use Rattle.voters.proofs.Weights.{nobody_weighs}
use Rattle.tally.specs.Chains.{voters_at}
use Rattle.tally.specs.Weights.{IsHeaviest}
use Rattle.tally.proofs.Heaviest.{heaviest-none, heaviest-marked, heaviest-unmarked}
use Rattle.tally.proofs.links.heaviest.Goals as goal
use Rattle.tally.proofs.links.heaviest.Goals.{else-marks-s, then-marks-s}

pub loop-s-init : goal.loop-s-init
loop-s-init c = (nobody_weighs _ _ nobody refl refl, heaviest-none _ _ _ _)

pub loop-s-preserved : goal.loop-s-preserved
loop-s-preserved c =
    let a = c.args in
    let s = c.loop-s.s in
    let bonds = a.bonds.now in
    let tally = voters_at a.voters.now in
    let Best = IsHeaviest bonds (length bonds) a.marks.now tally (s + 1) in
    let so = c.loop-s.invariant in
    elim c.if-marks-s.branch [
      | then-marks-s w ↦ subst Best (sym w.best-is) (
        w.heavier-best.ensures.0,
        heaviest-marked bonds (length bonds) a.marks.now tally s w.if-marks-s.true so.1 w.heavier-best.ensures.1,
      )
      | else-marks-s w ↦ subst Best (sym w.best-is) (
        so.0,
        heaviest-unmarked bonds (length bonds) a.marks.now tally s w.if-marks-s.false so.1,
      )
    ]
