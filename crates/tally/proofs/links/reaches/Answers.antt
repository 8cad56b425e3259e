use mathlib.Core.Path.{◌≡◌, refl, sym, ap₂, ◌∙◌}
use mathlib.Core.Bool.{false, ◌&&◌}
use lib.ListN.{length}
use Rattle.model.proofs.Lists.{found_below, both}
use Rattle.search.proofs.Below.{any_none, any-more}
use Rattle.tally.proofs.links.reaches.Invariants.{leads}
use Rattle.tally.proofs.links.reaches.Goals as goal
use Rattle.tally.proofs.links.reaches.Goals.{else-marks-s-via-then-marks-s+else-carries, else-marks-s-via-else-marks-s}

pub loop-s-init : goal.loop-s-init
loop-s-init c = any_none false _

pub returns-then-carries : goal.returns-then-carries
returns-then-carries c =
    let a = c.args in
    sym
    (found_below (length a.voters.now) (leads a.marks.now a.bonds.now a.bar a.voters.now) c.loop-s.s c.loop-s-test.true
    (both c.if-marks-s.true (sym c.carries.ensures ∙ c.if-carries.true)))

-- a source passed does not lead on: it is not justified, or its link is not carried
pub loop-s-preserved : goal.loop-s-preserved
loop-s-preserved c =
    let a = c.args in
    let fails : leads a.marks.now a.bonds.now a.bar a.voters.now c.loop-s.s ≡ false =
    elim c.else-marks-s.branch [
      | else-marks-s-via-then-marks-s+else-carries w ↦ ap₂ ◌&&◌ w.if-marks-s.true
          (sym w.carries.ensures ∙ w.if-carries.false)
      | else-marks-s-via-else-marks-s w ↦ ap₂ ◌&&◌ w.if-marks-s.false refl
    ] in
    sym fails ∙ any-more false _ _ c.loop-s.invariant
