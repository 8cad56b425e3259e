use mathlib.Core.Path.{◌≡◌, refl, sym, ap, ap₂, ◌∙◌}
use mathlib.Core.Bool.{false, ◌&&◌, not}
use lib.ListN.{length}
use Rattle.model.proofs.Lists.{found_below, both}
use Rattle.tables.specs.Places.{tree_of}
use Rattle.search.proofs.Below.{any_none, any-more}
use Rattle.tally.specs.Marks.{final_at}
use Rattle.finality.specs.Answers.{stray}
use Rattle.finality.proofs.finals.strays.Goals as goal
use Rattle.finality.proofs.finals.strays.Goals.{else-is_final-via-then-is_final+else-not-is_ancestor, else-is_final-via-else-is_final}

pub loop-p-init : goal.loop-p-init
loop-p-init c = λ places h falls. any_none false _

pub returns-then-not-is_ancestor : goal.returns-then-not-is_ancestor
returns-then-not-is_ancestor c = λ places h falls.
    let a = c.args in
    let test = stray (final_at a.marks.now) (tree_of places a.parents.now) a.f.0 in
    sym
    (found_below (length a.marks.now) test c.loop-p.p c.loop-p-test.true
    (both (sym c.is_final.ensures ∙ c.if-is_final.true)
    (ap not (sym (c.is_ancestor.ensures places h falls) ∙ c.if-not-is_ancestor.true))))

-- a place passed does not stray: it is not final, or it is an ancestor
pub loop-p-preserved : goal.loop-p-preserved
loop-p-preserved c = λ places h falls.
    let a = c.args in
    let test = stray (final_at a.marks.now) (tree_of places a.parents.now) a.f.0 in
    let fails : test c.loop-p.p ≡ false = elim c.else-is_final.branch [
      | else-is_final-via-then-is_final+else-not-is_ancestor w ↦ ap₂ ◌&&◌
          (sym c.is_final.ensures ∙ w.if-is_final.true)
          (ap not (sym (w.is_ancestor.ensures places h falls) ∙ w.if-not-is_ancestor.false))
      | else-is_final-via-else-is_final w ↦ ap₂ ◌&&◌ (sym c.is_final.ensures ∙ w.if-is_final.false) refl
    ] in
    sym fails ∙ any-more false _ _ (c.loop-p.invariant places h falls)
