use native.Mathlib.Omega.{arith}
use Rattle.tables.proofs.Ancestry.{walked, walk_ends}
use Rattle.tables.proofs.tree.is_ancestor.Goals as goal

pub loop-at-preserved : goal.loop-at-preserved
loop-at-preserved c =
    let so = c.loop-at.invariant in
    let falls = c.requires.1 c.loop-at.at.0 (omega arith) (omega arith) in (
      omega arith,
      λ count inside falling. walked _ _ _ _ _ falling c.loop-at-test.true so.0 (omega arith) (so.1 count inside falling),
    )

pub returns : goal.returns
returns c = λ count inside falling.
    walk_ends _ _ _ _ _ falling c.loop-at-test.false (c.loop-at.invariant.1 count inside falling)
