use Prim.Native.Nat.{◌+◌, ◌*◌, ◌-◌, ◌<◌}
use native.Mathlib.Omega.{arith}
use mathlib.Core.Path.{◌≡◌, ap, ◌∙◌}
use lib.ListN.{drop}
use lib.Seq.{paste}
use Rattle.pruning.proofs.Parts.{tree-none, tree_all, tree-parent, tree-keep, tree-drop}
use Rattle.pruning.proofs.prune_tree.Goals as goal
use Rattle.pruning.proofs.prune_tree.Goals.{After-parent_of, else-k-p, then-k-p}

-- the place that is looked up for the parent of one that stays
parent-inside : (c : After-parent_of) → c.parent_of.result < 512
parent-inside c =
    let l = c.loop-p in
    omega (
      arith,
      c.requires.0.parents l.p c.loop-p-test.true c.if-k-p.true,
      tree-parent _ _ _ l.invariant c.parent_of.ensures,
    )

pub loop-p-init : goal.loop-p-init
loop-p-init c = tree-none _ _ _

pub offset_bounds-k-parent_of : goal.offset_bounds-k-parent_of
offset_bounds-k-parent_of c = omega (arith, parent-inside (goal.at.offset_bounds-k-parent_of c).After-parent_of)

pub bounds-k-parent_of : goal.bounds-k-parent_of
bounds-k-parent_of c = parent-inside (goal.at.bounds-k-parent_of c).After-parent_of

pub loop-p-preserved : goal.loop-p-preserved
loop-p-preserved c =
    let so = c.loop-p.invariant in
    let l = c.loop-p in
    let bytes : l.p * 32 + 32 - l.p * 32 ≡ 32 = omega arith in
    elim c.if-k-p.branch [
      | then-k-p t ↦
          tree-keep _ _ _ so c.requires.1 (omega (arith, c.requires.0.few)) t.if-k-p.true
          (t.copy_within.ensures.after ∙ ap (paste l.w.names (l.n * 32) (drop (l.p * 32) l.w.names)) bytes) t.parent_of.ensures t.w-is t.n-is
      | else-k-p t ↦ tree-drop _ _ _ so t.if-k-p.false t.w-is t.n-is
    ]

pub returns : goal.returns
returns c = let l = c.loop-p in tree_all _ _ _ l.auto.p-end c.loop-p-test.false l.invariant
