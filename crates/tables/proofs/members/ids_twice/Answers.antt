use Prim.Native.Nat.{ℕ}
use native.Mathlib.Omega.{arith}
use mathlib.Core.Path.{◌∙◌}
use lib.Dec.{eqb}
use lib.ListN.{get_or}
use Rattle.search.proofs.Below.{pair-none, pair-more}
use Rattle.search.proofs.Pointwise.{any_taken}
use Rattle.tables.proofs.members.ids_twice.Goals as goal

pub loop-j-init : goal.loop-j-init
loop-j-init c = pair-none _

pub loop-j-preserved : goal.loop-j-preserved
loop-j-preserved c =
    pair-more _ _ c.loop-j.invariant
    (c.id_held-hit.ensures ∙ any_taken c.loop-j.j c.args.ids.now (λ (x : ℕ). eqb x (get_or c.args.ids.now c.loop-j.j 0)) (omega arith))
