use mathlib.Core.Bool.{false}
use Rattle.search.proofs.Below.{any_none, any-more}
use Rattle.search.proofs.is_held.Goals as goal

pub loop-n-init : goal.loop-n-init
loop-n-init c = any_none false _

pub loop-n-preserved : goal.loop-n-preserved
loop-n-preserved c = any-more false _ _ c.loop-n.invariant
