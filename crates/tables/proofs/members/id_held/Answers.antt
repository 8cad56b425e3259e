use mathlib.Core.Bool.{false}
use Rattle.search.proofs.Below.{any_none, any-more}
use Rattle.tables.proofs.members.id_held.Goals as goal

pub loop-held-init : goal.loop-held-init
loop-held-init c = any_none false _

pub loop-held-preserved : goal.loop-held-preserved
loop-held-preserved c = any-more false _ _ c.loop-held.invariant
