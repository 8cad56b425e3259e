use mathlib.Core.Path.{refl}
use Rattle.model.specs.Lists.{same_bytes}
use Rattle.wire.proofs.Compare.{same_more}
use Rattle.wire.proofs.same.Goals as goal

pub loop-k-init : goal.loop-k-init
unfolding same_bytes
loop-k-init c = refl

pub loop-k-preserved : goal.loop-k-preserved
loop-k-preserved c = same_more _ _ _ _ _ _ _ c.requires c.loop-k-test.true c.loop-k.invariant
