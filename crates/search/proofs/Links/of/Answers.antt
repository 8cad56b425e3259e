use Prim.Native.Nat.{ℕ}
use lib.ListN.{length-replicate}
use Rattle.search.proofs.Chains.{indexed-none}
use Rattle.search.proofs.Filled.{filled_none}
use Rattle.search.proofs.Links.of.Goals as goal

pub loop-k-init : goal.loop-k-init
loop-k-init c = (indexed-none, filled_none 0 4096 _ _ (length-replicate {A = ℕ} 4096 0))
