use Prim.Native.Nat.{ℕ}
use native.Mathlib.Omega.{arith}
use lib.ListN.{length-set, length-replicate}
use mathlib.Core.Path.{◌∙◌}
use Rattle.search.proofs.Chains.{bucketed-none, bucketed-more}
use Rattle.tally.proofs.votes.bucket.Goals as goal

pub loop-k-init : goal.loop-k-init
loop-k-init c = record { long = length-replicate {A = ℕ} 512 0; chained = bucketed-none _ _ }

pub loop-k-preserved : goal.loop-k-preserved
loop-k-preserved c =
    let at = c.loop-k in
    rw c.from-at.ensures
    (record {
      long = length-set at.head _ _ ∙ at.invariant.long;
      chained = bucketed-more _ at.head at.next at.k at.invariant.long (omega arith)
          (c.requires.1 at.k c.loop-k-test.true) at.invariant.chained;
    })
