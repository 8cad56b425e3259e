-- `tables::votes::votes_twice` meets its contract: the same votes are the same numbers. Assumes nothing.
use native.Mathlib.Omega.{arith}
use mathlib.Core.Path.{◌∙◌}
use lib.Dec.{eqb}
use Rattle.tables.proofs.Keys.{packed_same}
use Rattle.search.proofs.Pointwise.{pair_same, pair_taken}
use Rattle.tables.proofs.votes.votes_twice.Goals as goal

pub returns : goal.returns
returns c =
    c.numbers_twice.ensures ∙ pair_taken _ c.keys-keys.result eqb (omega (arith, c.requires.2, c.keys-keys.ensures.long))
    ∙ pair_same _ _ _ (λ i j h l. packed_same _ _ _ c.keys-keys.ensures i j (omega arith) l)
