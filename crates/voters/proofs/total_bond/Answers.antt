-- `voters::total_bond` meets its contract: every member is among those with every bit set. Assumes nothing.
use native.Mathlib.Omega.{arith}
use mathlib.Core.Path.{refl, ◌∙◌}
use Rattle.voters.proofs.Bits.{sum_same, all_among}
use Rattle.voters.proofs.total_bond.Goals as goal

pub returns : goal.returns
returns c =
    c.weigh.ensures ∙ sum_same _ _ _ _ _ (λ i h. all_among i (omega (arith, c.requires.fit))) (λ i h. refl)
