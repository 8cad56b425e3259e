-- `voters::Voters::add_bonds` meets its contract. The loop's invariant: the sum is that over the members passed.
-- Assumes nothing.
use mathlib.Core.Path.{◌≡◌}
use Rattle.voters.specs.Weights.{weight_of}
use Rattle.voters.proofs.Voters.add_bonds.Given as goal

abbrev pub invariant-loop-i : goal.invariant-loop-i
invariant-loop-i l = l.sum ≡ weight_of l.bonds l.i l.self
