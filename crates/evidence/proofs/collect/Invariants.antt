-- `evidence::collect` meets its contract. The loop's invariant: the charges are those of the places so far. Assumes nothing.
use Prim.Native.Nat.{◌≤◌}
use mathlib.Core.Path.{◌≡◌}
use lib.ListN.{take}
use Rattle.evidence.specs.Listed.{charges_of, charges_at}
use Rattle.evidence.proofs.collect.Given as goal

abbrev pub invariant-loop-place : goal.invariant-loop-place
invariant-loop-place l = (l.charges.count ≤ l.place-index) × (charges_of l.charges ≡ charges_at l.ids l.shown (take l.place-index l.places))
