-- The loop's invariant: how many of the places below `p` are set.
use mathlib.Core.Path.{◌≡◌}
use lib.ListN.{length}
use Rattle.model.specs.Bytes.{part}
use Rattle.bits.proofs.SetPlaces.{set_below}
use Rattle.bits.proofs.number.Given as goal

abbrev pub invariant-loop-p : goal.invariant-loop-p
invariant-loop-p l = l.n ≡ length (set_below (part l.at 16 l.s) l.p)
