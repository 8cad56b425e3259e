-- The loop's invariant: none of the places passed is set.
use Prim.Native.Nat.{ℕ, ◌≤◌, ◌<◌}
use mathlib.Core.Path.{◌≡◌}
use mathlib.Core.Bool.{false}
use Rattle.model.specs.Bits.{bit_set}
use Rattle.model.specs.Bytes.{part}
use Rattle.bits.proofs.any_from.Given as goal

abbrev pub invariant-loop-p : goal.invariant-loop-p
invariant-loop-p l = (k : ℕ) → l.from ≤ k → k < l.p → bit_set (part l.at 16 l.s) k ≡ false
