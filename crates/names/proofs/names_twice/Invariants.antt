-- `names::names_twice` meets its contract. The loop's invariant: none of the `j` names passed stands twice, and their
-- slots are marked. Assumes nothing.
use Prim.Native.Nat.{◌*◌}
use mathlib.Core.Path.{◌≡◌}
use mathlib.Core.Bool.{false}
use Rattle.model.specs.Bytes.{part}
use Rattle.model.specs.Lists.{pair_below, same_bytes}
use Rattle.names.proofs.Slots.{Marked}
use Rattle.names.proofs.names_twice.Given as goal

abbrev pub invariant-loop-j : goal.invariant-loop-j
invariant-loop-j l =
    (false ≡ pair_below l.j (λ a b. same_bytes (part (a * 32) 32 l.names) (part (b * 32) 32 l.names)))
    × Marked l.names l.marked l.j
