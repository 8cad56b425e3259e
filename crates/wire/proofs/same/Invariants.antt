-- `wire::same` meets its contract. The loop's invariant: `eq` says whether the `k` bytes passed are the same.
use mathlib.Core.Path.{◌≡◌}
use Rattle.model.specs.Bytes.{part}
use Rattle.model.specs.Lists.{same_bytes}
use Rattle.wire.proofs.same.Given as goal

abbrev pub invariant-loop-k : goal.invariant-loop-k
invariant-loop-k l = l.eq ≡ same_bytes (part l.i l.k l.a) (part l.j l.k l.b)
