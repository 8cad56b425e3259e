-- `replay::read_rest` meets its contract. The loop's invariant: what was read, and what reading on from here comes to, is the
-- whole. The measure is how many bytes are left. Assumes nothing.
use Prim.Native.Nat.{◌-◌}
use mathlib.Core.Path.{◌≡◌}
use lib.ListN.{length}
use Rattle.model.specs.Answer.{answer}
use Rattle.model.specs.Change.{nothing_left}
use Rattle.replay.proofs.Onward.{rest}
use Rattle.replay.proofs.Calls.{Held}
use Rattle.replay.proofs.read_rest.Given as goal

abbrev pub invariant-loop-at : goal.invariant-loop-at
invariant-loop-at l =
    Held (rest (answer nothing_left) 0 l.initial.held l.limit l.log l.from) l.limit l.log l.last l.votes l.records l.held l.at × (length l.rows ≡ 1024)

abbrev pub decreases-loop-at : goal.decreases-loop-at
decreases-loop-at l = length l.log - l.at
