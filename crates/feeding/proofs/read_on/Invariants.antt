-- `feeding::read_on` meets its contract. The loop's invariant: the text so far, and what reading on from here comes to, is the
-- whole (`Sofar`); and there are 1024 rows. The measure is how many record numbers are left. Assumes nothing.
use Prim.Native.Nat.{◌+◌, ◌-◌}
use mathlib.Core.Path.{◌≡◌}
use lib.ListN.{length, drop}
use Rattle.feeding.specs.Feed.{feed_from, last_number}
use Rattle.feeding.proofs.Onward.{Sofar}
use Rattle.feeding.proofs.read_on.Given as goal

abbrev pub invariant-loop-buf : goal.invariant-loop-buf
invariant-loop-buf l =
    (length l.rows ≡ 1024) × Sofar (feed_from (length (drop l.at l.log) + 1) (length l.initial.buf) l.initial.held l.records (drop l.at l.log)) l.log l.at l.initial.buf l.buf l.held l.k l.next l.end

abbrev pub decreases-loop-buf : goal.decreases-loop-buf
decreases-loop-buf l = last_number - l.k
