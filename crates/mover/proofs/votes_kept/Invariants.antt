-- `mover::votes_kept` meets its contract. The loop's invariant: the first `i` entries are right. Assumes nothing.
use Prim.Native.Nat.{ℕ, ◌<◌}
use mathlib.Core.Path.{◌≡◌}
use mathlib.Core.Bool.{false, ◌&&◌}
use lib.ListN.{length, get_or}
use Rattle.tables.specs.Places.{place_at}
use Rattle.mover.proofs.votes_kept.Given as goal

abbrev pub invariant-loop-i : goal.invariant-loop-i
invariant-loop-i l =
    (length l.v ≡ 4096)
    × ((j : ℕ) → j < l.i
    → get_or l.v j false
    ≡ (get_or l.k.stays (place_at l.w.sources j) false && get_or l.k.stays (place_at l.w.targets j) false))
