-- `checker::check_entries` meets its contract. The loop's invariant: the entries left, from this floor and sum on, come
-- to what all of them come to; and the sum is at most the largest bond for each id below the floor. Assumes nothing.
use Prim.Native.Nat.{◌≤◌, ◌-◌, ◌+◌, ◌*◌}
use mathlib.Core.Path.{◌≡◌}
use lib.ListN.{drop}
use Rattle.model.specs.Checker.{entries, check_from}
use Rattle.model.specs.Limits.{bond_limit}
use Rattle.state.specs.State.{model_of}
use Rattle.checker.proofs.check_entries.Given as goal

abbrev pub invariant-loop-i : goal.invariant-loop-i
invariant-loop-i l =
    (l.floor ≤ 65536)
    × (l.sum ≤ bond_limit * l.floor)
    × (check_from (model_of l.w) l.floor l.sum (entries (l.count - l.i) (drop (7 + 6 * l.i) l.list))
    ≡ check_from (model_of l.w) 0 0 (entries l.count (drop 7 l.list)))
