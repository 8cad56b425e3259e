-- `entries::last_votes` meets its contract. The loop's invariant: the first `i` rows stand at the front. Assumes nothing.
use Prim.Native.Nat.{◌%◌}
use mathlib.Core.List.{map}
use lib.ListN.{replicate}
use Rattle.model.specs.Bytes.{part}
use Rattle.entries.specs.Entries.{Written}
use Rattle.entries.proofs.last_votes.Given as goal

abbrev pub invariant-loop-i : goal.invariant-loop-i
invariant-loop-i l = Written (map (λ e. e % 128) (part 0 l.i l.entry-items)) (replicate 128 0) l.votes l.i
