-- `tables::votes::votes_sound` meets its contract. The loop's invariant: `ok` says whether the `k` votes passed are sound.
-- Assumes nothing.
use mathlib.Core.Path.{◌≡◌}
use lib.ListN.{get_or, length}
use Rattle.model.specs.Lists.{all_below}
use Rattle.tables.specs.Places.{place_at, is_sound}
use Rattle.tables.proofs.votes.votes_sound.Given as goal

abbrev pub invariant-loop-k : goal.invariant-loop-k
invariant-loop-k l =
    l.ok
    ≡ all_below l.k
    (λ i. is_sound (length l.ids) l.ids (length l.parents) l.parents (get_or l.voters i 0) (place_at l.sources i)
    (place_at l.targets i))
