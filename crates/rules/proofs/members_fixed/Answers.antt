-- `rules::members_fixed` meets its contract: row 10's condition, of the counts and the root's height. Assumes nothing.
use mathlib.Core.Bool.{◌||◌}
use lib.Dec.{ltb}
use Rattle.model.specs.Decide.{members_fixed}
use Rattle.rules.proofs.members_fixed.Goals as goal

pub returns : goal.returns
unfolding members_fixed
returns c m links held i =
    ltb 0 (held.keys_held.count i)
    || ltb 1 (held.names-held.count i)
    || ltb 0 (held.heights-held.height 0 c.requires.rooted i)
