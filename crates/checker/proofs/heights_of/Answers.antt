-- `checker::heights_of` meets its contract: the vote and its places are held. Assumes nothing.
use native.Mathlib.Omega.{arith}
use Rattle.checker.proofs.Entries.{vote-inside, source-inside, target-inside}
use Rattle.checker.proofs.heights_of.Goals as goal

pub offset_bounds-w-vote : goal.offset_bounds-w-vote
offset_bounds-w-vote c = omega (arith, vote-inside _ c.requires.0 c.requires.1)

pub bounds-w-vote : goal.bounds-w-vote
bounds-w-vote c = vote-inside _ c.requires.0 c.requires.1

pub bounds-w-source : goal.bounds-w-source
bounds-w-source c = source-inside _ c.requires.0 c.requires.1

pub bounds-w-target : goal.bounds-w-target
bounds-w-target c = target-inside _ c.requires.0 c.requires.1

pub offset_bounds-w-vote-2 : goal.offset_bounds-w-vote-2
offset_bounds-w-vote-2 c = omega (arith, vote-inside _ c.requires.0 c.requires.1)

pub bounds-w-vote-2 : goal.bounds-w-vote-2
bounds-w-vote-2 c = vote-inside _ c.requires.0 c.requires.1
