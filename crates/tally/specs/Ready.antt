-- The votes of a sound state, ready to be counted.
use Rattle.std.specs.Prelude.{◌≡◌, length, take}
use Rattle.model.specs.Limits.{vote_limit}
use Rattle.state.specs.declared.Witness.{Witness}
use Rattle.state.specs.Sound.{Sound}
use Rattle.state.specs.State.{model_of}
use Rattle.voters.specs.Weights.{IsBar}
use Rattle.tally.specs.declared.votes.Ballots.{Ballots}
use Rattle.tally.specs.Chains.{Placed, ByTarget}

-- each vote's member is found, the votes are in chains by target, and the bar is that of the
-- rule held and all members
pub record Ready (w : Witness) (b : Ballots) : Type 0 where
  pub sound : Sound w
  pub long : length b.who ≡ vote_limit
  pub found : Placed (take w.member_count w.ids) w.voters w.vote_count b.who
  pub chained : ByTarget w.targets w.vote_count b.chains.head b.chains.next
  pub bar : IsBar (model_of w) b.bar
