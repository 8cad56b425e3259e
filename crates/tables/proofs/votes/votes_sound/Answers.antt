use Rattle.search.proofs.Below.{all_none, all_more}
use Rattle.tables.proofs.votes.votes_sound.Goals as goal

pub loop-k-init : goal.loop-k-init
loop-k-init c = all_none _

pub loop-k-preserved : goal.loop-k-preserved
loop-k-preserved c = all_more _ _ c.loop-k.invariant c.vote_sound-ok.ensures
