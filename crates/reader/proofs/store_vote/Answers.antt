-- `reader::store_vote` meets its contract. Assumes nothing.
use mathlib.Core.Path.{refl, ap, ◌∙◌}
use lib.ListN.{set}
use Rattle.state.specs.State.{with_vote}
use Rattle.reader.proofs.Searched.{with_vote_lem}
use Rattle.reader.proofs.store_vote.Goals as goal

pub returns : goal.returns
unfolding with_vote
returns c =
    let w = c.args.held.now in
    let links = c.args.links.now in
    let key = c.key.ensures in (
      refl,
      with_vote_lem w c.requires.2 c.requires.0.votes _ c.requires.1 key.1 key.2
          (c.put_first.ensures.0 ∙ ap (set links.numbers w.vote_count) key.0) c.put_first.ensures.1,
    )
