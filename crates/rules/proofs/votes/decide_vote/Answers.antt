-- `rules::votes::decide_vote` meets its contract: rows 30 to 35 by `vote_of`, then 36 by `room`. Assumes nothing.
use mathlib.Core.Path.{ap, ◌∙◌}
use Rattle.std.proofs.lemmas.Result.{err_from_is_err_and}
use Rattle.model.specs.Answer.{and_then}
use Rattle.model.specs.Change.{single}
use Rattle.model.specs.Decide.{room, decide_vote}
use Rattle.rules.proofs.votes.decide_vote.Goals as goal

pub returns-in_err-ballot : goal.returns-in_err-ballot
unfolding decide_vote and_then
returns-in_err-ballot c =
    λ m held.
    let p = err_from_is_err_and c.from_residual.result c.from_residual.ensures.1 in
    rw (p.1, p.2)
    (ap single
    (c.in_err-ballot.ensures m held.keys_held.count
    ∙ ap (λ a. and_then a (room m)) (c.vote_of-passed.ensures m held)))

pub returns : goal.returns
unfolding decide_vote and_then
returns c =
    λ m held.
    ap single
    (c.in_ok-ballot.ensures m held.keys_held.count
    ∙ ap (λ a. and_then a (room m)) (c.vote_of-passed.ensures m held))
