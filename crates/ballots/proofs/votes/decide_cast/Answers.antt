-- `ballots::votes::decide_cast` meets its contract: row 35 by `cast`, then 36 by `room`. Assumes nothing.
use mathlib.Core.Path.{sym, ap, ◌∙◌}
use Rattle.std.proofs.lemmas.Result.{err_from_is_err_and}
use Rattle.model.specs.Answer.{and_then}
use Rattle.model.specs.Change.{single}
use Rattle.model.specs.Decide.{cast, room}
use Rattle.ballots.specs.Ballot.{link_answer_of, cast_vote}
use Rattle.ballots.proofs.votes.decide_cast.Goals as goal

pub returns-in_err-link : goal.returns-in_err-link
unfolding cast_vote and_then
returns-in_err-link c =
    λ m held.
    let p = err_from_is_err_and c.from_residual.result c.from_residual.ensures.1 in
    rw (p.1, p.2) (ap (λ l. single (and_then (and_then (link_answer_of l) (cast m c.args.voter)) (room m))) (sym c.in_err-link.was))

pub returns : goal.returns
unfolding cast_vote and_then
returns c =
    λ m held.
    ap single (c.room.ensures m held.count ∙ ap (λ a. and_then a (room m)) (c.cast-ballot.ensures m held))
    ∙ ap (λ l. single (and_then (and_then (link_answer_of l) (cast m c.args.voter)) (room m))) (sym c.in_ok-link.was)
