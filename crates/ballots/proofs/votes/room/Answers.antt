-- `ballots::votes::room` meets its contract: row 36, on what the rows before it made of a vote, refusals too. Assumes
-- nothing.
use mathlib.Core.Path.{sym, ap, ◌∙◌}
use mathlib.Core.Bool.{Bool}
use borrow.Author.Tests.{le-leb, lt-leb}
use lib.Dec.{leb}
use Rattle.std.specs.Prelude.{Result}
use Rattle.std.proofs.lemmas.Result.{err_from_is_err_and}
use Rattle.model.specs.Answer.{answer, row, and_then}
use Rattle.model.specs.Change.{add_vote}
use Rattle.model.specs.Decide.{room}
use Rattle.model.specs.Limits.{vote_limit}
use Rattle.model.specs.declared.Refusal.{Refusal}
use Rattle.ballots.specs.Ballot.{vote_in, ballot_of}
use Rattle.ballots.specs.declared.votes.Ballot.{Ballot}
use Rattle.ballots.proofs.votes.room.Goals as goal

pub returns-in_err-cast : goal.returns-in_err-cast
unfolding and_then
returns-in_err-cast c =
    λ m count.
    let p = err_from_is_err_and c.from_residual.result c.from_residual.ensures.1 in
    rw (p.1, p.2) (ap (λ (b : Result Ballot Refusal). and_then (ballot_of b) (room m)) (sym c.in_err-cast.was))

pub returns-then-votes-ge-MAX_VOTES : goal.returns-then-votes-ge-MAX_VOTES
unfolding row room and_then
returns-then-votes-ge-MAX_VOTES c =
    λ m count.
    let cast = c.in_ok-cast in
    sym
    (ap (λ (b : Result Ballot Refusal). and_then (ballot_of b) (room m)) cast.was
    ∙ ap (λ (b : Bool). row 36 b (answer (add_vote (vote_in cast.cast))))
    (ap (leb vote_limit) count ∙ le-leb _ _ c.if-votes-ge-MAX_VOTES.true))

pub returns : goal.returns
unfolding row room and_then
returns c =
    λ m count.
    let cast = c.in_ok-cast in
    sym
    (ap (λ (b : Result Ballot Refusal). and_then (ballot_of b) (room m)) cast.was
    ∙ ap (λ (b : Bool). row 36 b (answer (add_vote (vote_in cast.cast))))
    (ap (leb vote_limit) count ∙ lt-leb _ _ c.if-votes-ge-MAX_VOTES.false))
