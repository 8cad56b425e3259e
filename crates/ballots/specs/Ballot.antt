-- What rows 30 to 36, or some of them, make of a vote: of the link that it names, and of the vote.
use Rattle.std.specs.Prelude.{ℕ, ◌<◌, Result, IfOk}
use Rattle.model.specs.Answer.{Answer, and_then}
use Rattle.model.specs.Change.{Change, add_vote, Decision, single}
use Rattle.model.specs.Decide.{cast, room}
use Rattle.model.specs.Model.{Model, Vote, Link as HeldLink, link, vote_for}
use Rattle.model.specs.Refusals.{answer_of}
use Rattle.model.specs.declared.Refusal.{Refusal}
use Rattle.ballots.specs.declared.links.Link.{Link}
use Rattle.ballots.specs.declared.votes.Ballot.{Ballot}

abbrev pub link_in : Link → HeldLink
link_in l = link l.source.0 l.target.0

abbrev pub link_answer_of : Result Link Refusal → Answer HeldLink
link_answer_of r = answer_of link_in r

-- its places are below the number of checkpoints
abbrev pub Within : ℕ → Result Link Refusal → Type 0
Within n r = IfOk r (λ l. (l.source.0 < n) × (l.target.0 < n))

abbrev pub vote_in : Ballot → Vote
vote_in b = vote_for b.voter b.source.0 b.target.0

abbrev pub ballot_of : Result Ballot Refusal → Answer Vote
ballot_of r = answer_of vote_in r

-- with row 36: what is to be held
abbrev pub change_of : Result Ballot Refusal → Answer Change
change_of r = answer_of (λ b. add_vote (vote_in b)) r

-- rows 35 and 36, on a held member's vote for a link that rows 31 to 34 passed or refused
unfoldable pub cast_vote : Model → Answer HeldLink → ℕ → Decision
cast_vote m l id = single (and_then (and_then l (cast m id)) (room m))
