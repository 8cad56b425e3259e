-- `ballots::votes::cast` meets its contract: row 35, by the search for the vote. Assumes nothing.
use Prim.Native.Nat.{ℕ}
use mathlib.Core.Path.{◌≡◌, sym, ap, ◌∙◌}
use mathlib.Core.Bool.{Bool}
use lib.Dec.{eqb}
use lib.ListN.{get_or}
use Rattle.model.specs.Answer.{answer, row}
use Rattle.model.specs.Decide.{cast}
use Rattle.model.specs.Lists.{any_below}
use Rattle.model.specs.Model.{Model, Vote, vote_for, vote_held}
use Rattle.state.specs.Tables.{KeysHeld}
use Rattle.ballots.proofs.votes.cast.Goals as goal
use Rattle.ballots.proofs.votes.cast.Goals.{After-contains}

abbrev vote : After-contains → Vote
vote c = let a = c.args in vote_for a.voter a.link.source.0 a.link.target.0

held-is : (c : After-contains) {m : Model} → let a = c.args in
    KeysHeld m a.links.now.numbers a.votes → vote_held m.votes (vote c) ≡ c.contains.result
held-is c held =
    let a = c.args in
    let key = c.key.ensures in
    held.held _ key.1 key.2
    ∙ ap (λ (x : ℕ). any_below a.votes (λ k. eqb (get_or a.links.now.numbers k 0) x)) (sym key.0)
    ∙ sym c.contains.ensures

pub returns-then-contains : goal.returns-then-contains
unfolding row cast
returns-then-contains c =
    let l = (goal.at.returns-then-contains c).After-contains in
    λ m held. sym (ap (λ (b : Bool). row 35 b (answer (vote l))) (held-is l held ∙ c.if-contains.true))

pub returns : goal.returns
unfolding row cast
returns c =
    let l = (goal.at.returns c).After-contains in
    λ m held. sym (ap (λ (b : Bool). row 35 b (answer (vote l))) (held-is l held ∙ c.if-contains.false))
