-- `ballots::links::check_link` meets its contract: its tests are rows 33 and 34, in their order. Assumes nothing.
use mathlib.Core.Path.{◌≡◌, refl, sym, ◌∙◌}
use lib.ListN.{length}
use Rattle.model.specs.Answer.{row}
use Rattle.model.specs.Decide.{heights_agree}
use Rattle.model.specs.Model.{Model}
use Rattle.model.specs.Tree.{ancestor?}
use Rattle.state.specs.Tables.{HeightsHeld, AncestorsHeld}
use Rattle.ballots.specs.Ballot.{link_in}
use Rattle.ballots.proofs.Linked.{between-rows, heights_are}
use Rattle.ballots.proofs.links.check_link.Goals as goal
use Rattle.ballots.proofs.links.check_link.Goals.{After-heights_agree, After-is_ancestor}

level-is : (c : After-heights_agree) {m : Model} → let a = c.args in
    HeightsHeld m a.view.now.heights.now (length a.view.now.parents.now)
    → heights_agree m (link_in a.link) a.source_height.0 a.target_height.0 ≡ c.heights_agree.result
level-is c held = heights_are held _ _ _ c.requires.1 c.requires.2 ∙ sym c.heights_agree.ensures

climb-is : (c : After-is_ancestor) {m : Model} → let a = c.args in
    AncestorsHeld m a.view.now.parents.now (length a.view.now.parents.now)
    → ancestor? m.checkpoints a.link.source.0 a.link.target.0 ≡ c.is_ancestor.result
climb-is c held = held.ancestor _ _ ∙ sym (c.is_ancestor.ensures _ c.requires.2 c.requires.0.falling)

pub returns-then-not-heights_agree : goal.returns-then-not-heights_agree
unfolding row
returns-then-not-heights_agree c =
    λ m heights ancestors. sym (between-rows m _ _ _ (level-is (goal.at.returns-then-not-heights_agree c).After-heights_agree heights ∙ c.if-not-heights_agree.true) refl)

pub returns-then-not-is_ancestor : goal.returns-then-not-is_ancestor
unfolding row
returns-then-not-is_ancestor c =
    λ m heights ancestors.
    sym
    (between-rows m _ _ _ (level-is (goal.at.returns-then-not-is_ancestor c).After-heights_agree heights ∙ c.if-not-heights_agree.false)
    (climb-is (goal.at.returns-then-not-is_ancestor c).After-is_ancestor ancestors ∙ c.if-not-is_ancestor.true))

pub returns : goal.returns
unfolding row
returns c =
    λ m heights ancestors.
    sym
    (between-rows m _ _ _ (level-is (goal.at.returns c).After-heights_agree heights ∙ c.if-not-heights_agree.false)
    (climb-is (goal.at.returns c).After-is_ancestor ancestors ∙ c.if-not-is_ancestor.false))
