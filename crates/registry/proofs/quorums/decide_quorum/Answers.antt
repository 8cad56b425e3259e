-- `registry::quorums::decide_quorum` meets its contract: its tests are rows 63 and 64, in their order. Assumes nothing.
use mathlib.Core.Path.{◌≡◌, refl, sym, ap, ◌∙◌}
use lib.ListN.{drop}
use Rattle.model.specs.Answer.{answer, row}
use Rattle.model.specs.Bytes.{field}
use Rattle.model.specs.Change.{give_quota, single}
use Rattle.model.specs.Model.{Model}
use Rattle.model.specs.Rule.{given?, permitted?}
use Rattle.model.specs.declared.Quota.{Quota}
use Rattle.state.specs.State.{rule_of, quota_in}
use Rattle.registry.proofs.Decided.{quota-read, quorum-rows}
use Rattle.registry.proofs.quorums.decide_quorum.Goals as goal
use Rattle.registry.proofs.quorums.decide_quorum.Goals.{After-is_given, After-is_permitted, Start}

-- the record's quota
abbrev quota : Start → Quota
quota c = let s = drop c.args.at c.args.log.now in record { p = field 1 2 s; q = field 3 2 s }

read : (c : After-is_permitted)
    → record { p = c.be16.result; q = c.be16-2.result } ≡ quota (goal.at.After-is_permitted c).Start
read c =
    let a = c.args in
    quota-read a.at a.log.now c.be16.ensures c.be16-2.ensures

permitted-is : (c : After-is_permitted) → permitted? (quota (goal.at.After-is_permitted c).Start) ≡ c.is_permitted.result
permitted-is c = ap permitted? (sym (read (goal.at.After-is_permitted c).After-is_permitted)) ∙ sym c.is_permitted.ensures

given_is : (c : After-is_given) (m : Model) → m.rule ≡ rule_of (quota_in c.args.numbers)
    → given? m.rule ≡ c.is_given.result
given_is c m held = ap given? held ∙ sym c.is_given.ensures

pub returns-then-fixed : goal.returns-then-fixed
unfolding row
returns-then-fixed c = λ m fixed held. ap single (sym (quorum-rows m _ (fixed ∙ c.if-fixed.true) refl refl))

pub returns-then-not-is_permitted : goal.returns-then-not-is_permitted
unfolding row
returns-then-not-is_permitted c =
    λ m fixed held.
    ap single (sym (quorum-rows m _ (fixed ∙ c.if-fixed.false) (permitted-is (goal.at.returns-then-not-is_permitted c).After-is_permitted ∙ c.if-not-is_permitted.true) refl))

pub returns-then-is_given : goal.returns-then-is_given
unfolding row
returns-then-is_given c =
    λ m fixed held.
    ap single
    (sym
    (quorum-rows m _ (fixed ∙ c.if-fixed.false) (permitted-is (goal.at.returns-then-is_given c).After-is_permitted ∙ c.if-not-is_permitted.false)
    (given_is (goal.at.returns-then-is_given c).After-is_given m held ∙ c.if-is_given.true)))

pub returns : goal.returns
unfolding row
returns c =
    λ m fixed held.
    ap single
    (ap (λ (k : Quota). answer (give_quota k)) (read (goal.at.returns c).After-is_permitted)
    ∙ sym
    (quorum-rows m _ (fixed ∙ c.if-fixed.false) (permitted-is (goal.at.returns c).After-is_permitted ∙ c.if-not-is_permitted.false)
    (given_is (goal.at.returns c).After-is_given m held ∙ c.if-is_given.false)))
