-- `state::check_header` meets its contract: its tests are rows 1 to 3, in their order. Assumes nothing.
use mathlib.Core.Path.{refl, sym, ap, ◌∙◌}
use borrow.Author.Tests.{lt-ltb, le-ltb, eq-eqb, ne_eqb}
use lib.Dec.{eqb}
use Rattle.model.specs.Answer.{row}
use Rattle.state.proofs.Header.{header-rows}
use Rattle.state.proofs.check_header.Goals as goal

pub returns-then-log-lt37-clause-outcome : goal.returns-then-log-lt37-clause-outcome
unfolding row
returns-then-log-lt37-clause-outcome c =
    sym (header-rows c.args.log.now (lt-ltb _ _ c.if-log-lt37.true) refl refl)

pub returns-then-not-has_mark-clause-outcome : goal.returns-then-not-has_mark-clause-outcome
unfolding row
returns-then-not-has_mark-clause-outcome c =
    sym
    (header-rows c.args.log.now (le-ltb _ _ c.if-log-lt37.false) (sym c.has_mark.ensures ∙ c.if-not-has_mark.true) refl)

pub returns-then-be16-ne1-clause-outcome : goal.returns-then-be16-ne1-clause-outcome
unfolding row
returns-then-be16-ne1-clause-outcome c =
    sym
    (header-rows c.args.log.now (le-ltb _ _ c.if-log-lt37.false) (sym c.has_mark.ensures ∙ c.if-not-has_mark.false)
    (ap (λ v. eqb v 1) (sym c.be16.ensures) ∙ ne_eqb _ _ c.if-be16-ne1.true))

pub returns-clause-outcome : goal.returns-clause-outcome
unfolding row
returns-clause-outcome c =
    sym
    (header-rows c.args.log.now (le-ltb _ _ c.if-log-lt37.false) (sym c.has_mark.ensures ∙ c.if-not-has_mark.false)
    (ap (λ v. eqb v 1) (sym c.be16.ensures) ∙ eq-eqb _ _ c.if-be16-ne1.false))
