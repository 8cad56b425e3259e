-- `entry::header_of` meets its contract: its tests are rows 50 to 52, in their order. Assumes nothing.
use mathlib.Core.Path.{refl, ◌∙◌}
use borrow.Author.Tests.{eq-eqb, ne_eqb}
use Rattle.model.specs.Answer.{row}
use Rattle.entry.proofs.Rows.{header-rows, too_short, not_exact, exact, mark-test, version-test}
use Rattle.entry.proofs.header_of.Goals as goal

pub returns-then-list-lt7 : goal.returns-then-list-lt7
unfolding row
returns-then-list-lt7 c =
    λ m.
    let l = c.args.list.now in
    header-rows m l refl (too_short l c.if-list-lt7.true) refl refl

pub returns-then-list-count : goal.returns-then-list-count
unfolding row
returns-then-list-count c =
    λ m.
    let l = c.args.list.now in
    let e = c.be16-count.ensures in
    header-rows m l e (not_exact l e c.if-list-count.true) refl refl

pub returns-then-not-same : goal.returns-then-not-same
unfolding row
returns-then-not-same c =
    λ m.
    let l = c.args.list.now in
    let e = c.be16-count.ensures in
    header-rows m l e (exact l e c.if-list-count.false) (mark-test l c.same.ensures ∙ c.if-not-same.true) refl

pub returns-then-be16-ne1 : goal.returns-then-be16-ne1
unfolding row
returns-then-be16-ne1 c =
    λ m.
    let l = c.args.list.now in
    let e = c.be16-count.ensures in
    header-rows m l e (exact l e c.if-list-count.false) (mark-test l c.same.ensures ∙ c.if-not-same.false)
    (version-test l c.be16.ensures ∙ ne_eqb _ _ c.if-be16-ne1.true)

pub returns : goal.returns
unfolding row
returns c =
    let l = c.args.list.now in
    let e = c.be16-count.ensures in
    record {
      exact = c.if-list-count.false;
      rest = λ m.
          header-rows m l e (exact l e c.if-list-count.false) (mark-test l c.same.ensures ∙ c.if-not-same.false)
          (version-test l c.be16.ensures ∙ eq-eqb _ _ c.if-be16-ne1.false);
    }
