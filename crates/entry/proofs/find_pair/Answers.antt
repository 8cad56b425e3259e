-- `entry::find_pair` meets its contract: its tests are rows 53 to 56, in their order. Assumes nothing.
use mathlib.Core.Path.{refl, sym, ap₂, ◌∙◌}
use mathlib.Core.Bool.{◌&&◌}
use borrow.Author.Tests.{lt-ltb, le-ltb}
use Rattle.model.specs.Answer.{row}
use Rattle.entry.proofs.Rows.{entry-rows, pair_found, id-lost, id-found, id-index}
use Rattle.entry.proofs.find_pair.Goals as goal

pub returns-then-id-floor : goal.returns-then-id-floor
unfolding row
returns-then-id-floor c =
    λ m ids voters.
    let a = c.args in
    entry-rows m a.floor a.at a.list.now c.be16-id.ensures refl refl
    (lt-ltb _ _ c.if-id-floor.true) refl refl refl

pub returns-in_default : goal.returns-in_default
unfolding row
returns-in_default c =
    λ m ids voters.
    let a = c.args in
    entry-rows m a.floor a.at a.list.now c.be16-id.ensures refl refl
    (le-ltb _ _ c.if-id-floor.false) (id-lost ids _ c.in_default.ensures) refl refl

pub returns-then-not-own : goal.returns-then-not-own
unfolding row
returns-then-not-own c =
    λ m ids voters.
    let o = c.before in
    let a = c.args in
    entry-rows m a.floor a.at a.list.now c.be16-id.ensures c.be16-earlier.ensures c.be16-later.ensures
    (le-ltb _ _ c.if-id-floor.false)
    (id-found ids _ c.in-Some.ensures)
    (sym (ap₂ ◌&&◌ (c.own_vote.ensures m voters) (c.own_vote-2.ensures m voters))
    ∙ c.if-not-own.true)
    refl

pub returns-then-later-earlier : goal.returns-then-later-earlier
unfolding row
returns-then-later-earlier c =
    λ m ids voters.
    let o = c.before.before in
    let a = c.args in
    entry-rows m a.floor a.at a.list.now c.be16-id.ensures c.be16-earlier.ensures c.be16-later.ensures
    (le-ltb _ _ c.if-id-floor.false)
    (id-found ids _ c.in-Some.ensures)
    (sym (ap₂ ◌&&◌ (c.own_vote.ensures m voters) (c.own_vote-2.ensures m voters))
    ∙ c.if-not-own.false)
    (le-ltb _ _ c.if-later-earlier.true)

pub returns : goal.returns
returns c =
    λ m ids voters.
    let o = c.before.before in
    let a = c.args in
    pair_found m a.floor a.at a.list.now c.be16-id.ensures c.be16-earlier.ensures c.be16-later.ensures
    (id-index ids _ c.in-Some.ensures)
    (le-ltb _ _ c.if-id-floor.false)
    (id-found ids _ c.in-Some.ensures)
    (sym (ap₂ ◌&&◌ (c.own_vote.ensures m voters) (c.own_vote-2.ensures m voters))
    ∙ c.if-not-own.false)
    (lt-ltb _ _ c.if-later-earlier.false)
