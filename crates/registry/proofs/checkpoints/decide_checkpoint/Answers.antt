-- `registry::checkpoints::decide_checkpoint` meets its contract: its tests are rows 20 to 22, in their order. Assumes
-- nothing.
use Prim.Native.Nat.{ℕ}
use mathlib.Core.Path.{◌≡◌, refl, sym, ap, ◌∙◌}
use mathlib.Core.List.{List}
use mathlib.Core.Bool.{true}
use borrow.Author.Tests.{le-leb, lt-leb}
use lib.Dec.{leb}
use lib.ListN.{length, drop}
use Rattle.std.specs.Option.{is_some}
use Rattle.std.proofs.lemmas.Result.{err_from_is_err_and}
use Rattle.model.specs.Answer.{row}
use Rattle.model.specs.Bytes.{part}
use Rattle.model.specs.Change.{single}
use Rattle.model.specs.Limits.{checkpoint_limit}
use Rattle.model.specs.Model.{Model, name_held}
use Rattle.state.specs.Tables.{NamesHeld}
use Rattle.ballots.proofs.Linked.{none-is, some-is, found-some}
use Rattle.registry.proofs.Decided.{checkpoint-rows, checkpoint-taken, held-name, found_name}
use Rattle.registry.proofs.checkpoints.decide_checkpoint.Goals as goal
use Rattle.registry.proofs.checkpoints.decide_checkpoint.Goals.{After-is_some, After-find_name-2, In_ok-p, Start}

-- the bytes of the record
abbrev s : Start → List ℕ
s c = drop c.args.at c.args.log.now

-- the tables hold the names
abbrev Names : Start → Model → Type 0
Names c m = let a = c.args in NamesHeld m a.names.now (length a.heights.now)

-- rows 20 and 21, by the searches
own_name : (c : After-is_some) {m : Model} → Names (goal.at.After-is_some c).Start m → name_held m (part 1 32 (s (goal.at.After-is_some c).Start)) ≡ c.is_some.result
own_name c names = let a = c.args in held-name a.at 1 a.log.now names c.find_name.result c.find_name.ensures ∙ sym c.is_some.ensures

parent-name : (c : After-find_name-2) {m : Model} → Names (goal.at.After-find_name-2 c).Start m → name_held m (part 33 32 (s (goal.at.After-find_name-2 c).Start)) ≡ is_some c.find_name-2.result
parent-name c names = let a = c.args in held-name a.at 33 a.log.now names c.find_name-2.result c.find_name-2.ensures

pub returns-then-is_some : goal.returns-then-is_some
unfolding row
returns-then-is_some c =
    λ m names heights.
    ap single
    (sym
    (checkpoint-rows m _ (part 33 32 (s (goal.at.returns-then-is_some c).Start))
    (own_name (goal.at.returns-then-is_some c).After-is_some names ∙ c.if-is_some.true) refl refl))

pub returns-in_err-p : goal.returns-in_err-p
unfolding row
returns-in_err-p c =
    λ m names heights.
    let p = err_from_is_err_and c.from_residual.result c.from_residual.ensures.1 in
    let none = none-is _ c.find_name-2.result (sym c.ok_or.ensures.value ∙ c.in_err-p.was) in
    rw (p.1, p.2, none.1)
    (ap single
    (sym
    (checkpoint-rows m _ _ (own_name (goal.at.returns-in_err-p c).After-is_some names ∙ c.if-is_some.false)
    (parent-name (goal.at.returns-in_err-p c).After-find_name-2 names ∙ none.0) refl)))

parent-held : (c : In_ok-p) {m : Model} → Names (goal.at.In_ok-p c).Start m → name_held m (part 33 32 (s (goal.at.In_ok-p c).Start)) ≡ true
parent-held c names = parent-name (goal.at.In_ok-p c).After-find_name-2 names ∙ some-is _ c.find_name-2.result (sym c.ok_or.ensures.value ∙ c.in_ok-p.was)

pub returns-then-count-ge-MAX_CHECKPOINTS : goal.returns-then-count-ge-MAX_CHECKPOINTS
unfolding row
returns-then-count-ge-MAX_CHECKPOINTS c =
    λ m names heights.
    ap single
    (sym
    (checkpoint-rows m _ _ (own_name (goal.at.returns-then-count-ge-MAX_CHECKPOINTS c).After-is_some names ∙ c.if-is_some.false)
    (parent-held (goal.at.returns-then-count-ge-MAX_CHECKPOINTS c).In_ok-p names)
    (ap (leb checkpoint_limit) names.count ∙ le-leb _ _ c.if-count-ge-MAX_CHECKPOINTS.true)))

pub returns : goal.returns
unfolding row
returns c =
    λ m names heights.
    let a = c.args in
    let p = found-some _ _ _ c.find_name-2.result (sym c.ok_or.ensures.value ∙ c.in_ok-p.was) c.find_name-2.ensures in
    ap single
    (checkpoint-taken m _ _ (own_name (goal.at.returns c).After-is_some names ∙ c.if-is_some.false)
    (parent-held (goal.at.returns c).In_ok-p names)
    (ap (leb checkpoint_limit) names.count ∙ lt-leb _ _ c.if-count-ge-MAX_CHECKPOINTS.false)
    (found_name a.at 33 a.log.now names p.0)
    (heights.height c.in_ok-p.p p.1))
