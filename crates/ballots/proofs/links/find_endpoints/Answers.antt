-- `ballots::links::find_endpoints` meets its contract: its tests are rows 31 and 32, in their order. Assumes nothing.
use Prim.Native.Nat.{◌+◌}
use mathlib.Core.Path.{refl, sym, ◌∙◌}
use Rattle.std.proofs.lemmas.Result.{err_from_is_err_and}
use Rattle.model.specs.Answer.{row, and_then}
use Rattle.ballots.proofs.Linked.{link-rows, found_at, held-none, held-some, found-none, found-some}
use Rattle.ballots.proofs.links.find_endpoints.Goals as goal

pub returns-in_err-s-clause-target_height_value : goal.returns-in_err-s-clause-target_height_value
unfolding row and_then
returns-in_err-s-clause-target_height_value c =
    λ m h k names.
    let a = c.args in
    let p = err_from_is_err_and c.from_residual.result c.from_residual.ensures.1 in
    let none = found-none _ _ _ c.find_name.result (sym c.ok_or.ensures.value ∙ c.in_err-s.was) c.find_name.ensures in
    rw (p.1, p.2, none.1) (sym (link-rows m _ _ h k (held-none a.from a.log.now names none.0) refl refl refl))

pub returns-in_err-t-clause-target_height_value : goal.returns-in_err-t-clause-target_height_value
unfolding row and_then
returns-in_err-t-clause-target_height_value c =
    λ m h k names.
    let a = c.args in
    let p = err_from_is_err_and c.from_residual-in_err-t.result c.from_residual-in_err-t.ensures.1 in
    let s = found-some _ _ _ c.find_name.result (sym c.ok_or.ensures.value ∙ c.in_ok-s.was) c.find_name.ensures in
    let none = found-none _ _ _ c.find_name-2.result (sym c.ok_or-2.ensures.value ∙ c.in_err-t.was) c.find_name-2.ensures in
    rw (p.1, p.2, none.1)
    (sym
    (link-rows m _ _ h k (held-some a.from a.log.now names s) (held-none (a.from + 32) a.log.now names none.0) refl refl))

pub returns-clause-target_height_value : goal.returns-clause-target_height_value
unfolding row and_then
returns-clause-target_height_value c =
    λ m h k names.
    let a = c.args in
    let s = found-some _ _ _ c.find_name.result (sym c.ok_or.ensures.value ∙ c.in_ok-s.was) c.find_name.ensures in
    let t = found-some _ _ _ c.find_name-2.result (sym c.ok_or-2.ensures.value ∙ c.in_ok-t.was) c.find_name-2.ensures in
    sym
    (link-rows m _ _ h k (held-some a.from a.log.now names s) (held-some (a.from + 32) a.log.now names t)
    (found_at a.from a.log.now names s.0) (found_at (a.from + 32) a.log.now names t.0))
