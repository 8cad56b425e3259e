use native.Mathlib.Omega.{arith}
use native.Mathlib.Nat.{sub-zero}
use mathlib.Core.Path.{◌≡◌, sym, ◌∙◌}
use mathlib.Core.List.{◌∷◌}
use Prim.Native.Nat.{◌-◌, ◌+◌, ◌*◌}
use lib.ListN.{drop}
use Rattle.std.proofs.lemmas.Result.{err_from_is_err_and}
use Rattle.model.specs.Answer.{row}
use Rattle.model.specs.Checker.{entries, check_from}
use Rattle.model.specs.Slashing.{heights_break}
use Rattle.state.specs.State.{model_of}
use Rattle.state.proofs.Sound.{few-members, few-votes}
use Rattle.entry.specs.Entry.{PairFound, entry_at}
use Rattle.checker.proofs.Entries.{ids-held, voters-held, next-entry, entries_none, first-held, last-held, bond-inside, bond-small, broken, last_row}
use Rattle.checker.proofs.check_entries.Goals as goal
use Rattle.checker.proofs.check_entries.Goals.{In_ok-pair, In-loop-i, After-breaks}

pub shared_ref_as_front-ids : goal.shared_ref_as_front-ids
shared_ref_as_front-ids c = few-members _ c.requires.0

pub shared_ref_as_front-voters : goal.shared_ref_as_front-voters
shared_ref_as_front-voters c = few-votes _ c.requires.0

-- what the entries from this one on come to
left : (c : In-loop-i)
    → let a = c.args in let l = c.loop-i in
    check_from (model_of a.w.now) l.floor l.sum
    (entry_at (7 + 6 * l.i) a.list.now ∷ entries (a.count - (l.i + 1)) (drop (7 + 6 * (l.i + 1)) a.list.now))
    ≡ check_from (model_of a.w.now) 0 0 (entries a.count (drop 7 a.list.now))
left c =
    let a = c.args in
    let l = c.loop-i in
    next-entry (model_of a.w.now) l.floor l.sum a.count l.i a.list.now c.loop-i-test.true l.invariant.2

-- what was found of the entry
pair : (c : In_ok-pair)
    → let p = c.in_ok-pair.pair in
    PairFound (model_of c.args.w.now) c.loop-i.floor (entry_at (7 + 6 * c.loop-i.i) c.args.list.now) p.member p.id p.earlier p.later
pair c = c.in_ok-pair.ensures (model_of c.args.w.now) (ids-held _ c.requires.0) (voters-held _ c.requires.0)

pub loop-i-init : goal.loop-i-init
loop-i-init c = (omega arith, omega arith, simp sub-zero)

pub returns-in_err-pair : goal.returns-in_err-pair
returns-in_err-pair c =
    let p = err_from_is_err_and c.from_residual.result c.from_residual.ensures.1 in
    rw (p.1, p.2)
    (sym (c.in_err-pair.ensures (model_of c.args.w.now) (ids-held _ c.requires.0) (voters-held _ c.requires.0) _ _)
    ∙ left (goal.at.returns-in_err-pair c).In-loop-i)

pub heights_of-requires : goal.heights_of-requires
heights_of-requires c = (c.requires.0, first-held _ c.requires.0 (pair (goal.at.heights_of-requires c).In_ok-pair))

pub heights_of-requires-in-loop-i : goal.heights_of-requires-in-loop-i
heights_of-requires-in-loop-i c = (c.requires.0, last-held _ c.requires.0 (pair (goal.at.heights_of-requires-in-loop-i c).In_ok-pair))

-- the test is row 57's
tested : (c : After-breaks) → broken c.args.w.now c.in_ok-pair.pair.earlier c.in_ok-pair.pair.later ≡ c.breaks.result
tested c =
    let a = c.heights_of.ensures in
    let b = c.heights_of-in-loop-i.ensures in
    sym (c.breaks.ensures ∙ (λ i. heights_break (a.0 i) (a.1 i) (b.0 i) (b.1 i)))

pub returns-then-not-breaks : goal.returns-then-not-breaks
unfolding row
returns-then-not-breaks c =
    let g = goal.at.returns-then-not-breaks c in
    sym (last_row _ c.requires.0 (pair g.In_ok-pair) _ _ (tested g.After-breaks ∙ c.if-not-breaks.true)) ∙ left g.In-loop-i

pub offset_bounds-w-pair : goal.offset_bounds-w-pair
offset_bounds-w-pair c = omega (arith, bond-inside _ c.requires.0 (pair (goal.at.offset_bounds-w-pair c).In_ok-pair))

pub bounds-w-pair : goal.bounds-w-pair
bounds-w-pair c = bond-inside _ c.requires.0 (pair (goal.at.bounds-w-pair c).In_ok-pair)

pub overflow_add-sum : goal.overflow_add-sum
overflow_add-sum c = omega (arith, bond-small _ c.requires.0 (pair (goal.at.overflow_add-sum c).In_ok-pair), c.loop-i.invariant)

pub loop-i-preserved : goal.loop-i-preserved
unfolding row
loop-i-preserved c =
    let g = goal.at.loop-i-preserved c in
    let p = pair g.In_ok-pair in
    let small = bond-small _ c.requires.0 p in (
      omega arith,
      omega (arith, p.rising, c.loop-i.invariant.1),
      sym (last_row _ c.requires.0 p _ _ (tested g.After-breaks ∙ c.if-not-breaks.false)) ∙ left g.In-loop-i,
    )

pub returns : goal.returns
returns c =
    let a = c.args in
    sym (entries_none (model_of a.w.now) _ _ a.count c.loop-i.i _ c.loop-i-test.false)
    ∙ c.loop-i.invariant.2
