-- `mover::move_root` meets its contract: the rows one by one, or the state with what stays. Assumes nothing.
use Prim.Native.Nat.{◌<◌, ◌≤◌}
use native.Mathlib.Omega.{arith}
use mathlib.Core.Path.{◌≡◌, refl, sym, ap, ◌∙◌}
use mathlib.Core.Bool.{false, not}
use borrow.Author.Tests.{lt-ltb, le-ltb}
use lib.ListN.{length}
use Rattle.model.specs.Answer.{row}
use Rattle.model.specs.Model.{place_held}
use Rattle.state.specs.State.{model_of}
use Rattle.state.proofs.Entries.{count-checkpoints}
use Rattle.mover.proofs.Moving.{move_rows_lem, refused_move_lem, taken_move}
use Rattle.mover.proofs.move_root.Goals as goal
use Rattle.mover.proofs.move_root.Goals.{Else-count-at}

-- row 41 does not apply
held : (c : Else-count-at) → let a = c.args in not (place_held (model_of a.w) a.r.0) ≡ false
held c =
    let a = c.args in
    let counted = count-checkpoints a.w in
    let inside : a.r.0 < length (model_of a.w).checkpoints = omega (arith, c.if-count-at.false, counted) in
    ap not (lt-ltb _ _ inside)

pub returns-then-count-at : goal.returns-then-count-at
unfolding row
returns-then-count-at c =
    let a = c.args in
    let past : length (model_of a.w).checkpoints ≤ a.r.0 =
    omega (arith, c.if-count-at.true, count-checkpoints a.w) in
    refused_move_lem a.w c.refuse.ensures
    (move_rows_lem (model_of a.w) a.r.0 (ap not (le-ltb _ _ past)) refl refl refl)

pub returns-then-bars_root : goal.returns-then-bars_root
unfolding row
returns-then-bars_root c =
    let a = c.args in
    refused_move_lem a.w c.refuse-then-bars_root.ensures
    (move_rows_lem (model_of a.w) a.r.0 (held (goal.at.returns-then-bars_root c).Else-count-at) (sym c.bars_root.ensures ∙ c.if-bars_root.true) refl refl)

pub returns-then-risks_evidence : goal.returns-then-risks_evidence
unfolding row
returns-then-risks_evidence c =
    let a = c.args in
    refused_move_lem a.w c.refuse-then-risks_evidence.ensures
    (move_rows_lem (model_of a.w) a.r.0 (held (goal.at.returns-then-risks_evidence c).Else-count-at) (sym c.bars_root.ensures ∙ c.if-bars_root.false)
    (sym c.risks_evidence.ensures ∙ c.if-risks_evidence.true) refl)

pub returns-then-drops_higher : goal.returns-then-drops_higher
unfolding row
returns-then-drops_higher c =
    let a = c.args in
    refused_move_lem a.w c.refuse-then-drops_higher.ensures
    (move_rows_lem (model_of a.w) a.r.0 (held (goal.at.returns-then-drops_higher c).Else-count-at) (sym c.bars_root.ensures ∙ c.if-bars_root.false)
    (sym c.risks_evidence.ensures ∙ c.if-risks_evidence.false) (sym c.drops_higher.ensures ∙ c.if-drops_higher.true))

pub returns : goal.returns
unfolding row
returns c =
    let a = c.args in
    taken_move a.w c.prune.ensures
    (move_rows_lem (model_of a.w) a.r.0 (held (goal.at.returns c).Else-count-at) (sym c.bars_root.ensures ∙ c.if-bars_root.false)
    (sym c.risks_evidence.ensures ∙ c.if-risks_evidence.false) (sym c.drops_higher.ensures ∙ c.if-drops_higher.false))
