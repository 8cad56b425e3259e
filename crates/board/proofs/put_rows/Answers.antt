use Prim.Native.Nat.{ℕ, ◌+◌, ◌*◌}
use native.Mathlib.Omega.{arith}
use mathlib.Core.List.{List}
use mathlib.Core.Path.{◌≡◌, sym, ap, ◌∙◌, subst₂}
use Rattle.std.proofs.lemmas.Bool.{ltb-false}
use Rattle.model.specs.Lists.{concat_below}
use Rattle.text.specs.Put.{Put}
use Rattle.text.proofs.Putting.{spelled, concat_none, concat_more}
use Rattle.board.specs.Rows.{line_of, row_in}
use Rattle.board.proofs.RowLines.{held-row, missing_row}
use Rattle.board.proofs.put_rows.Goals as goal
use Rattle.board.proofs.put_rows.Goals.{in-Some, in-None}

pub loop-i-init : goal.loop-i-init
loop-i-init c = (concat_none _ (omega arith), omega arith)

pub loop-i-preserved : goal.loop-i-preserved
loop-i-preserved c =
    let a = c.args in
    let rows = a.rows.now in
    let row : ℕ → List ℕ = λ j. row_in rows (a.from + j) in
    let p = a.from + c.loop-i.i in
    let More : List ℕ → ℕ → Type 0 = λ buf next.
    Put a.buf.now a.at (concat_below (c.loop-i.i + 1) row) buf next × (next ≡ a.at + 65 * (c.loop-i.i + 1)) in
    elim c.match-get.branch [
      | in-Some w ↦ let line = w.put_row-next.ensures in
          subst₂ More (sym w.buf-is) (sym w.next-is) (
            concat_more row c.loop-i.i c.loop-i.invariant.0 (spelled line.0 (
                ap line_of (w.in-Some.ensures.lookup.3.1 _) ∙ held-row rows p w.in-Some.ensures.lookup.3.0)),
            omega (arith, line.1, c.loop-i.invariant.1),
          )
      | in-None w ↦ let line = w.put_rule-next.ensures in
          subst₂ More (sym w.buf-is) (sym w.next-is) (
            concat_more row c.loop-i.i c.loop-i.invariant.0 (spelled line.0 (missing_row rows p (ltb-false _ _ (sym w.in-None.ensures.lookup.0)))),
            omega (arith, line.1, c.loop-i.invariant.1),
          )
    ]
