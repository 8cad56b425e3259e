-- `board::write_paper` meets its contract: too short, or every page. Assumes nothing.
use Prim.Native.Nat.{ℕ, ◌≤◌}
use native.Mathlib.Omega.{arith}
use mathlib.Core.Path.{◌≡◌, sym, ap, ◌∙◌}
use mathlib.Core.List.{◌++◌}
use borrow.Author.Rules.{rules}
use lib.ListN.{length, take, drop}
use lib.Seq.{length-take-le}
use Rattle.model.specs.Paper.{paper}
use Rattle.model.proofs.Buffer.{too_short, all-written}
use Rattle.model.proofs.Paper.{paper-long}
use Rattle.state.specs.State.{model_of}
use Rattle.state.proofs.Sound.{few-checkpoints}
use Rattle.text.proofs.Putting.{spelled}
use Rattle.board.proofs.Drawing.{so_many_pages, pages-done}
use Rattle.board.proofs.write_paper.Goals as goal
use Rattle.board.proofs.write_paper.Goals.{After-rows-rows}

pub overflow_add-pages : goal.overflow_add-pages
overflow_add-pages c = omega (arith, few-checkpoints c.args.w c.requires)

pub overflow_mul-pages : goal.overflow_mul-pages
overflow_mul-pages c = omega (arith, few-checkpoints c.args.w c.requires)

pub returns-then-buf-pages : goal.returns-then-buf-pages
returns-then-buf-pages c =
    let w = c.args.w in
    too_short (paper (model_of w)) _
    (omega (arith, paper-long (model_of w) c.requires.good, so_many_pages w, c.if-buf-pages.true))

-- there are rows for all places that are held
held : (c : After-rows-rows) → c.args.w.checkpoint_count ≤ length c.rows-rows.result
held c =
    let long : length c.rows-rows.result ≡ 512 = search rules in
    omega (arith, few-checkpoints c.args.w c.requires)

front : (c : After-rows-rows)
    → length (take c.args.w.checkpoint_count c.rows-rows.result) ≡ c.args.w.checkpoint_count
front c = length-take-le _ _ (held c)

pub slice_bounds-rows-end : goal.slice_bounds-rows-end
slice_bounds-rows-end c = held (goal.at.slice_bounds-rows-end c).After-rows-rows

pub slice_bounds-put_pages-end : goal.slice_bounds-put_pages-end
slice_bounds-put_pages-end c = omega (arith, front (goal.at.slice_bounds-put_pages-end c).After-rows-rows)

pub put_pages-requires : goal.put_pages-requires
put_pages-requires c =
    let few = few-checkpoints c.args.w c.requires in
    (omega (arith, few), omega (arith, c.if-buf-pages.false))

pub returns : goal.returns
returns c =
    let w = c.args.w in
    let buffer = c.args.buf.now in
    let all = spelled c.put_pages.ensures.0 (pages-done w _ c.rows-rows.ensures) in
    all-written (paper (model_of w)) buffer (omega (arith, all.past)) (omega (arith, all.fits, all.past))
    (all.left ∙ ap (λ (n : ℕ). paper (model_of w) ++ drop n buffer) (sym all.past))
