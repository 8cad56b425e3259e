use Prim.Native.Nat.{◌<◌}
use native.Mathlib.Omega.{arith}
use mathlib.Core.Path.{◌≡◌, ◌∙◌}
use Rattle.model.specs.Report.{checkpoint_line}
use Rattle.state.specs.State.{model_of}
use Rattle.state.proofs.Entries.{count-checkpoints}
use Rattle.standing.proofs.Standing.{status-is}
use Rattle.text.proofs.Putting.{kept, concat_none}
use Rattle.state.proofs.Sound.{few-checkpoints}
use Rattle.summary.proofs.Lines.{checkpoints-more}
use Rattle.summary.proofs.checkpoints.checkpoint_lines.Goals as goal
use Rattle.summary.proofs.checkpoints.checkpoint_lines.Goals.{In-loop-p}

-- a place is one of 512
below : (c : In-loop-p) → c.loop-p.p < 512
below c = omega (arith, c.loop-p-test.true, few-checkpoints c.args.w.now c.requires.0)

pub statuses-standings-requires : goal.statuses-standings-requires
statuses-standings-requires c = c.requires.0

pub loop-p-init : goal.loop-p-init
loop-p-init c =
    (omega arith, concat_none (checkpoint_line (model_of c.args.w.now)) (omega (arith, c.requires.1)))

pub overflow_cast-place : goal.overflow_cast-place
overflow_cast-place c = omega (arith, below (goal.at.overflow_cast-place c).In-loop-p)

pub status_of-status-requires : goal.status_of-status-requires
status_of-status-requires c = below (goal.at.status_of-status-requires c).In-loop-p

pub offset_bounds-w-p : goal.offset_bounds-w-p
offset_bounds-w-p c = omega (arith, below (goal.at.offset_bounds-w-p c).In-loop-p)

pub bounds-w-p : goal.bounds-w-p
bounds-w-p c = omega (arith, below (goal.at.bounds-w-p c).In-loop-p, c.requires.0.typed.tree.heights)

pub checkpoint_line-next-requires : goal.checkpoint_line-next-requires
checkpoint_line-next-requires c = omega (arith, kept c.loop-p.invariant.1, c.requires.1)

pub loop-p-preserved : goal.loop-p-preserved
loop-p-preserved c =
    let w = c.args.w.now in
    let is = c.status_of-status.ensures
    ∙ status-is (model_of w) _ c.statuses-standings.ensures _ (omega (arith, count-checkpoints w)) in (
      omega (arith, c.checkpoint_line-next.ensures.1),
      checkpoints-more w c.args.buf.now c.args.at c.loop-p.p c.loop-p-test.true is c.loop-p.invariant.1 c.checkpoint_line-next.ensures.0,
    )

pub shape_of-buf : goal.shape_of-buf
shape_of-buf c = kept c.loop-p.invariant.1

pub returns : goal.returns
returns c =
    let l = c.loop-p in
    let all : l.p ≡ c.args.w.now.checkpoint_count = omega arith in
    (rw all at l.invariant.1, omega arith)
