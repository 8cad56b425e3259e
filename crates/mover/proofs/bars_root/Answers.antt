-- `mover::bars_root` meets its contract. Assumes nothing.
use native.Mathlib.Omega.{arith}
use mathlib.Core.Path.{◌≡◌, refl, ◌∙◌}
use mathlib.Core.Bool.{not}
use denote.Enum.Bare.{sameb}
use Rattle.model.specs.contracts.Status.{the_type}
use Rattle.model.specs.declared.Status.{Status}
use Rattle.model.specs.declared.Status.TheVariants.{Plain, Justified, Final}
use Rattle.state.proofs.Sound.{few-checkpoints}
use Rattle.mover.proofs.Rows.{final-status, too_high, low-enough}
use Rattle.mover.proofs.bars_root.Goals as goal

pub bounds-w-r : goal.bounds-w-r
bounds-w-r c =
    omega (arith, c.requires.1, few-checkpoints c.args.w c.requires.0)

pub returns-then-height-gt-MAX_ROOT_HEIGHT : goal.returns-then-height-gt-MAX_ROOT_HEIGHT
returns-then-height-gt-MAX_ROOT_HEIGHT c =
    too_high c.args.w c.requires.0 c.args.r.0 c.requires.1 c.if-height-gt-MAX_ROOT_HEIGHT.true

-- the comparison of standings
not-final : (s : Status) → not (sameb the_type s Final) ≡ not (final-status s)
not-final Plain = refl
not-final Justified = refl
not-final Final = refl

pub returns : goal.returns
returns c =
    c.ne.ensures
    ∙ not-final c.status.result
    ∙ low-enough c.args.w c.requires.0 c.args.r.0 c.requires.1 c.if-height-gt-MAX_ROOT_HEIGHT.false c.status.ensures
