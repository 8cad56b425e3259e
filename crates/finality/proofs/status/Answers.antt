-- `finality::status` meets its contract: the analysis of the witness's model says it. Assumes nothing.
use native.Mathlib.Omega.{arith}
use mathlib.Core.Path.{◌∙◌}
use Rattle.state.specs.State.{model_of}
use Rattle.state.proofs.Entries.{count-checkpoints}
use Rattle.state.proofs.Sound.{few-checkpoints}
use Rattle.standing.proofs.Standing.{status-is}
use Rattle.finality.proofs.status.Goals as goal

pub status_of-requires : goal.status_of-requires
status_of-requires c = omega (arith, few-checkpoints c.args.w c.requires.0)

pub returns : goal.returns
returns c =
    let w = c.args.w in
    c.status_of.ensures
    ∙ status-is (model_of w) _ c.statuses.ensures _ (omega (arith, c.requires.1, count-checkpoints w))
