-- `steps::step` meets its contract.
use native.Mathlib.Omega.{arith}
use mathlib.Core.Path.{sym, ◌∙◌}
use lib.ListN.{take}
use lib.Seq.{length-take-le}
use Rattle.buffered.proofs.Ready.{few}
use Rattle.steps.proofs.Turning.{call-told, only-read}
use Rattle.steps.proofs.step.Goals as goal

pub refill-requires : goal.refill-requires
refill-requires g c =
    let t = c.args.t in
    let bytes = c.args.input.now in
    omega (arith, few t.begun t.at_end (take t.have bytes) (sym c.is_ready.ensures ∙ c.if-is_ready.false), length-take-le t.have bytes c.requires.0, c.requires.1)

pub returns-then-is_ready : goal.returns-then-is_ready
returns-then-is_ready g c =
    call-told c.args.t c.args.input.now c.args.output.now (sym c.is_ready.ensures ∙ c.if-is_ready.true) c.advance-called.ensures c.tell.ensures

pub returns : goal.returns
returns g c =
    only-read c.args.t c.args.input.now c.args.output.now (sym c.is_ready.ensures ∙ c.if-is_ready.false) c.refill.ensures
