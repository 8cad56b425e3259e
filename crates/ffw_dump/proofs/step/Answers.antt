-- `ffw_dump::step` meets its contract: where the bytes at hand are too few, there is room for more.
use Rattle.std.proofs.Common.{take, sym, ◌∙◌, arith, length-take-le}
use Rattle.buffered.proofs.Ready.{few}
use Rattle.ffw_dump.proofs.step.Goals as goal

pub fill-requires : goal.fill-requires
fill-requires g c =
    let t = c.args.t in
    let bytes = c.args.input.now in
    omega (arith, few t.begun t.at_end (take t.have bytes) (sym c.is_ready.ensures ∙ c.if-is_ready.false), length-take-le t.have bytes c.requires.0, c.requires.1)
