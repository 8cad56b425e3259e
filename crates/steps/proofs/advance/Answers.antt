-- `steps::advance` meets its contract.
use native.Mathlib.Omega.{arith}
use lib.ListN.{length, take}
use lib.Seq.{length-take-le}
use Rattle.steps.proofs.Turning.{call_passes, advanced}
use Rattle.steps.proofs.advance.Goals as goal

pub keep-left-requires : goal.keep-left-requires
keep-left-requires c =
    let t = c.args.t in
    (omega (arith, c.call-fed.ensures.next, call_passes t.begun t.at_end (length c.args.output.now) t.witness t.records (take t.have c.args.input.now), length-take-le t.have c.args.input.now c.requires), c.requires)

pub returns : goal.returns
returns c =
    let a = c.args in
    let k = c.keep-left in
    advanced a.t a.input.now a.output.now c.call-fed.result _ c.call-fed.ensures c.fate_after-fate.result c.fate_after-fate.ensures k.result _ k.ensures.value.0 k.ensures.value.1 k.ensures.input_after
