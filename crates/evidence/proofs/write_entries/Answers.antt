use Prim.Native.Nat.{◌+◌, ◌*◌}
use native.Mathlib.Omega.{arith}
use mathlib.Core.Path.{refl}
use lib.ListN.{get_or}
use Rattle.model.specs.Evidence.{entry_bytes}
use Rattle.evidence.specs.Listed.{charge_in, charges_in}
use Rattle.evidence.proofs.Bytes.{entered_none, entered_more, lent_tail}
use Rattle.evidence.proofs.write_entries.Goals as goal

pub loop-i-init : goal.loop-i-init
loop-i-init c = (refl, entered_none (charges_in c.args.charges.now) _)

pub loop-i-preserved : goal.loop-i-preserved
loop-i-preserved c =
    let l = c.loop-i in
    let a = c.args in
    let x = get_or a.charges.now l.i (record { id = 0; earlier = 0; later = 0 }) in
    let back = lent_tail (7 + 6 * l.i) 6 l.buf (entry_bytes (charge_in x)) c.write_entry.new.rest c.write_entry.ensures in
    (omega (arith, l.invariant.0), entered_more a.charges.now l.i _ a.buf.now c.loop-i-test.true (omega arith) l.invariant.1 back)
