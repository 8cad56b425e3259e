-- `evidence::write_list` meets its contract: too short, or the header and then the entries. Assumes nothing.
use native.Mathlib.Omega.{arith}
use mathlib.Core.Path.{sym}
use lib.ListN.{length}
use Rattle.model.proofs.Buffer.{too_short, all-written}
use Rattle.evidence.specs.Listed.{charges_in}
use Rattle.evidence.proofs.Bytes.{count-charges, length-list, list_done}
use Rattle.evidence.proofs.write_list.Goals as goal

pub returns-then-buf-size : goal.returns-then-buf-size
returns-then-buf-size c =
    let charges = c.args.charges.now in
    too_short _ _ (omega (arith, length-list (charges_in charges) (length charges) (count-charges charges)))

pub returns : goal.returns
returns c =
    let charges = c.args.charges.now in
    let e = count-charges charges in
    all-written _ _ (sym (length-list (charges_in charges) (length charges) e)) (omega arith)
    (list_done (charges_in charges) (length charges) e c.args.buf.now c.write_header.ensures c.write_entries.ensures)
