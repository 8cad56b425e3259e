-- `evidence::write_entry` meets its contract: three numbers, one after another. Assumes nothing.
use mathlib.Core.List.{◌++◌}
use lib.ListN.{length-append}
use Rattle.model.specs.Bytes.{be_bytes}
use Rattle.model.specs.Evidence.{entry_bytes}
use Rattle.model.proofs.Bytes.{length-be_bytes}
use Rattle.evidence.proofs.Bytes.{written-more}
use Rattle.evidence.proofs.write_entry.Goals as goal

pub returns : goal.returns
unfolding entry_bytes
returns c =
    let rest = c.args.rest.now in
    let x = c.args.charge in
    written-more 4 2 rest (be_bytes 2 x.id ++ be_bytes 2 x.earlier) (be_bytes 2 x.later)
    (simp (length-append, length-be_bytes))
    (written-more 2 2 rest (be_bytes 2 x.id) (be_bytes 2 x.earlier) (length-be_bytes 2 x.id) c.put_at.ensures c.put_at-2.ensures)
    c.put_at-3.ensures
