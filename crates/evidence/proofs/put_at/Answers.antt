-- `evidence::put_at` meets its contract: the rest of the buffer, lent and written, comes back in its place. Assumes nothing.
use Rattle.model.specs.Bytes.{be_bytes}
use Rattle.evidence.proofs.Bytes.{lent_tail}
use Rattle.evidence.proofs.put_at.Goals as goal

pub returns : goal.returns
returns c =
    let a = c.args in
    lent_tail a.at 2 a.buf.now (be_bytes 2 a.v) c.put16.new.buf c.put16.ensures
