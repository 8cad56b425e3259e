-- `stream::read_log` meets its contract.
use native.Mathlib.Omega.{arith}
use Rattle.stream.proofs.Turned.{is_read}
use Rattle.stream.proofs.read_log.Goals as goal

pub returns : goal.returns
returns g c = is_read (omega arith) c.read_pieces-t.ensures c.from.ensures
