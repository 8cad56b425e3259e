use Rattle.wire.proofs.records.record_size.Goals as goal
use mathlib.Core.Path.{sym, ap}
use Rattle.model.specs.Log.{record_size, size_of}

pub returns-in-Err : goal.returns-in-Err
unfolding record_size size_of
returns-in-Err c = sym (ap size_of c.in-Err.ensures.1)
