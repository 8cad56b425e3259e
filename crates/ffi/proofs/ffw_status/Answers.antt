-- `ffi::ffw_status` meets its contract: the standing, told in numbers. Assumes nothing.
use Rattle.codes.specs.Numbers.{status_number}
use Rattle.codes.proofs.Told.{mapped}
use Rattle.ffi.proofs.ffw_status.Goals as goal

pub returns : goal.returns
returns c = mapped status_number (λ v n is. is) c.status.result c.map.result c.status.ensures c.map.ensures.cases c.from.ensures
