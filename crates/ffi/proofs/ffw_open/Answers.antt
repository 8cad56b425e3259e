-- `ffi::ffw_open` meets its contract: the beginning of the report, told in numbers. Assumes nothing.
use Rattle.ffi.proofs.ffw_open.Goals as goal

pub returns : goal.returns
returns c = c.from.ensures _ _ _ _ c.«open».ensures
