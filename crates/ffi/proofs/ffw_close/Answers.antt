-- `ffi::ffw_close` meets its contract: the end of the report, told in numbers. Assumes nothing.
use Rattle.ffi.proofs.ffw_close.Goals as goal

pub returns : goal.returns
returns c = c.from.ensures _ _ _ _ c.close.ensures
