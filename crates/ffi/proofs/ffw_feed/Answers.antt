-- `ffi::ffw_feed` meets its contract: a piece of the report, told in numbers. Assumes nothing.
use Rattle.ffi.proofs.ffw_feed.Goals as goal

pub returns : goal.returns
returns c = c.from.ensures _ _ _ _ c.feed.ensures
