-- `ffi::ffw_conflict` meets its contract: the conflict answer, told in numbers. Assumes nothing.
use mathlib.Core.Path.{◌∙◌}
use Rattle.codes.specs.Numbers.{yes_number}
use Rattle.codes.proofs.Told.{byte_of, mapped}
use Rattle.ffi.proofs.ffw_conflict.Goals as goal

pub returns : goal.returns
returns c = mapped yes_number (λ v n is. is ∙ byte_of v) c.conflict.result c.map.result c.conflict.ensures c.map.ensures.cases c.from.ensures
