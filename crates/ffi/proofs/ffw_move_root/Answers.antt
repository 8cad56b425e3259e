-- `ffi::ffw_move_root` meets its contract: the outcome of the move, told in numbers. Assumes nothing.
use mathlib.Core.Path.{ap, ◌∙◌}
use mathlib.Core.List.{[]}
use Rattle.model.specs.Answer.{row_of}
use Rattle.codes.proofs.Told.{same_row}
use Rattle.ffi.proofs.ffw_move_root.Goals as goal

pub returns : goal.returns
returns c =
    let is = c.move_root-outcome.ensures in
    record { refused = c.refused_by.ensures [] ∙ same_row _ _ _ ∙ ap row_of is.outcome; witness = is.witness }
