use mathlib.Core.Path.{ap, ◌∙◌}
use Rattle.std.specs.Int.{w64, from_le_bytes}
use Rattle.wire.proofs.Numbers.{word_of_width}
use Rattle.wire.proofs.le64.Goals as goal

pub returns : goal.returns
returns c = c.from_le_bytes.ensures ∙ ap (from_le_bytes w64) c.bytes.ensures ∙ word_of_width w64 _ _ c.requires
