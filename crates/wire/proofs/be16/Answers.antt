use mathlib.Core.Path.{ap, ◌∙◌}
use Rattle.std.specs.Int.{w16, from_be_bytes}
use Rattle.wire.proofs.Numbers.{field_of_width}
use Rattle.wire.proofs.be16.Goals as goal

pub returns : goal.returns
returns c = c.from_be_bytes.ensures ∙ ap (from_be_bytes w16) c.bytes.ensures ∙ field_of_width w16 _ _ c.requires
