use mathlib.Core.Path.{ap, ◌∙◌}
use mathlib.Core.List.{◌++◌}
use lib.ListN.{drop}
use Rattle.std.specs.Int.{w16}
use Rattle.wire.proofs.Numbers.{be_bytes_of_width}
use Rattle.wire.proofs.put16.Goals as goal

pub returns : goal.returns
returns c =
    let written = c.copy_from_slice.ensures.after ∙ c.to_be_bytes.ensures ∙ be_bytes_of_width w16 c.args.v in
    ap (λ bs. bs ++ drop 2 c.args.buf.now) written
