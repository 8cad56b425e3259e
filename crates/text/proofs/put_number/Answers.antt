-- `text::put_number` meets its contract: the digits, and no more of them than their array holds.
use native.Mathlib.Omega.{arith}
use mathlib.Core.Path.{◌∙◌}
use Rattle.text.proofs.Decimal.{few-digits, decimal-is}
use Rattle.text.proofs.Putting.{spelled}
use Rattle.text.proofs.put_number.Goals as goal

pub returns : goal.returns
returns c =
    let d = c.decimal-k in
    (spelled c.put.ensures (d.ensures.digits ∙ decimal-is d.result c.args.n d.ensures.len), omega (arith, c.put.ensures.past, d.ensures.in_bounds.1, few-digits d.result c.args.n d.ensures.len c.ranges.n.fits))
