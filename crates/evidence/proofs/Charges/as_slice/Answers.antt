-- `evidence::Charges::as_slice` meets its contract. Assumes nothing.
use native.Mathlib.Omega.{arith}
use mathlib.Core.Path.{◌≡◌, refl}
use borrow.Author.Rules.{rules}
use lib.ListN.{length}
use lib.Seq.{length-take-le}
use Rattle.evidence.specs.Listed.{charges_of}
use Rattle.evidence.proofs.Charges.as_slice.Goals as goal

pub returns : goal.returns
unfolding charges_of
returns c =
    let s = c.args.self.now in
    let long : length s.list ≡ 128 = search rules in
    (refl, length-take-le s.count s.list (omega arith))
