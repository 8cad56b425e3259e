-- `evidence::Charges::add` meets its contract. Assumes nothing.
use native.Mathlib.Omega.{arith}
use mathlib.Core.Path.{◌≡◌, ap}
use borrow.Author.Rules.{rules}
use lib.ListN.{length}
use Rattle.conduct.specs.Shown.{conduct_of}
use Rattle.evidence.proofs.Listing.{charge-more, adds_none, adds_one}
use Rattle.evidence.proofs.Charges.add.Goals as goal

pub returns-in-Some : goal.returns-in-Some
returns-in-Some c =
    let s = c.args.self.now in
    let long : length s.list ≡ 128 = search rules in
    (omega arith, adds_one s c.args.id c.in-Some.pair.earlier c.in-Some.pair.later (ap conduct_of c.in-Some.is) (charge-more s _ (omega arith)))

pub returns-in_default : goal.returns-in_default
returns-in_default c = (omega arith, adds_none c.args.self.now c.args.id (ap conduct_of c.in_default.is))
