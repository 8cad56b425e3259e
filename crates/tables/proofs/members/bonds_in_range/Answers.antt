-- `tables::members::bonds_in_range` meets its contract. Assumes nothing.
use Prim.Native.Nat.{ℕ}
use mathlib.Core.Path.{◌∙◌}
use mathlib.Core.Bool.{◌&&◌}
use lib.Dec.{ltb, leb}
use Rattle.std.proofs.Common.{rules}
use Rattle.std.proofs.lemmas.Iterator.{YieldsList-from_slice}
use Rattle.std.proofs.lemmas.Iterator.Search.{all_from_yields_List}
use borrow.Author.Tests.{tests}
use Rattle.model.specs.Limits.{bond_limit}
use Rattle.tables.proofs.Tables.{all-of}
use Rattle.tables.proofs.members.bonds_in_range.Goals as goal

pub returns : goal.returns
returns c =
    let good = λ (x : ℕ). ltb 0 x && leb x bond_limit in
    all_from_yields_List good _ _ c.all.result c.all.ensures.ran (YieldsList-from_slice c.args.bonds.now cc)
    (λ x b q k. search (rules, tests))
    ∙ all-of good 0 c.args.bonds.now
