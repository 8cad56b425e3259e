-- `tables::find_id` meets its contract: the first index that std finds is the model's. Assumes nothing.
use Rattle.std.proofs.Common.{rules, ℕ, eqb}
use Rattle.std.proofs.lemmas.Iterator.{YieldsList-from_slice}
use Rattle.std.proofs.lemmas.Iterator.Search.{position_from_yields_List}
use borrow.Author.Tests.{tests}
use Rattle.tables.proofs.Tables.{first-position}
use Rattle.tables.proofs.find_id.Goals as goal

pub returns : goal.returns
returns c =
    let is = λ (x : ℕ). eqb x c.args.id in
    first-position is 0 c.args.ids.now
    (position_from_yields_List is _ _ c.position.result c.position.ensures.ran (YieldsList-from_slice c.args.ids.now cc)
    (λ x b q k. search (rules, tests)))
