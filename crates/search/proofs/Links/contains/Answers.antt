use Rattle.search.proofs.Chains.{linked-earlier, head-low, in_chain, same_slot}
use Rattle.search.proofs.Links.contains.Goals as goal

pub in_chain-requires : goal.in_chain-requires
in_chain-requires c =
    let so = c.requires.1 in
    (c.requires.0, head-low so c.args.x, linked-earlier _ so.bucketed.linked)

pub returns : goal.returns
returns c =
    let so = c.requires.1 in
    let x = c.args.x in
    c.in_chain.ensures _ (in_chain so x) (same_slot c.args.self.now.numbers c.args.count x)
