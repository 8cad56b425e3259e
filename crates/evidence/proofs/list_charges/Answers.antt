-- `evidence::list_charges` meets its contract: the sorted places and what is shown of each member give the model's charges. Assumes nothing.
use native.Mathlib.Omega.{arith}
use mathlib.Core.Path.{◌≡◌, ◌∙◌}
use Prim.Native.Nat.{ℕ}
use borrow.Author.Rules.{rules}
use lib.ListN.{length, take}
use lib.Seq.{length-take-le}
use Rattle.model.proofs.Lists.{all_map}
use Rattle.state.proofs.Sound.{few-members, ids-long}
use Rattle.evidence.proofs.Listing.{listed-charges}
use Rattle.evidence.proofs.list_charges.Goals as goal
use Rattle.evidence.proofs.list_charges.Goals.{After-order-places}

pub shared_ref_as_front-ids : goal.shared_ref_as_front-ids
shared_ref_as_front-ids c = few-members _ c.requires

-- the ids and the places are as many as the members
module _ (c : After-order-places) where
  abbrev n : ℕ
  n = c.args.w.now.member_count

  ids : length (take n c.args.w.now.ids) ≡ n
  ids = length-take-le n c.args.w.now.ids (ids-long _ c.requires)

  places : length (take (length (take n c.args.w.now.ids)) c.order-places.result) ≡ n
  places =
      let all : length c.order-places.result ≡ 128 = search rules in
      length-take-le (length (take n c.args.w.now.ids)) c.order-places.result (omega (arith, ids, few-members _ c.requires)) ∙ ids

pub collect-requires : goal.collect-requires
collect-requires c =
    let g = (goal.at.collect-requires c).After-order-places in
    let few = few-members c.args.w.now c.requires in
    let all : length c.conducts-shown.result ≡ 128 = search rules in
    (omega (arith, places g), all_map (λ p h. (h, omega (arith, ids g))) c.order-places.ensures.held)

pub returns : goal.returns
returns c =
    let w = c.args.w.now in
    let g = (goal.at.returns c).After-order-places in (
      omega (arith, c.collect.ensures.0, places g, few-members w c.requires),
      listed-charges w (ids-long w c.requires) c.conducts-shown.result _ c.order-places.ensures c.conducts-shown.ensures c.collect.ensures.1,
    )
