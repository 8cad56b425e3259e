use Prim.Native.Nat.{ℕ, ◌<◌, ◌≤◌}
use native.Mathlib.Omega.{arith}
use mathlib.Core.Path.{◌≡◌, sym, ap, subst, ◌∙◌}
use Rattle.model.specs.Lists.{All}
use mathlib.Core.List.{flat_map}
use borrow.Author.Rules.{rules}
use lib.ListN.{get_or, length, take}
use lib.Seq.{length-take-le, take_all}
use Rattle.conduct.proofs.Sorting.{all_get_d}
use Rattle.text.proofs.Putting.{spelled, kept}
use Rattle.state.proofs.Sound.{few-members, ids-long}
use Rattle.summary.proofs.Lines.{members-none, members-more, members-all, line_at}
use Rattle.summary.proofs.members.member_lines.Goals as goal
use Rattle.summary.proofs.members.member_lines.Goals.{After-order-places, In-loop-place}

few : (c : After-order-places) → c.args.w.now.member_count ≤ 128
few c = few-members c.args.w.now c.requires.0

-- the ids that are sorted are as many as the members
ids : (c : After-order-places) → length (take c.args.w.now.member_count c.args.w.now.ids) ≡ c.args.w.now.member_count
ids c = length-take-le _ _ (ids-long c.args.w.now c.requires.0)

-- and so are the places
long : (c : After-order-places) → length (take c.args.w.now.member_count c.order-places.result) ≡ c.args.w.now.member_count
long c = let all : length c.order-places.result ≡ 128 = search rules in length-take-le c.args.w.now.member_count c.order-places.result (omega (arith, few c))

-- the places that are gone through are those that are sorted
same : (c : After-order-places)
    → let w = c.args.w.now in
    take w.member_count c.order-places.result ≡ take (length (take w.member_count w.ids)) c.order-places.result
same c = ap (λ (n : ℕ). take n c.order-places.result) (sym (ids c))

-- a place is a member's
held : (c : In-loop-place) → get_or (take c.args.w.now.member_count c.order-places.result) c.loop-place.place-index 0 < c.args.w.now.member_count
held c =
    let g = (goal.at.In-loop-place c).After-order-places in
    let n = c.args.w.now.member_count in
    let all = subst (All (λ p. p < length (take n c.args.w.now.ids))) (sym (same g)) c.order-places.ensures.held in
    omega (arith, ids g, all_get_d (take n c.order-places.result) c.loop-place.place-index 0 all c.loop-place-test.true)

-- and a member is one of 128
below : (c : In-loop-place) → get_or (take c.args.w.now.member_count c.order-places.result) c.loop-place.place-index 0 < 128
below c = omega (arith, held c, few (goal.at.In-loop-place c).After-order-places)

pub shared_ref_as_front-order : goal.shared_ref_as_front-order
shared_ref_as_front-order c = few-members _ c.requires.0

pub loop-place-init : goal.loop-place-init
loop-place-init c =
    (omega arith, members-none c.args.w.now c.args.buf.now c.args.at (omega (arith, c.requires.2)))

pub bounds-w-p : goal.bounds-w-p
bounds-w-p c = below (goal.at.bounds-w-p c).In-loop-place

pub bounds-w-p-in-loop-place : goal.bounds-w-p-in-loop-place
bounds-w-p-in-loop-place c = below (goal.at.bounds-w-p-in-loop-place c).In-loop-place

pub bounds-shown-p : goal.bounds-shown-p
bounds-shown-p c = below (goal.at.bounds-shown-p c).In-loop-place

pub member_line-next-requires : goal.member_line-next-requires
member_line-next-requires c =
    omega (arith, kept c.loop-place.invariant.1, c.requires.2, long (goal.at.member_line-next-requires c).After-order-places, c.loop-place-test.true)

pub loop-place-preserved : goal.loop-place-preserved
loop-place-preserved c =
    let g = goal.at.loop-place-preserved c in
    let p = held g.In-loop-place in (
      omega (arith, c.member_line-next.ensures.1),
      members-more c.args.w.now c.args.buf.now c.args.at c.loop-place.place-index _ c.loop-place-test.true p (c.requires.1 _ p) c.loop-place.invariant.1 c.member_line-next.ensures.0,
    )

pub returns : goal.returns
returns c =
    let l = c.loop-place in
    let w = c.args.w.now in
    let g = (goal.at.returns c).After-order-places in (
      spelled l.invariant.1
          (ap (flat_map (line_at w)) (take_all l.place-index _ c.loop-place-test.false ∙ same g)
          ∙ members-all w (ids-long w c.requires.0) _ c.order-places.ensures),
      omega (arith, long g),
    )
