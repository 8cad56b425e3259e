use Prim.Native.Nat.{◌%◌}
use native.Mathlib.Omega.{arith}
use mathlib.Core.Path.{ap, ◌∙◌}
use lib.Dec.{eqb}
use lib.ListN.{get_or}
use Rattle.search.specs.Chains.{last_below, slot_of}
use Rattle.search.proofs.Below.{pair-none, pair-more}
use Rattle.search.proofs.Chains.{linked-earlier, linked-chain, same_slot}
use Rattle.search.proofs.Pointwise.{any_same}
use Rattle.search.proofs.numbers_twice.Goals as goal

pub loop-j-init : goal.loop-j-init
loop-j-init c = pair-none _

pub in_chain-hit-requires : goal.in_chain-hit-requires
in_chain-hit-requires c =
    let falls = linked-earlier _ c.of-links.ensures.indexed.bucketed.linked in
    let here = c.loop-j-test.true in
    (omega (arith, c.requires), falls c.loop-j.j here, λ k h. falls k (omega (arith, h, here)))

pub loop-j-preserved : goal.loop-j-preserved
loop-j-preserved c =
    let linked = c.of-links.ensures.indexed.bucketed.linked in
    let held = c.of-links.ensures.held in
    let numbers = c.of-links.result.numbers in
    let j = c.loop-j.j in
    let x = get_or c.args.numbers.now j 0 in
    let here = c.loop-j-test.true in
    let chain = linked-chain _ linked (x % 4093) j (omega (arith, here)) (linked.nexts j here ∙ ap (λ y. last_below j (λ i. eqb (slot_of numbers i) (y % 4093))) (held j here)) in
    let here = c.in_chain-hit.ensures _ chain (same_slot numbers j x) in
    pair-more _ _ c.loop-j.invariant (here ∙ any_same j (λ i. eqb (get_or numbers i 0) x) (λ i. eqb (get_or c.args.numbers.now i 0) x) (λ i h. ap (λ y. eqb y x) (held i (omega (arith, h, c.loop-j-test.true)))))
