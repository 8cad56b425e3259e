use native.Mathlib.Omega.{arith}
use mathlib.Core.Path.{refl, ◌∙◌}
use lib.Dec.{eqb}
use Rattle.search.proofs.Chains.{walked_none, walked_more, walked_all}
use Rattle.search.proofs.Pointwise.{any_taken}
use Rattle.search.proofs.Links.in_chain.Goals as goal

pub loop-init : goal.loop-init
loop-init c = walked_none _ _ _

pub returns-then-at-eq0 : goal.returns-then-at-eq0
returns-then-at-eq0 c = λ on chain same. walked_all _ _ _ (omega (arith, c.if-at-eq0.true)) c.loop.invariant on _ chain ∙ same

pub loop-preserved : goal.loop-preserved
loop-preserved c =
    rw c.from-k.ensures (walked_more _ _ _ c.loop.at (omega (arith, c.if-at-eq0.false)) (c.requires.2 _ (omega (arith, c.if-at-eq0.false, c.loop.invariant.low, c.requires.1))) refl c.loop.invariant)

pub returns-then-at-gt0 : goal.returns-then-at-gt0
returns-then-at-gt0 c = λ on chain same. c.is_held.ensures ∙ any_taken c.args.count c.args.self.now.numbers (λ n. eqb n c.args.x) (omega (arith, c.requires.0))

pub returns : goal.returns
returns c = λ on chain same. walked_all _ _ _ (omega (arith, c.if-at-gt0.false)) c.loop.invariant on _ chain ∙ same
