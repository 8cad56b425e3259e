use native.Mathlib.Omega.{arith}
use mathlib.Core.Path.{◌≡◌, refl}
use borrow.Author.Rules.{rules}
use lib.ListN.{length}
use lib.Seq.{length-take-le}
use Rattle.state.proofs.Sound.{few-members}
use Rattle.voters.specs.Bits.{among}
use Rattle.voters.proofs.Bits.{sum_bound}
use Rattle.tally.proofs.Ready.{ready-bonds}
use Rattle.board.proofs.Drawing.{drawn_none, drawn_walk, drawn_more, drawn_all}
use Rattle.board.proofs.rows.rows.Goals as goal

pub shared_ref_as_front-bonds : goal.shared_ref_as_front-bonds
shared_ref_as_front-bonds c = few-members _ c.requires

pub loop-p-init : goal.loop-p-init
loop-p-init c = drawn_none c.prepare-b.ensures c.analyse-a.ensures refl

pub gather-requires-clause-walk : goal.gather-requires-clause-walk
gather-requires-clause-walk c = drawn_walk c.loop-p.invariant c.loop-p-test.true

pub heaviest-best-requires : goal.heaviest-best-requires
heaviest-best-requires c =
    let at = c.loop-p.invariant in
    let marks : length c.analyse-a.result.marks ≡ 512 = search rules in
    let front = length-take-le c.loop-p.p c.gather.new.voters (omega (arith, at.low, at.few)) in
    (omega (arith, front, marks, at.low, at.few), ready-bonds at.ready)

pub overflow_cast-rows : goal.overflow_cast-rows
overflow_cast-rows c =
    let voters = c.heaviest-best.result.voters in
    omega (arith, c.count.ensures, sum_bound 128 1 (among voters) (λ i. 1) (λ i l. omega arith))

pub loop-p-preserved : goal.loop-p-preserved
loop-p-preserved c =
    drawn_more c.loop-p.invariant c.gather.new.voters _ (omega arith) c.loop-p-test.true c.gather.ensures
    (λ s l. refl)
    c.heaviest-best.ensures
    c.status_of.ensures
    c.count.ensures

pub returns : goal.returns
returns c = drawn_all c.loop-p.invariant c.loop-p-test.false
