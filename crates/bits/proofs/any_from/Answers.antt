use native.Mathlib.Omega.{arith}
use Prim.Native.Nat.{◌≤◌}
use mathlib.Core.Bool.{false}
use mathlib.Core.Path.{◌≡◌, sym}
use borrow.Author.Count.{below_more}
use lib.Dec.{leb}
use borrow.Author.Tests.{le-leb}
use Rattle.model.specs.Bits.{bit_set, set_places}
use Rattle.model.specs.Bytes.{part}
use Rattle.bits.proofs.SetPlaces.{among, none_from}
use Rattle.bits.proofs.any_from.Goals as goal

pub returns-then-is_set : goal.returns-then-is_set
unfolding set_places
returns-then-is_set c = sym (among (part c.args.at 16 c.args.s.now) (leb c.args.from) 128 c.loop-p.p (omega arith) (sym c.if-is_set.ensures) (le-leb _ _ c.loop-p.auto.p))

pub loop-p-preserved : goal.loop-p-preserved
loop-p-preserved c = λ k l h. below_more (λ j. c.args.from ≤ j → bit_set (part c.args.at 16 c.args.s.now) j ≡ false) c.loop-p.p (λ j h m. c.loop-p.invariant j m h) (λ m. sym c.if-is_set.ensures) k h l

pub returns : goal.returns
unfolding set_places
returns c = sym (none_from (part c.args.at 16 c.args.s.now) c.args.from 128 (λ k l h. c.loop-p.invariant k l (omega arith)))
