-- Which quotas are permitted: the test computes it; the standard one is, and so is every one that row 64 lets pass.
use Prim.Native.Nat.{◌*◌, ◌<◌}
use native.Mathlib.Omega.{arith}
use mathlib.Core.Path.{◌≡◌}
use mathlib.Core.Bool.{true, false, not}
use borrow.Author.Tests.{ltb-true, lt-ltb, leb-true, le-leb, not-false}
use lib.Dec.{ltb, leb}
use Rattle.model.specs.Decide.{bad_quorum}
use Rattle.model.specs.Limits.{part_limit}
use Rattle.model.specs.Model.{Model}
use Rattle.model.specs.Rule.{standard, given?, quota_of, Permitted, permitted?}
use Rattle.model.specs.declared.Quota.{Quota}
use Rattle.model.proofs.Lists.{four, both, or_false_left}

pub permitted_true : (k : Quota) → permitted? k ≡ true → Permitted k
unfolding permitted?
permitted_true k e =
    let parts = four (leb k.p k.q) (ltb k.q (2 * k.p)) (ltb 0 k.q) (leb k.q part_limit) e in
    record {
      within = leb-true _ _ parts.first;
      most = ltb-true _ _ parts.second;
      some = ltb-true _ _ parts.third;
      few = leb-true _ _ parts.fourth;
    }

pub true_permitted : (k : Quota) → Permitted k → permitted? k ≡ true
unfolding permitted?
true_permitted k h =
    both (both (both (le-leb _ _ h.within) (lt-ltb _ _ h.most)) (lt-ltb _ _ h.some)) (le-leb _ _ h.few)

pub standard-permitted : Permitted (quota_of standard)
unfolding quota_of
standard-permitted = record { within = omega arith; most = omega arith; some = omega arith; few = omega arith }

pub quorum-permitted : (m : Model) (k : Quota) → bad_quorum m k ≡ false → Permitted k
unfolding bad_quorum
quorum-permitted m k e =
    permitted_true k (not-false (permitted? k) (or_false_left (not (permitted? k)) (given? m.rule) e))

-- no permitted quota asks for nothing
pub part-positive : (k : Quota) → Permitted k → 0 < k.p
part-positive k h = omega (arith, h.most)
