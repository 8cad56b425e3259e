-- The weight half, with no tree: two sets of members that each hold a large share of the bonds overlap in a share.
use Prim.Native.Nat.{ℕ, ◌+◌, ◌*◌, ◌-◌, ◌<◌, ◌≤◌, zero-le}
use native.Mathlib.Nat.{mul-le-mul_left, mul-le-mul_right, mul-add, mul_assoc, mul_comm, mul-sub}
use native.Mathlib.Omega.{arith}
use mathlib.Core.Path.{◌≡◌}
use mathlib.Core.Logic.{⊎_elim}
use mathlib.Core.List.{List, [], ◌∷◌}
use mathlib.Core.Bool.{Bool, true, false, cond, ◌&&◌}
use Rattle.model.specs.Model.{Model, Member, quota}
use Rattle.model.specs.Support.{sum, total, carries}
use Rattle.model.proofs.Lists.{lt_or_ge}
use Rattle.model.proofs.Support.{carries-parts}

-- only what stands in both sets is counted twice
pub overlap : (A B : Member → Bool) (ms : List Member) → sum A ms + sum B ms ≤ total ms + sum (λ x. A x && B x) ms
unfolding sum
overlap A B [] = zero-le
overlap A B (x ∷ xs) = go (overlap A B xs) (A x) (B x)
  where
    go : sum A xs + sum B xs ≤ total xs + sum (λ y. A y && B y) xs → (a b : Bool) →
        cond a x.bond 0 + sum A xs + (cond b x.bond 0 + sum B xs) ≤ x.bond + total xs + (cond (a && b) x.bond 0 + sum (λ y. A y && B y) xs)
    go ih true true = omega arith
    go ih true false = omega arith
    go ih false true = omega arith
    go ih false false = omega arith

sub_mul : (a b c : ℕ) → (a - b) * c ≡ a * c - b * c
sub_mul a b c = cc (mul_comm (a - b) c, mul-sub c a b, mul_comm c a, mul_comm c b)

-- where each of two sets holds p of q parts, the members in both hold 2p - q of q parts
pub shared : (p q : ℕ) (A B : Member → Bool) (ms : List Member) →
    p * total ms ≤ q * sum A ms → p * total ms ≤ q * sum B ms → (2 * p - q) * total ms ≤ q * sum (λ x. A x && B x) ms
shared p q A B ms a b =
    omega (
      arith,
      mul-le-mul_left q (overlap A B ms),
      mul-add q (sum A ms) (sum B ms),
      mul-add q (total ms) (sum (λ x. A x && B x) ms),
      sub_mul (2 * p) q (total ms),
      mul_assoc 2 p (total ms),
    )

-- where a quorum is at least 2 of 3 parts, that is at least a third
pub third : (p q total named : ℕ) → 0 < q → 2 * q ≤ 3 * p → (2 * p - q) * total ≤ q * named → total ≤ 3 * named
third p q total named some most share = go (2 * p - q) (omega arith) share
  where
    go : (d : ℕ) → q ≤ 3 * d → d * total ≤ q * named → total ≤ 3 * named
    go d h s =
        ⊎_elim
        (λ more. absurd (omega (arith, mul-le-mul_left q more, mul-le-mul_right total h)))
        (λ no_more. no_more)
        (lt_or_ge (3 * named) total)

-- two sets that carry a checkpoint each, by the quota that is held: the members in both hold 2p - q of q parts
pub carriers_share : (m : Model) (t u : ℕ) (A B : Member → Bool) → carries m t A ≡ true → carries m u B ≡ true
    → (2 * (quota m).p - (quota m).q) * total m.members ≤ (quota m).q * sum (λ x. A x && B x) m.members
carriers_share m t u A B a b =
    shared (quota m).p (quota m).q A B m.members (carries-parts m t A a).1 (carries-parts m u B b).1
