-- The rule for a quorum, by p and q of `Quota`: p of q parts of all bonds. Change request K5.
use Rattle.std.specs.Prelude.{◌*◌, ◌<◌, ◌≤◌, Bool, true, false, ◌&&◌, ltb, leb}
use Rattle.model.specs.Limits.{part_limit}
use Rattle.model.specs.declared.Quota.{Quota}

-- the rule that is held: the standard one, or the one that a record gave
pub data Rule : Type 0 where
  standard : Rule
  given : Quota → Rule

-- "Without the record it is 2 and 3."
unfoldable pub quota_of : Rule → Quota
quota_of standard = record { p = 2; q = 3 }
quota_of (given k) = k

-- "a quorum already given", be it 2 and 3
unfoldable pub given? : Rule → Bool
given? standard = false
given? (given k) = true

-- what is permitted: p is not above q, q is below 2p, above 0 and not above 1,000
pub record Permitted (k : Quota) : Type 0 where
  pub within : k.p ≤ k.q
  pub most : k.q < 2 * k.p
  pub some : 0 < k.q
  pub few : k.q ≤ part_limit

-- the test that computes it
unfoldable pub permitted? : Quota → Bool
permitted? k = leb k.p k.q && ltb k.q (2 * k.p) && ltb 0 k.q && leb k.q part_limit
