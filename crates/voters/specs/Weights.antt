-- What the members behind a link weigh, and what a quorum is measured against.
use Rattle.std.specs.Prelude.{ℕ, ◌*◌, ◌<◌, ◌≤◌, ◌≡◌, List, Bool, length, get_or}
use Rattle.model.specs.Limits.{member_limit, bond_limit, part_limit}
use Rattle.model.specs.Model.{Model, quota}
use Rattle.model.specs.Support.{total, quorum}
use Rattle.voters.specs.declared.Voters.{Voters}
use Rattle.voters.specs.declared.Bar.{Bar}
use Rattle.voters.specs.Bits.{among, sum_below}

-- the first `members` bonds are there, and none is above the limit
pub record Bonds (bonds : List ℕ) (members : ℕ) : Type 0 where
  pub fit : members ≤ member_limit
  pub long : members ≤ length bonds
  pub each : (i : ℕ) → i < members → get_or bonds i 0 ≤ bond_limit

-- the bonds of the voters among the first `members`
abbrev pub weight_of : List ℕ → ℕ → Voters → ℕ
weight_of bonds members v = sum_below members (among v) (λ i. get_or bonds i 0)

-- a bar whose numbers are small enough to be multiplied
pub record Fits (bar : Bar) : Type 0 where
  pub p : bar.quota.p ≤ part_limit
  pub q : bar.quota.q ≤ part_limit
  pub whole : bar.total ≤ member_limit * bond_limit

-- the bar by a model's rule and members
pub record IsBar (m : Model) (bar : Bar) : Type 0 where
  pub parts : bar.quota ≡ quota m
  pub whole : bar.total ≡ total m.members

-- bonds that come to `part` are a quorum
abbrev pub enough : ℕ → Bar → Bool
enough part bar = quorum bar.quota part bar.total

-- these voters are a quorum
abbrev pub carried : List ℕ → ℕ → Bar → Voters → Bool
carried bonds members bar v = enough (weight_of bonds members v) bar
