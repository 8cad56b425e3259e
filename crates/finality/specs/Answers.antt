-- The answers, in the model's terms.
use Rattle.std.specs.Prelude.{ℕ, ◌≡◌, List, Bool, ◌&&◌, not}
use Rattle.model.specs.Limits.{member_limit}
use Rattle.model.specs.Model.{Checkpoint}
use Rattle.model.specs.Support.{Support}
use Rattle.model.specs.Tree.{ancestor?}
use Rattle.voters.specs.declared.Voters.{Voters}
use Rattle.voters.specs.declared.Bar.{Bar}
use Rattle.voters.specs.Bits.{among, count_below}
use Rattle.voters.specs.Weights.{weight_of, enough}
use Rattle.finality.specs.declared.Backing.{Backing}

-- the backing that the voters give, by the bonds of the members
pub record IsBacking (bonds : List ℕ) (members : ℕ) (bar : Bar) (v : Voters) (b : Backing) : Type 0 where
  pub number : b.number ≡ count_below member_limit (among v)
  pub weight : b.bonds ≡ weight_of bonds members v
  pub yes? : b.quorum ≡ enough b.bonds bar

-- "their number, the sum of their bonds, and yes or no"
abbrev pub backing_of : Backing → Support
backing_of b = record { number = b.number; bonds = b.bonds; yes? = b.quorum }

-- p is a final place, by the test `fin`, and no ancestor of f
abbrev pub stray : (ℕ → Bool) → List Checkpoint → ℕ → ℕ → Bool
stray fin cs f p = fin p && not (ancestor? cs p f)
