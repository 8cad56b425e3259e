-- The heavier of two sets of voters, and the heaviest of the links to one target.
use Rattle.std.specs.Prelude.{ℕ, zero, suc, ◌≡◌, List, cond, ltb}
use Rattle.voters.specs.declared.Voters.{Voters}
use Rattle.voters.specs.Bits.{nobody}
use Rattle.voters.specs.Weights.{weight_of}
use Rattle.tally.specs.declared.links.Mark.{Mark}
use Rattle.tally.specs.declared.links.Weighed.{Weighed}
use Rattle.tally.specs.Marks.{justified_at}

-- the bonds beside some voters are theirs
abbrev pub IsWeighed : List ℕ → ℕ → Weighed → Type 0
IsWeighed bonds members r = r.bonds ≡ weight_of bonds members r.voters

-- of two sets of voters the heavier, the first where they weigh the same
unfoldable pub heavier : (weight : Voters → ℕ) → Voters → Voters → Voters
heavier weight one other = cond (ltb (weight one) (weight other)) other one

-- the heaviest voters of the justified places below n; nobody where those of each weigh nothing
unfoldable pub heaviest : (weight : Voters → ℕ) → List Mark → (ℕ → Voters) → ℕ → Voters
heaviest weight marks tally zero = nobody
heaviest weight marks tally (suc s) =
    heavier weight (heaviest weight marks tally s) (cond (justified_at marks s) (tally s) nobody)

-- they are the heaviest of the justified places below n, with what they weigh
abbrev pub IsHeaviest : List ℕ → ℕ → List Mark → (ℕ → Voters) → ℕ → Weighed → Type 0
IsHeaviest bonds members marks tally n r =
    IsWeighed bonds members r × (r.voters ≡ heaviest (weight_of bonds members) marks tally n)
