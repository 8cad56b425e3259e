-- The members of the votes, the votes in chains by target, and the voters of the links to one target.
use Rattle.std.specs.Prelude.{ℕ, ◌<◌, ◌≤◌, ◌≡◌, List, Bool, ◌&&◌, eqb, length, get_or, replicate}
use Rattle.model.specs.Limits.{member_limit, checkpoint_limit, vote_limit}
use Rattle.model.specs.Lists.{any_below, first_index}
use Rattle.model.specs.declared.Place.{Place}
use Rattle.tables.specs.Places.{place_at}
use Rattle.search.specs.Chains.{Bucketed, Chain}
use Rattle.voters.specs.declared.Voters.{Voters}
use Rattle.voters.specs.Bits.{nobody, among}

-- the voters of the link from s, which an array has
abbrev pub voters_at : List Voters → ℕ → Voters
voters_at voters s = get_or voters s nobody

-- no voter on any link
abbrev pub no_voters : List Voters
no_voters = replicate checkpoint_limit nobody

-- where the member with the id of vote k stands among the members
abbrev pub member_of : List ℕ → List ℕ → ℕ → ℕ
member_of ids voters k = first_index (λ x. eqb x (get_or voters k 0)) ids

-- `who` has the places of the first `count` votes' members
abbrev pub Placed : List ℕ → List ℕ → ℕ → List ℕ → Type 0
Placed ids voters count who = (k : ℕ) → k < count → get_or who k 0 ≡ member_of ids voters k

-- vote k has the target t
abbrev pub aims : List Place → ℕ → ℕ → Bool
aims targets t k = eqb (place_at targets k) t

-- vote k is of the member at place i, and has the source s
abbrev pub casts : List ℕ → List Place → ℕ → ℕ → ℕ → Bool
casts who sources s i k = eqb (get_or who k 0) i && eqb (place_at sources k) s

-- the first `count` votes are in chains by target
abbrev pub ByTarget : List Place → ℕ → List ℕ → List ℕ → Type 0
ByTarget targets count head next = Bucketed (λ k. place_at targets k) checkpoint_limit count head next

-- every vote below n is of a held member, from a held place, and its chain goes on with an earlier one
pub record Walkable (who : List ℕ) (sources : List Place) (next : List ℕ) (n : ℕ) : Type 0 where
  pub fit : n ≤ vote_limit
  pub who-long : n ≤ length who
  pub sources-long : n ≤ length sources
  pub next-long : n ≤ length next
  pub member : (k : ℕ) → k < n → get_or who k 0 < member_limit
  pub source : (k : ℕ) → k < n → place_at sources k < checkpoint_limit
  pub earlier : (k : ℕ) → k < n → get_or next k 0 ≤ k

-- `tally` gives the voters of each source's link, by the votes of the chain that begins with `first`
abbrev pub Tallied : List ℕ → List Place → List ℕ → ℕ → (ℕ → Voters) → Type 0
Tallied who sources next first tally =
    (on : ℕ → Bool) (count : ℕ)
    → Chain on count next first
    → (s i : ℕ)
    → s < checkpoint_limit
    → among (tally s) i ≡ any_below count (λ k. on k && casts who sources s i k)
