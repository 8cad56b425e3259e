-- What a decision of the code says of the bits of a bundle.
use Rattle.std.specs.Prelude.{ℕ, ◌<◌, ◌≤◌, ◌≡◌, List, false, leb, length, Result, Ok, Err}
use Rattle.model.specs.Bits.{set_places}
use Rattle.model.specs.Bytes.{part}
use Rattle.model.specs.Limits.{member_limit}
use Rattle.model.specs.Lists.{any}
use Rattle.model.specs.declared.Refusal.{Refusal}
use Rattle.registry.specs.declared.Decision.{Decision}
use Rattle.registry.specs.declared.Decision.TheVariants.{Nothing, Member, Checkpoint, Vote, Bundle, Quorum}

-- of a bundle at the start of s that is not refused whole: so many bits are set, each of one of the members
pub record Bits (members n : ℕ) (s : List ℕ) : Type 0 where
  pub long : 89 ≤ length s
  pub number : n ≡ length (set_places (part 1 16 s))
  pub some : 0 < n
  pub few : n ≤ member_limit
  pub held : any (λ p. leb members p) (set_places (part 1 16 s)) ≡ false

abbrev pub BitsFit : ℕ → List ℕ → Result Decision Refusal → Type 0
BitsFit members s (Err r) = Unit {0}
BitsFit members s (Ok Nothing) = Unit {0}
BitsFit members s (Ok (Member id bond)) = Unit {0}
BitsFit members s (Ok (Checkpoint p h)) = Unit {0}
BitsFit members s (Ok (Vote b)) = Unit {0}
BitsFit members s (Ok (Bundle n l)) = Bits members n s
BitsFit members s (Ok (Quorum k)) = Unit {0}
