-- Votes as numbers, each of its member's id and its two places.
use Rattle.std.specs.Prelude.{ℕ, ◌+◌, ◌*◌, ◌<◌, ◌≡◌, List, length, get_or}
use Rattle.model.specs.Limits.{vote_limit}
use Rattle.model.specs.declared.Place.{Place}
use Rattle.tables.specs.Places.{place_at}

abbrev pub pack : ℕ → ℕ → ℕ → ℕ
pack id source target = id * 4294967296 + source * 65536 + target

-- the first n votes, each as one number; a place is of 16 bits
pub record Packed (voters : List ℕ) (sources targets : List Place) (n : ℕ) (keys : List ℕ) : Type 0 where
  pub long : length keys ≡ vote_limit
  pub each : (i : ℕ) → i < n → get_or keys i 0 ≡ pack (get_or voters i 0) (place_at sources i) (place_at targets i)
  pub narrow : (i : ℕ) → i < n → (place_at sources i < 65536) × (place_at targets i < 65536)
