-- The bytes at the front of a buffer, and what may be done with them.
use Rattle.std.specs.Prelude.{ℕ, ◌≤◌, ◌≡◌, List, [], ◌∷◌, Bool, false, cond, ◌||◌, leb, length, take}
use Rattle.model.specs.Log.{record_size}

-- the bytes begin with a whole record, or with a kind that is unknown
unfoldable pub whole? : List ℕ → Bool
whole? [] = false
whole? (kind ∷ rest) = leb (record_size kind) (length (kind ∷ rest))

-- The bytes at hand are worth a call: a header, a whole record, a kind that is unknown, or all that is left.
unfoldable pub ready? : (begun at_end : Bool) → List ℕ → Bool
ready? begun at_end bytes = at_end || cond begun (whole? bytes) (leb 37 (length bytes))

-- After a read there are as many bytes at hand as before, or more; those that were there stand as they were.
pub record IsFilled (have : ℕ) (before : List ℕ) (have' : ℕ) (after : List ℕ) : Type 0 where
  pub more : have ≤ have'
  pub inside : have' ≤ length after
  pub kept : take have after ≡ take have before
