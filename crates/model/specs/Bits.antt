-- The member bits of a bundle. "The bit of member place p is bit p mod 8 of byte p div 8, the lowest bit being 0."
use Rattle.std.specs.Prelude.{ℕ, ◌/◌, ◌%◌, ◌^◌, List, [], ◌∷◌, Bool, cond, get_or, eqb}
use Rattle.model.specs.Limits.{member_limit}
use Rattle.model.specs.Lists.{concat_below}

unfoldable pub bit_set : List ℕ → ℕ → Bool
bit_set bits p = eqb (get_or bits (p / 8) 0 / 2 ^ (p % 8) % 2) 1

-- the member places whose bits are set, rising
unfoldable pub set_places : List ℕ → List ℕ
set_places bits = concat_below member_limit (λ p. cond (bit_set bits p) (p ∷ []) [])
