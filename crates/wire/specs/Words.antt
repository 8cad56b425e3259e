-- Bytes as a word of the machine.
use Rattle.std.specs.Prelude.{ℕ, ◌+◌, ◌*◌, List, [], ◌∷◌}

-- the unsigned integer that the bytes are, the first byte the lowest
unfoldable pub le_of : List ℕ → ℕ
le_of [] = 0
le_of (b ∷ bs) = le_of bs * 256 + b
