-- The flat table of names, cut into names.
use Rattle.std.specs.Prelude.{ℕ, zero, suc, List, [], ◌∷◌, take, drop}

-- the first n names of a flat table, of 32 bytes each
unfoldable pub rows : ℕ → List ℕ → List (List ℕ)
rows zero l = []
rows (suc n) l = take 32 l ∷ rows n (drop 32 l)
