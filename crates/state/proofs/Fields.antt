-- A part, and a field, of the bytes from an offset on.
use Prim.Native.Nat.{ℕ, ◌+◌}
use mathlib.Core.Path.{◌≡◌, ap}
use mathlib.Core.List.{List}
use lib.ListN.{drop, take}
use lib.Seq.{drop-drop}
use Rattle.model.specs.Bytes.{field, part}

pub part_at : (at i k : ℕ) (s : List ℕ) → part i k (drop at s) ≡ part (at + i) k s
part_at at i k s = ap (take k) (drop-drop i at s)

pub field_at : (at i k : ℕ) (s : List ℕ) → field i k (drop at s) ≡ field (at + i) k s
unfolding field
field_at at i k s = ap (λ (t : List ℕ). Rattle.model.specs.Bytes.be_of t) (part_at at i k s)
