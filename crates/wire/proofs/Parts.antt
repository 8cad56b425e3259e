-- A part of a list, an element longer: what a loop that goes forward over it has passed.
use Prim.Native.Nat.{ℕ, ◌+◌, ◌<◌, ◌≤◌}
use native.Mathlib.Omega.{arith}
use native.Mathlib.Numerals.{add-one}
use mathlib.Core.Path.{◌≡◌}
use mathlib.Core.List.{List, [], ◌∷◌, ◌++◌}
use lib.ListN.{length, drop, get_or, length-take, length-drop}
use lib.Seq.{take-suc, get_or-drop}
use Rattle.model.specs.Bytes.{part}

module _ (at k : ℕ) (s : List ℕ) where
  pub part_length : at + k ≤ length s → length (part at k s) ≡ k
  part_length h = simp (length-take, length-drop) (omega arith)

  pub part-more : at + k < length s → part at (k + 1) s ≡ part at k s ++ get_or s (at + k) 0 ∷ []
  part-more h = rw (add-one, take-suc (drop at s) k 0 inside, get_or-drop)
    where
      inside : k < length (drop at s)
      inside = simp length-drop (omega arith)
