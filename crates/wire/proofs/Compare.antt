-- Two runs of bytes compared a byte at a time, the first byte first.
use Prim.Native.Nat.{ℕ, ◌+◌, ◌<◌, ◌≤◌}
use native.Mathlib.Omega.{arith}
use mathlib.Core.Path.{◌≡◌, sym, ◌∙◌}
use mathlib.Core.List.{List, [], ◌∷◌, ◌++◌}
use mathlib.Core.Bool.{Bool, ◌&&◌, and-true, and_assoc}
use lib.Dec.{eqb}
use lib.ListN.{length, get_or}
use Rattle.model.specs.Bytes.{part}
use Rattle.model.specs.Lists.{same_bytes}
use Rattle.wire.proofs.Parts.{part_length, part-more}

pub same-snoc : (xs ys : List ℕ) (x y : ℕ) → length xs ≡ length ys → same_bytes (xs ++ x ∷ []) (ys ++ y ∷ []) ≡ (same_bytes xs ys && eqb x y)
unfolding same_bytes
same-snoc [] [] x y h = and-true (eqb x y)
same-snoc [] (b ∷ ys) x y h = absurd (omega arith)
same-snoc (a ∷ xs) [] x y h = absurd (omega arith)
same-snoc (a ∷ xs) (b ∷ ys) x y h = rw (same-snoc xs ys x y (omega arith), and_assoc)

-- `e` says of the k bytes passed whether they are the same; so it does with the next byte
pub same_more : (i j n k : ℕ) (a b : List ℕ) (e : Bool) → (i + n ≤ length a) × (j + n ≤ length b) → k < n → e ≡ same_bytes (part i k a) (part j k b) → (e && eqb (get_or a (i + k) 0) (get_or b (j + k) 0)) ≡ same_bytes (part i (k + 1) a) (part j (k + 1) b)
same_more i j n k a b e fit h so =
    rw (part-more i k a (omega arith), part-more j k b (omega arith), same-snoc (part i k a) (part j k b) (get_or a (i + k) 0) (get_or b (j + k) 0) long, so)
  where
    long : length (part i k a) ≡ length (part j k b)
    long = part_length i k a (omega arith) ∙ sym (part_length j k b (omega arith))
