-- Whether the bytes at hand are worth a call: by the tests that the code makes.
use Prim.Native.Nat.{ℕ, ◌≤◌, ◌<◌}
use native.Mathlib.Omega.{arith}
use mathlib.Core.Path.{◌≡◌, sym, ap}
use mathlib.Core.List.{List, [], ◌∷◌}
use mathlib.Core.Bool.{Bool, true, false, cond, ◌||◌, true≢false}
use borrow.Author.Tests.{leb-true, leb-false}
use lib.Dec.{leb}
use lib.ListN.{length, get_or}
use Rattle.model.specs.Log.{Kind, member_kind, checkpoint_kind, vote_kind, quorum_kind, bundle_kind, other_kind, kind_of}
use Rattle.model.specs.Log.{size_of}
use Rattle.model.specs.Log.{record_size}
use Rattle.buffered.specs.Hold.{whole?, ready?}

-- a record that is whole has its bytes
pub whole-size : (s : List ℕ) → whole? s ≡ true → (0 < length s) × (record_size (get_or s 0 0) ≤ length s)
unfolding whole?
whole-size [] e = absurd (true≢false (sym e))
whole-size (kind ∷ rest) e = (omega arith, leb-true (record_size kind) (length (kind ∷ rest)) e)

module _ (s : List ℕ) where
  pub at-end : (begun at_end : Bool) → at_end ≡ true → true ≡ ready? begun at_end s
  unfolding ready?
  at-end begun at_end e = ap (λ (b : Bool). b || cond begun (whole? s) (leb 37 (length s))) (sym e)

  pub not_at_end : (begun at_end b : Bool) → at_end ≡ false → begun ≡ b → cond b (whole? s) (leb 37 (length s)) ≡ ready? begun at_end s
  unfolding ready?
  not_at_end begun at_end b e f = rw (e, f)

size-bound : (kind : ℕ) → record_size kind ≤ 89
unfolding record_size size_of
size-bound kind = go (kind_of kind)
  where
    go : (k : Kind) → size_of k ≤ 89
    go member_kind = omega arith
    go checkpoint_kind = omega arith
    go vote_kind = omega arith
    go quorum_kind = omega arith
    go bundle_kind = omega arith
    go other_kind = omega arith

not_whole : (s : List ℕ) → whole? s ≡ false → length s < 89
unfolding whole?
not_whole [] e = omega arith
not_whole (kind ∷ rest) e = omega (arith, leb-false (record_size kind) (length (kind ∷ rest)) e, size-bound kind)

-- where they are not, there are fewer than the longest record has
pub few : (begun at_end : Bool) (s : List ℕ) → ready? begun at_end s ≡ false → length s < 89
unfolding ready?
few begun true s e = absurd (true≢false e)
few true false s e = not_whole s e
few false false s e = omega (arith, leb-false 37 (length s) e)
