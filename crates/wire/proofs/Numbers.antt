-- The library's integers of bytes are the model's: over any width, in each way to read or write them.
use Prim.Native.Nat.{ℕ, zero, suc, ◌+◌, ◌*◌, ◌-◌, ◌/◌, ◌%◌, ◌^◌, ◌≤◌}
use native.Mathlib.Omega.{arith}
use native.Mathlib.Nat.{pow-suc, mul_assoc, div-one, sub-zero, suc-sub-suc}
use mathlib.Core.Path.{◌≡◌, refl, sym, ap, ap₂, ◌∙◌}
use mathlib.Core.List.{List, [], ◌∷◌}
use lib.ListN.{length, get_or}
use Rattle.std.specs.Int.{Width, w8, w16, w32, w64, w128, byte_len, byte_at, byte_worth, sum_through}
use Rattle.std.specs.Int.{bytes_high_first, from_be_bytes, from_le_bytes, to_be_bytes}
use Rattle.model.specs.Bytes.{be_of, be_bytes, field, part}
use Rattle.wire.specs.Words.{le_of}
use Rattle.wire.proofs.Parts.{part_length}

-- ---- reading: the library's integer of k + 1 bytes is the sum of what each is worth

-- a sum's first term apart
sum_first : (f : ℕ → ℕ) (k : ℕ) → sum_through f (suc k) ≡ f 0 + sum_through (λ i. f (suc i)) k
sum_first f zero = refl
sum_first f (suc k) = omega (arith, sum_first f k)

sum_256 : (f : ℕ → ℕ) (k : ℕ) → sum_through (λ i. f i * 256) k ≡ sum_through f k * 256
sum_256 f zero = refl
sum_256 f (suc k) = omega (arith, sum_256 f k)

worth : (i b : ℕ) → byte_worth i b ≡ b * 256 ^ i
worth zero b = omega arith
worth (suc i) b = refl

-- the first of them the highest
be_sum : ℕ → List ℕ → ℕ
be_sum k bs = sum_through (λ i. byte_worth (k - i) (get_or bs i 0)) k

be_sum-more : (k b : ℕ) (bs : List ℕ) → be_sum (suc k) (b ∷ bs) ≡ b * 256 ^ suc k + be_sum k bs
unfolding be_sum
be_sum-more k b bs =
    sum_first (λ i. byte_worth (suc k - i) (get_or (b ∷ bs) i 0)) k ∙ ap₂ ◌+◌ first others
  where
    first : byte_worth (suc k - 0) b ≡ b * 256 ^ suc k
    first = rw sub-zero refl

    others : sum_through (λ i. byte_worth (suc k - suc i) (get_or bs i 0)) k ≡ be_sum k bs
    others = ap (λ (f : ℕ → ℕ). sum_through f k) (λ t i. byte_worth (suc-sub-suc k i t) (get_or bs i 0))

be_of_sum : (k : ℕ) (bs : List ℕ) → length bs ≡ suc k → be_sum k bs ≡ be_of bs
unfolding be_of be_sum
be_of_sum k [] long = absurd (omega arith)
be_of_sum zero (b ∷ []) long = omega arith
be_of_sum zero (b ∷ x ∷ bs) long = absurd (omega arith)
be_of_sum (suc k) (b ∷ bs) long =
    let rest : length bs ≡ suc k = omega (arith, long) in
    be_sum-more k b bs ∙ ap₂ (λ (w n : ℕ). b * 256 ^ w + n) (sym rest) (be_of_sum k bs rest)

-- the first of them the lowest
le_sum : ℕ → List ℕ → ℕ
le_sum k bs = sum_through (λ i. byte_worth i (get_or bs i 0)) k

le_sum-more : (k b : ℕ) (bs : List ℕ) → le_sum (suc k) (b ∷ bs) ≡ b + le_sum k bs * 256
unfolding le_sum
le_sum-more k b bs =
    sum_first (λ i. byte_worth i (get_or (b ∷ bs) i 0)) k
    ∙ ap (λ (f : ℕ → ℕ). b + sum_through f k) (λ t i. higher i (get_or bs i 0) t)
    ∙ ap (λ (n : ℕ). b + n) (sum_256 (λ i. byte_worth i (get_or bs i 0)) k)
  where
    higher : (i a : ℕ) → byte_worth (suc i) a ≡ byte_worth i a * 256
    higher i a = rw (worth i a, pow-suc, mul_assoc) refl

le_of_sum : (k : ℕ) (bs : List ℕ) → length bs ≡ suc k → le_sum k bs ≡ le_of bs
unfolding le_of le_sum
le_of_sum k [] long = absurd (omega arith)
le_of_sum zero (b ∷ []) long = omega arith
le_of_sum zero (b ∷ x ∷ bs) long = absurd (omega arith)
le_of_sum (suc k) (b ∷ bs) long = le_sum-more k b bs ∙ omega (arith, le_of_sum k bs (omega (arith, long)))

some_bytes : (w : Width) → byte_len w ≡ suc (byte_len w - 1)
some_bytes w8 = refl
some_bytes w16 = refl
some_bytes w32 = refl
some_bytes w64 = refl
some_bytes w128 = refl

-- as many bytes as the type has
module _ (w : Width) (bs : List ℕ) (long : length bs ≡ byte_len w) where
  pub be_of_width : from_be_bytes w bs ≡ be_of bs
  unfolding be_sum
  be_of_width = be_of_sum (byte_len w - 1) bs (long ∙ some_bytes w)

  pub le_of_width : from_le_bytes w bs ≡ le_of bs
  unfolding le_sum
  le_of_width = le_of_sum (byte_len w - 1) bs (long ∙ some_bytes w)

-- so many of a log, at an offset
module _ (w : Width) (at : ℕ) (s : List ℕ) (fits : at + byte_len w ≤ length s) where
  pub field_of_width : from_be_bytes w (part at (byte_len w) s) ≡ field at (byte_len w) s
  unfolding field
  field_of_width = be_of_width w (part at (byte_len w) s) (part_length at (byte_len w) s fits)

  pub word_of_width : from_le_bytes w (part at (byte_len w) s) ≡ le_of (part at (byte_len w) s)
  word_of_width = le_of_width w (part at (byte_len w) s) (part_length at (byte_len w) s fits)

-- ---- writing

high_first : (k n : ℕ) → bytes_high_first k n ≡ be_bytes k n
unfolding be_bytes
high_first zero n = refl
high_first (suc k) n = ap₂ ◌∷◌ (at_byte k) (high_first k n)
  where
    at_byte : (i : ℕ) → byte_at i n ≡ n / 256 ^ i % 256
    at_byte zero = rw div-one refl
    at_byte (suc i) = refl

pub be_bytes_of_width : (w : Width) (n : ℕ) → to_be_bytes w n ≡ be_bytes (byte_len w) n
be_bytes_of_width w n = high_first (byte_len w) n
