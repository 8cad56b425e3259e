-- A header or a whole record at the front of some bytes is read there the same with any bytes t behind them.
use Prim.Native.Nat.{ℕ, ◌+◌, ◌<◌, ◌≤◌}
use native.Mathlib.Omega.{arith}
use mathlib.Core.Path.{◌≡◌, refl, sym, ap, ap₂, ◌∙◌}
use mathlib.Core.List.{List, [], ◌∷◌, ◌++◌}
use mathlib.Core.Bool.{Bool, true, false, cond}
use borrow.Author.Tests.{eqb-false, le-ltb, ltb-false}
use lib.Dec.{eqb, ltb}
use lib.ListN.{length, take, drop, length-append, length-drop}
use lib.Seq.{take-append-le, drop-append-le}
use Rattle.model.specs.Bytes.{part, field, be_of}
use Rattle.model.specs.Decide.{decide_record, decide}
use Rattle.model.specs.Log.{member_record, checkpoint_record, vote_record, bundle_record, quorum_record, header, Kind}
use Rattle.model.specs.Log.{member_kind, checkpoint_kind, vote_kind, quorum_kind, bundle_kind, other_kind, kind_of, size_of}
use Rattle.model.specs.Log.{decode_as, record_size, record_length}
use Rattle.model.specs.Model.{Model}
use Rattle.model.proofs.Lists.{clash}
use Rattle.model.proofs.Log.{begins_whole}

module _ (at k : ℕ) (s t : List ℕ) (fits : at + k ≤ length s) where
  part-front : part at k (s ++ t) ≡ part at k s
  part-front = ap (take k) (drop-append-le at s t (omega arith)) ∙ take-append-le k (drop at s) t (omega (arith, length-drop at s))

  field-front : field at k (s ++ t) ≡ field at k s
  unfolding field
  field-front = ap be_of part-front

still-long : (n : ℕ) (s t : List ℕ) → n ≤ length s → ltb (length (s ++ t)) n ≡ false
still-long n s t h = le-ltb (length (s ++ t)) n (omega (arith, length-append s t))

-- the header is read from any first piece that holds it
pub header_in_piece : (s t : List ℕ) → 37 ≤ length s → header (s ++ t) ≡ header s
unfolding header
header_in_piece s t h =
    rw (still-long 37 s t h, le-ltb (length s) 37 h, take-append-le 3 s t (omega arith), field-front 3 2 s t (omega arith), part-front 5 32 s t (omega arith))

-- ---- a whole record

decoded-front : (k : Kind) (s t : List ℕ) → size_of k ≤ length s → decode_as k (s ++ t) ≡ decode_as k s
unfolding size_of decode_as
decoded-front member_kind s t h = ap₂ member_record (field-front 1 2 s t (omega arith)) (field-front 3 8 s t (omega arith))
decoded-front checkpoint_kind s t h = ap₂ checkpoint_record (part-front 1 32 s t (omega arith)) (part-front 33 32 s t (omega arith))
decoded-front vote_kind s t h =
    let id = field-front 1 2 s t (omega arith) in
    let source = part-front 3 32 s t (omega arith) in
    let target = part-front 35 32 s t (omega arith) in
    let low = field-front 67 4 s t (omega arith) in
    let high = field-front 71 4 s t (omega arith) in
    λ i. vote_record (id i) (source i) (target i) (low i) (high i)
decoded-front quorum_kind s t h =
    ap₂ quorum_record (field-front 1 2 s t (omega arith)) (field-front 3 2 s t (omega arith))
decoded-front bundle_kind s t h =
    let bits = part-front 1 16 s t (omega arith) in
    let source = part-front 17 32 s t (omega arith) in
    let target = part-front 49 32 s t (omega arith) in
    let low = field-front 81 4 s t (omega arith) in
    let high = field-front 85 4 s t (omega arith) in
    λ i. bundle_record (bits i) (source i) (target i) (low i) (high i)
decoded-front other_kind s t h = refl

-- all of a record that is passed over is there
record_fits : (b : ℕ) (r : List ℕ) → eqb (record_length (b ∷ r)) 0 ≡ false → record_size b ≤ length (b ∷ r)
unfolding record_length
record_fits b r e = go (ltb (length (b ∷ r)) (record_size b)) refl e
  where
    go : (cut : Bool) → ltb (length (b ∷ r)) (record_size b) ≡ cut → eqb (cond cut 0 (record_size b)) 0 ≡ false → record_size b ≤ length (b ∷ r)
    go true c e = clash refl e
    go false c e = ltb-false (length (b ∷ r)) (record_size b) c

-- behind a whole record less is left
pub left_shorter : (s : List ℕ) → eqb (record_length s) 0 ≡ false → length (drop (record_length s) s) < length s
unfolding record_length
left_shorter [] e = clash refl e
left_shorter (kind ∷ r) e = omega (arith, length-drop (record_length (kind ∷ r)) (kind ∷ r), eqb-false (record_length (kind ∷ r)) 0 e)

-- what is decided on it, and what is left behind it
pub record SameFront (s t : List ℕ) : Type 0 where
  pub size : record_length (s ++ t) ≡ record_length s
  pub decided : (m : Model) → decide m (s ++ t) ≡ decide m s
  pub behind : drop (record_length (s ++ t)) (s ++ t) ≡ drop (record_length s) s ++ t

pub whole-front : (s t : List ℕ) → eqb (record_length s) 0 ≡ false → SameFront s t
unfolding record_length decide record_size
whole-front [] t e = clash refl e
whole-front (b ∷ r) t e =
    let fits = record_fits b r e in
    let here = begins_whole b r fits in
    let longer = begins_whole b (r ++ t) (omega (arith, fits, length-append (b ∷ r) t)) in
    record {
      size = longer.long ∙ sym here.long;
      decided = λ m. ap (decide_record m) (longer.decoded ∙ decoded-front (kind_of b) (b ∷ r) t fits ∙ sym here.decoded);
      behind =
          ap (λ (n : ℕ). drop n (b ∷ (r ++ t))) longer.long
          ∙ drop-append-le (record_size b) (b ∷ r) t fits
          ∙ ap (λ (n : ℕ). drop n (b ∷ r) ++ t) (sym here.long);
    }
