-- What a record is decoded as: one eliminator, over the record and the bytes that reading on passes over.
use Prim.Native.Nat.{ℕ, suc, ◌-◌, ◌<◌, ◌≤◌}
use native.Mathlib.Omega.{arith}
use mathlib.Core.Path.{◌≡◌, refl, sym, ap, ◌∙◌, subst}
use mathlib.Core.List.{List, [], ◌∷◌}
use mathlib.Core.Bool.{Bool, true, false, cond}
use borrow.Author.Tests.{ltb-false, lt-ltb, le-ltb, ne_eqb}
use lib.ListN.{length, get_or, drop, length-drop, drop_of_length-le}
use lib.Seq.{drop-cons}
use lib.Dec.{ltb}
use Rattle.model.specs.Bytes.{part, field}
use Rattle.model.specs.Log.{Record, no_record, unknown_kind, cut_record, member_record, checkpoint_record, vote_record}
use Rattle.model.specs.Log.{bundle_record, quorum_record, Kind, member_kind, checkpoint_kind, vote_kind, quorum_kind}
use Rattle.model.specs.Log.{bundle_kind, other_kind, kind_of, size_of, decode_as, record_size, decode, record_length}

-- what is to be shown for each kind of record at the start of s, where it is whole
pub record EachRecord (P : Record → ℕ → Type 0) (s : List ℕ) : Type 0 where
  pub nothing : P no_record 0
  pub unknown : P unknown_kind 0
  pub cut : P cut_record 0
  pub member : 11 ≤ length s → P (member_record (field 1 2 s) (field 3 8 s)) 11
  pub checkpoint : 65 ≤ length s → P (checkpoint_record (part 1 32 s) (part 33 32 s)) 65
  pub vote : 75 ≤ length s → P (vote_record (field 1 2 s) (part 3 32 s) (part 35 32 s) (field 67 4 s) (field 71 4 s)) 75
  pub bundle : 89 ≤ length s
      → P (bundle_record (part 1 16 s) (part 17 32 s) (part 49 32 s) (field 81 4 s) (field 85 4 s)) 89
  pub quorum : 5 ≤ length s → P (quorum_record (field 1 2 s) (field 3 2 s)) 5

pub decode_elim : (P : Record → ℕ → Type 0) (s : List ℕ) → EachRecord P s → P (decode s) (record_length s)
unfolding decode record_length decode_as record_size size_of
decode_elim P [] h = h.nothing
decode_elim P (b ∷ s) h = go (kind_of b) (ltb (length (b ∷ s)) (size_of (kind_of b))) refl
  where
    all : List ℕ
    all = b ∷ s

    go : (k : Kind) (c : Bool) → ltb (length all) (size_of k) ≡ c → P (cond c cut_record (decode_as k all)) (cond c 0 (size_of k))
    go k true e = h.cut
    go member_kind false e = h.member (ltb-false _ _ e)
    go checkpoint_kind false e = h.checkpoint (ltb-false _ _ e)
    go vote_kind false e = h.vote (ltb-false _ _ e)
    go quorum_kind false e = h.quorum (ltb-false _ _ e)
    go bundle_kind false e = h.bundle (ltb-false _ _ e)
    go other_kind false e = h.unknown

-- ---- by the first byte

-- a byte that begins no record
pub other-kind : (b : ℕ) → (b ≡ 1 → ⊥) → (b ≡ 2 → ⊥) → (b ≡ 3 → ⊥) → (b ≡ 4 → ⊥) → (b ≡ 5 → ⊥)
    → kind_of b ≡ other_kind
unfolding kind_of
other-kind b one two three four five =
    rw (ne_eqb b 1 one, ne_eqb b 2 two, ne_eqb b 3 three, ne_eqb b 4 four, ne_eqb b 5 five)

-- what stands at the start of t, and the bytes that reading on passes over
pub record Begins (t : List ℕ) (r : Record) (n : ℕ) : Type 0 where
  pub decoded : decode t ≡ r
  pub long : record_length t ≡ n

pub begins_cut : (b : ℕ) (s : List ℕ) → length (b ∷ s) < record_size b → Begins (b ∷ s) cut_record 0
unfolding decode record_length
begins_cut b s short = let e = lt-ltb _ _ short in record { decoded = rw e; long = rw e }

pub begins_whole : (b : ℕ) (s : List ℕ) → record_size b ≤ length (b ∷ s) → Begins (b ∷ s) (decode_as (kind_of b) (b ∷ s)) (record_size b)
unfolding decode record_length
begins_whole b s fits = let e = le-ltb _ _ fits in record { decoded = rw e; long = rw e }

-- from an offset of a log on
module _ (at : ℕ) (log : List ℕ) where
  pub none-at : length log ≤ at → Begins (drop at log) no_record 0
  unfolding decode record_length
  none-at h = subst (λ (t : List ℕ). Begins t no_record 0) (sym (drop_of_length-le log h)) (record { decoded = refl; long = refl })

  module _ (inside : at < length log) where
    abbrev kind : ℕ
    kind = get_or log at 0

    abbrev rest : List ℕ
    rest = drop (suc at) log

    from-kind : drop at log ≡ kind ∷ rest
    from-kind = drop-cons log at 0 inside

    left : length (kind ∷ rest) ≡ length log - at
    left = sym (ap length from-kind) ∙ length-drop at log

    pub cut_at : length log - at < record_size kind → Begins (drop at log) cut_record 0
    cut_at short = subst (λ (t : List ℕ). Begins t cut_record 0) (sym from-kind) (begins_cut kind rest (omega (arith, left)))

    pub whole-at : record_size kind ≤ length log - at → Begins (drop at log) (decode_as (kind_of kind) (drop at log)) (record_size kind)
    whole-at fits =
        subst (λ (t : List ℕ). Begins t (decode_as (kind_of kind) t) (record_size kind)) (sym from-kind) (begins_whole kind rest (omega (arith, left)))
