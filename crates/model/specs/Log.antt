-- The log: its header and its five kinds of records. Document 01, "The log"; change request K3 for the bundle,
-- K5 for the quorum.
use Rattle.std.specs.Prelude.{ℕ, List, [], ◌∷◌, cond, not, length, take, eqb, ltb}
use Rattle.model.specs.Answer.{Answer, answer, row}
use Rattle.model.specs.Bytes.{part, field, ascii}
use Rattle.model.specs.Lists.{same_bytes}

-- rows 1 to 3; a right header gives the root's name
unfoldable pub header : List ℕ → Answer (List ℕ)
header log =
    row 1 (ltb (length log) 37)
    (row 2 (not (same_bytes (take 3 log) (ascii "FFW")))
    (row 3 (not (eqb (field 3 2 log) 1))
    (answer (part 5 32 log))))

-- what stands at the start of the bytes from an offset on
pub data Record : Type 0 where
  no_record : Record
  unknown_kind : Record
  cut_record : Record
  member_record : (id bond : ℕ) → Record
  checkpoint_record : (name parent : List ℕ) → Record
  vote_record : (id : ℕ) (source target : List ℕ) (source_height target_height : ℕ) → Record
  bundle_record : (bits source target : List ℕ) (source_height target_height : ℕ) → Record
  quorum_record : (p q : ℕ) → Record

-- the kinds of records; a first byte that begins no record is of the other kind
pub data Kind : Type 0 where
  member_kind : Kind
  checkpoint_kind : Kind
  vote_kind : Kind
  quorum_kind : Kind
  bundle_kind : Kind
  other_kind : Kind

unfoldable pub kind_of : ℕ → Kind
kind_of b =
    cond (eqb b 1) member_kind
    (cond (eqb b 2) checkpoint_kind
    (cond (eqb b 3) vote_kind
    (cond (eqb b 4) quorum_kind
    (cond (eqb b 5) bundle_kind other_kind))))

-- a record's bytes in all; 0 for a kind that is unknown
unfoldable pub size_of : Kind → ℕ
size_of member_kind = 11
size_of checkpoint_kind = 65
size_of vote_kind = 75
size_of quorum_kind = 5
size_of bundle_kind = 89
size_of other_kind = 0

-- a whole record
unfoldable pub decode_as : Kind → List ℕ → Record
decode_as member_kind s = member_record (field 1 2 s) (field 3 8 s)
decode_as checkpoint_kind s = checkpoint_record (part 1 32 s) (part 33 32 s)
decode_as vote_kind s = vote_record (field 1 2 s) (part 3 32 s) (part 35 32 s) (field 67 4 s) (field 71 4 s)
-- "p and q of 16 bits each"
decode_as quorum_kind s = quorum_record (field 1 2 s) (field 3 2 s)
-- "16 bytes of member bits, then source, target and two heights as in a vote"
decode_as bundle_kind s =
    bundle_record (part 1 16 s) (part 17 32 s) (part 49 32 s) (field 81 4 s) (field 85 4 s)
decode_as other_kind s = unknown_kind

-- the size by a record's first byte
unfoldable pub record_size : ℕ → ℕ
record_size b = size_of (kind_of b)

unfoldable pub decode : List ℕ → Record
decode [] = no_record
decode (b ∷ s) = cond (ltb (length (b ∷ s)) (record_size b)) cut_record (decode_as (kind_of b) (b ∷ s))

-- the bytes that reading on passes over: the record's, or none where it is unknown or cut, or nothing is left
unfoldable pub record_length : List ℕ → ℕ
record_length [] = 0
record_length (b ∷ s) = cond (ltb (length (b ∷ s)) (record_size b)) 0 (record_size b)
