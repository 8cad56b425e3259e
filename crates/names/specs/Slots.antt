-- A slot for each name, made of all its bytes: two names with other slots are not the same.
use Rattle.std.specs.Prelude.{ℕ, ◌+◌, ◌*◌, ◌%◌, List}
use Rattle.model.specs.Bytes.{part}
use Rattle.wire.specs.Words.{le_of}

-- how many slots there are, a prime
abbrev pub slots : ℕ
slots = 15809

-- the words of a name at d and at d + 8, in one number
unfoldable pub pair_at : ℕ → List ℕ → ℕ
pair_at d name = le_of (part d 8 name) % slots + le_of (part (d + 8) 8 name) % slots * 1286

-- a name's four words in one number, as a slot. Any factors would do for what is proved; these spread the names
unfoldable pub slot_of : List ℕ → ℕ
slot_of name = (pair_at 0 name + pair_at 16 name * 1238) % slots
