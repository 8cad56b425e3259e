-- What was told of records, as bytes, one after another: of each the row that refused it, or 0, which is no row's
-- number. Of a bundle that is not refused whole there is one byte for each vote, the i-th that of the i-th bit set;
-- those after the first have 128 added, and so begin no record. A bundle with one bit set reads as a single record
-- does.
use Rattle.std.specs.Prelude.{ℕ, ◌+◌, ◌-◌, ◌%◌, ◌≤◌, ◌≡◌, length, drop, Result, Ok, Err}
use mathlib.Core.List.{List, [], ◌∷◌, ◌++◌, map, flat_map}
use Rattle.model.specs.Answer.{Answer, refused, answer, row_of}
use Rattle.model.specs.Bytes.{part}
use Rattle.model.specs.Change.{Told, nothing_left, taken, bundled}
use Rattle.model.specs.declared.Refusal.{Refusal}
use Rattle.state.specs.declared.Passed.{Passed}
use Rattle.state.specs.declared.Passed.TheVariants.{Nothing, Taken, Bundled}

abbrev pub later : ℕ → ℕ
later row = 128 + row

unfoldable pub marked : List ℕ → List ℕ
marked [] = []
marked (row ∷ rows) = row ∷ map later rows

-- the rows of a record, or of each of its votes
unfoldable pub rows_of : Answer Told → List ℕ
rows_of (refused n) = n ∷ []
rows_of (answer nothing_left) = 0 ∷ []
rows_of (answer taken) = 0 ∷ []
rows_of (answer (bundled os)) = map row_of os

abbrev pub entries_of : Answer Told → List ℕ
entries_of t = marked (rows_of t)

-- of several records
abbrev pub entries : List (Answer Told) → List ℕ
entries ts = flat_map entries_of ts

-- how many votes an outcome tells of; 0 where the record is no bundle, or is refused whole
abbrev pub votes_in : Result Passed Refusal → ℕ
votes_in (Ok Nothing) = 0
votes_in (Ok Taken) = 0
votes_in (Ok (Bundled n)) = n
votes_in (Err r) = 0

-- the rows of the last n of the first `used` entries
abbrev pub last_rows : (n used : ℕ) → List ℕ → List ℕ
last_rows n used bytes = map (λ e. e % 128) (part (used - n) n bytes)

-- the first `end` of the bytes lent are these, and the others are as they were
pub record Written (written before rows : List ℕ) (end : ℕ) : Type 0 where
  pub count : end ≡ length written
  pub room : end ≤ length before
  pub bytes : rows ≡ written ++ drop end before
