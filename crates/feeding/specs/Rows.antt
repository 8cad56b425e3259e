-- The lines of records that were passed, by their entries (crate reader): an entry below 128 begins a record, and one
-- from 128 on belongs to the record before it. Without the 128 (entry % 128) each is a row's number, or 0, which is
-- none.
use Rattle.std.specs.Prelude.{ℕ, ◌+◌, ◌%◌, List, [], ◌∷◌, ◌++◌, cond, eqb, ltb}
use Rattle.model.specs.Report.{refused_line}

abbrev pub row_line : (k row : ℕ) → List ℕ
row_line k row = cond (eqb row 0) [] (refused_line row k)

-- the number of the record that an entry is of, and that of the next one, where k is under way and `next` is next
abbrev pub number_at : (k next entry : ℕ) → ℕ
number_at k next entry = cond (ltb entry 128) next k

abbrev pub next_at : (next entry : ℕ) → ℕ
next_at next entry = cond (ltb entry 128) (next + 1) next

unfoldable pub lines_from : (k next : ℕ) → List ℕ → List ℕ
lines_from k next [] = []
lines_from k next (entry ∷ entries) =
    let j = number_at k next entry in
    row_line j (entry % 128) ++ lines_from j (next_at next entry) entries

-- numbered from k
abbrev pub entry_lines : ℕ → List ℕ → List ℕ
entry_lines k entries = lines_from k k entries

-- how many records begin
unfoldable pub beginning : List ℕ → ℕ
beginning [] = 0
beginning (entry ∷ entries) = cond (ltb entry 128) 1 0 + beginning entries
