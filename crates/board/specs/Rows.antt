-- The lines that rows stand for.
use Rattle.std.specs.Prelude.{ℕ, List, cond, ltb, length, get_or}
use Rattle.model.specs.Paper.{row_text, blank_row}
use Rattle.model.specs.declared.Status.TheVariants.{Plain}
use Rattle.board.specs.declared.rows.Row.{Row}

-- the line of a place, from what is shown of it
abbrev pub line_of : Row → List ℕ
line_of r = row_text r.place.0 r.height.0 r.status r.number r.bonds

-- what is shown of a place; a row past the end means nothing
abbrev pub shown_at : List Row → ℕ → Row
shown_at rows p = get_or rows p (record { place = record { 0 = 0 }; height = record { 0 = 0 }; status = Plain; number = 0; bonds = 0 })

-- the line of a place: what its row has, or blanks past the rows
unfoldable pub row_in : List Row → ℕ → List ℕ
row_in rows p = cond (ltb p (length rows)) (line_of (shown_at rows p)) blank_row
