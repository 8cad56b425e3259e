-- The lines that rows stand for.
use Prim.Native.Nat.{ℕ, ◌<◌, ◌≤◌}
use mathlib.Core.Path.{◌≡◌}
use mathlib.Core.List.{List, ◌++◌}
use borrow.Author.Tests.{lt-ltb, le-ltb}
use lib.ListN.{length}
use Rattle.model.specs.Paper.{blank_row, blanks}
use Rattle.model.specs.Report.{newline}
use Rattle.board.specs.Rows.{line_of, shown_at, row_in}
use Rattle.board.specs.declared.rows.Row.{Row}

module _ (rows : List Row) (p : ℕ) where
  -- a row that is there
  pub held-row : p < length rows → line_of (shown_at rows p) ≡ row_in rows p
  unfolding row_in
  held-row h = rw (lt-ltb p (length rows) h)

  pub missing_row : length rows ≤ p → blanks 64 ++ newline ≡ row_in rows p
  unfolding row_in blank_row
  missing_row h = rw (le-ltb p (length rows) h)
