-- How wide the fields of a row are, and a row put together from them.
use Prim.Native.Nat.{ℕ, ◌+◌, ◌≤◌}
use native.Mathlib.Omega.{arith}
use mathlib.Core.Path.{◌≡◌, ◌∙◌}
use mathlib.Core.List.{◌++◌, append_assoc}
use lib.ListN.{length, length-append}
use Rattle.model.specs.Paper.{blanks, left, right, row_text}
use Rattle.model.specs.Report.{decimal, newline, status_text}
use Rattle.model.specs.declared.Status.{Status}
use Rattle.model.proofs.Columns.{left-long, right-long}
use Rattle.model.proofs.Paper.{status-short}

-- a field is as wide as its columns and the two blanks after it
pub field_wide : (columns n : ℕ) → length (decimal n) ≤ columns
    → length (right columns (decimal n) ++ blanks 2) ≡ columns + 2
field_wide columns n fits =
    length-append (right columns (decimal n)) (blanks 2) ∙ omega (arith, right-long columns (decimal n) fits)

pub standing_wide : (s : Status) → length (left 12 (status_text s) ++ blanks 2) ≡ 14
standing_wide s =
    length-append (left 12 (status_text s)) (blanks 2) ∙ omega (arith, left-long 12 (status_text s) (status-short s))

-- the fields, one after another
pub row_of_fields : (place height : ℕ) (s : Status) (number bonds : ℕ)
    → (right 5 (decimal place) ++ blanks 2)
    ++ (right 10 (decimal height) ++ blanks 2)
    ++ (left 12 (status_text s) ++ blanks 2)
    ++ (right 5 (decimal number) ++ blanks 2)
    ++ right 24 (decimal bonds)
    ++ newline
    ≡ row_text place height s number bonds
unfolding row_text
row_of_fields place height s number bonds = simp append_assoc
