-- The board paper of request K2, byte for byte: what it shows of each checkpoint, and how its pages are laid out. "Each
-- line has exactly 64 columns, then one newline byte".
use Rattle.std.specs.Prelude.{ℕ, zero, suc, ◌+◌, ◌-◌, ◌*◌, ◌/◌, List, ◌++◌, cond, length, replicate, ltb}
use Rattle.model.specs.Bytes.{ascii}
use Rattle.model.specs.Finality.{justified?, status}
use Rattle.model.specs.Lists.{concat_below}
use Rattle.model.specs.Model.{Model, height_of, place_held}
use Rattle.model.specs.Report.{decimal, newline, status_text}
use Rattle.model.specs.Support.{Support, support, unsupported}
use Rattle.model.specs.declared.Status.{Status}

-- of two supports the one with the larger bond, the first among equals
unfoldable pub larger : Support → Support → Support
larger one other = cond (ltb one.bonds other.bonds) other one

-- the largest support of a link into t from a justified source among the first n places
unfoldable pub best_below : Model → (t n : ℕ) → Support
best_below m t zero = unsupported
best_below m t (suc s) = larger (best_below m t s) (cond (justified? m s) (support m s t) unsupported)

-- "that of the link into it from a justified source with the largest bond, the lowest source place among equals; zeros
-- where there is none". A quorum isn't asked for.
unfoldable pub best_support : Model → ℕ → Support
best_support m t = best_below m t (length m.checkpoints)

-- so many blanks of ASCII
abbrev pub blanks : ℕ → List ℕ
blanks n = replicate n 32

-- "Standing is set to the left and numbers to the right": a text in so many columns, the rest of them blanks

unfoldable pub left : (columns : ℕ) (text : List ℕ) → List ℕ
left columns text = text ++ blanks (columns - length text)

unfoldable pub right : (columns : ℕ) (text : List ℕ) → List ℕ
right columns text = blanks (columns - length text) ++ text

-- 64 columns: "place in 5, height in 10, standing in 12, number of backing members in 5, backing bond in 24, with two
-- blanks between fields"
unfoldable pub row_text : (place height : ℕ) → Status → (number bonds : ℕ) → List ℕ
row_text place height standing number bonds =
    right 5 (decimal place)
    ++ blanks 2
    ++ right 10 (decimal height)
    ++ blanks 2
    ++ left 12 (status_text standing)
    ++ blanks 2
    ++ right 5 (decimal number)
    ++ blanks 2
    ++ right 24 (decimal bonds)
    ++ newline

-- what a row shows of a held checkpoint
unfoldable pub checkpoint_row : Model → ℕ → List ℕ
checkpoint_row m p =
    row_text p (height_of m.checkpoints p) (status m p) (best_support m p).number (best_support m p).bonds

unfoldable pub blank_row : List ℕ
blank_row = blanks 64 ++ newline

-- "Missing rows of the last page are blanks."
unfoldable pub row_at : Model → ℕ → List ℕ
row_at m p = cond (place_held m p) (checkpoint_row m p) blank_row

-- "`page N` padded to 64", on its right
unfoldable pub heading : ℕ → List ℕ
heading n = left 64 (ascii "page " ++ decimal n) ++ newline

-- "64 hyphens"
unfoldable pub foot : List ℕ
foot = replicate 64 45 ++ newline

-- The page that comes after k others: "a heading `page N` padded to 64, 48 rows and a foot of 64 hyphens"; "Pages count
-- from 1". The row of each place is given, by the model or by what a program has at hand.
unfoldable pub page : (row : ℕ → List ℕ) (k : ℕ) → List ℕ
page row k = heading (k + 1) ++ concat_below 48 (λ i. row (48 * k + i)) ++ foot

-- the fewest pages on which each checkpoint has a row
abbrev pub pages : Model → ℕ
pages m = (length m.checkpoints + 47) / 48

-- "every checkpoint has one row, in place order. All pages are written in order"
unfoldable pub paper : Model → List ℕ
paper m = concat_below (pages m) (page (row_at m))
