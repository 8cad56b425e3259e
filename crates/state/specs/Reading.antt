-- What a reading gives back: the outcome in document 01's numbers, with the rows of a bundle's votes beside it, the
-- offset to go on from, and the witness.
use Rattle.std.specs.Prelude.{ℕ, ◌-◌, ◌≡◌, List, [], ◌++◌, map, length, replicate, Result}
use Rattle.model.specs.Answer.{Answer, refused, answer, row_of}
use Rattle.model.specs.Change.{Told, nothing_left, taken, bundled, Decision}
use Rattle.model.specs.Limits.{member_limit}
use Rattle.model.specs.Refusals.{answer_of}
use Rattle.model.specs.declared.Refusal.{Refusal}
use Rattle.state.specs.State.{stored, empty_witness}
use Rattle.state.specs.declared.Witness.{Witness}
use Rattle.state.specs.declared.Reading.{Reading}
use Rattle.state.specs.declared.Beginning.{Beginning}
use Rattle.state.specs.declared.Passed.{Passed}
use Rattle.state.specs.declared.Passed.TheVariants.{Nothing, Taken, Bundled}

-- what an outcome says of what is told: of a bundle it says how many votes it has
pub data Brief : Type 0 where
  none_left : Brief
  one_taken : Brief
  many_votes : ℕ → Brief

abbrev pub brief_of : Passed → Brief
brief_of Nothing = none_left
brief_of Taken = one_taken
brief_of (Bundled n) = many_votes n

abbrev pub outcome_of : Result Passed Refusal → Answer Brief
outcome_of o = answer_of brief_of o

unfoldable pub brief : Answer Told → Answer Brief
brief (refused n) = refused n
brief (answer nothing_left) = answer none_left
brief (answer taken) = answer one_taken
brief (answer (bundled os)) = answer (many_votes (length os))

-- the row of each vote of a bundle, or 0; none of what is no bundle, or is refused whole
unfoldable pub rows_of_votes : Answer Told → List ℕ
rows_of_votes (refused n) = []
rows_of_votes (answer nothing_left) = []
rows_of_votes (answer taken) = []
rows_of_votes (answer (bundled os)) = map row_of os

-- in an array of 128 bytes: the i-th row is that of the i-th bit set, whatever that member's place; zeros fill it up
abbrev pub padded : List ℕ → List ℕ
padded rows = rows ++ replicate (member_limit - length rows) 0

-- `d` is what is decided
pub record IsReading (w : Witness) (d : Decision) (after : ℕ) (r : Reading) : Type 0 where
  pub outcome : outcome_of r.outcome ≡ brief d.told
  pub rows : r.rows ≡ padded (rows_of_votes d.told)
  pub next : r.next ≡ after
  pub witness : r.witness ≡ stored w d

-- a header that is refused leaves the witness handed in; a right one begins an empty witness with its root's name

abbrev pub start_of : List ℕ → Result (Unit {0}) Refusal → Answer (List ℕ)
start_of name r = answer_of (λ u. name) r

unfoldable pub begin_with : Witness → Answer (List ℕ) → Witness
begin_with w (refused n) = w
begin_with w (answer name) = empty_witness name

-- `h` is what the header says
pub record IsBeginning (w : Witness) (name : List ℕ) (h : Answer (List ℕ)) (r : Beginning) : Type 0 where
  pub outcome : start_of name r.outcome ≡ h
  pub witness : r.witness ≡ begin_with w h
