-- A bundle read into the witness is its single votes, read one by one in rising place: the same state, every byte of
-- it, and the same outcomes and lines, all with the bundle's record number; or it is refused whole. And so a run with
-- bundles is the run with their votes. What a bundle is on the book, `BundleIsVotes` says (crate model).
use Rattle.std.specs.Prelude.{ℕ, suc, ◌≤◌, ◌≡◌, true, cond, eqb, length, get_or}
use mathlib.Core.List.{List, [], ◌∷◌, ◌++◌, map, flat_map}
use Rattle.model.specs.Answer.{Answer, refused, answer}
use Rattle.model.specs.Bits.{set_places}
use Rattle.model.specs.Bundle.{votes_of, GoodBundle, BundleIsVotes}
use Rattle.model.specs.Bytes.{part}
use Rattle.model.specs.Change.{Told, nothing_left, taken, bundled, one_vote, decided}
use Rattle.model.specs.Decide.{bit_without_member, no_bit_set}
use Rattle.model.specs.Lists.{All}
use Rattle.model.specs.Model.{Model}
use Rattle.model.specs.Report.{refused_line, outcome_line, outcome_lines}
use Rattle.model.specs.Run.{Event, reading, moving, OfBytes, decide_event, after, outcomes}
use Rattle.state.specs.Reading.{many_votes, brief, rows_of_votes}
use Rattle.state.specs.Sound.{Typed, sound?}
use Rattle.state.specs.State.{model_of}
use Rattle.state.specs.declared.Witness.{Witness}
use Rattle.witness.specs.Calls.{event_call}
use Rattle.comparison.specs.Compare.{of_readings}
use Rattle.guarantee.specs.Demand3.{witness_after, told_of}

-- ---- one bundle

pub record IsRefused (t : Answer Told) : Type 0 where
  pub number : ℕ
  pub is : t ≡ refused number

-- what a row's number tells of a single vote: 0 is no row's, so nothing is lost
abbrev pub by_row : ℕ → Answer Told
by_row n = cond (eqb n 0) (answer taken) (refused n)

pub record BundleRun (w : Witness) (s : List ℕ) : Type 0 where
  pub book : BundleIsVotes (model_of w) s
  pub witness : witness_after w (reading s ∷ []) ≡ witness_after w (votes_of (model_of w) s)
  pub outcomes-agree : told_of w (votes_of (model_of w) s) ≡ outcomes (model_of w) (votes_of (model_of w) s)
  pub told : (event_call w (reading s)).told ≡ answer (bundled (map one_vote (told_of w (votes_of (model_of w) s))))
  -- "how many bits were set and, for each of these votes, taken or its refusal", by the numbers that the calls give
  pub number : brief (event_call w (reading s)).told ≡ answer (many_votes (length (set_places (part 1 16 s))))
  pub rows : map by_row (rows_of_votes (event_call w (reading s)).told) ≡ told_of w (votes_of (model_of w) s)
  pub lines : (k : ℕ)
      → outcome_line k (event_call w (reading s)).told ≡ flat_map (outcome_line k) (told_of w (votes_of (model_of w) s))
  -- a refused vote changes nothing, and so does a bundle of such votes alone
  pub kept : All IsRefused (told_of w (votes_of (model_of w) s)) → witness_after w (reading s ∷ []) ≡ w

-- for every sound witness, and every bundle that rows 61 and 62 pass
abbrev pub BundlesAreVotes : Type 0
BundlesAreVotes = (w : Witness) → Typed w → sound? w ≡ true → (s : List ℕ) → GoodBundle (model_of w) s → BundleRun w s

-- ---- refused whole

pub record RefusedWhole (w : Witness) (s : List ℕ) (n : ℕ) : Type 0 where
  pub told : (event_call w (reading s)).told ≡ refused n
  pub witness : witness_after w (reading s ∷ []) ≡ w
  -- it has one line
  pub line : (k : ℕ) → outcome_line k (event_call w (reading s)).told ≡ refused_line n k

-- "61, a bit set where no member stands; 62, no bit set; either refuses the whole bundle"
pub record WholeRefusals (w : Witness) (s : List ℕ) : Type 0 where
  pub row_61 : bit_without_member (model_of w) (part 1 16 s) ≡ true → RefusedWhole w s 61
  pub row_62 : no_bit_set (part 1 16 s) ≡ true → RefusedWhole w s 62

-- for every bundle that stands whole at the start of s
abbrev pub BundlesRefusedWhole : Type 0
BundlesRefusedWhole =
    (w : Witness) → Typed w → sound? w ≡ true → (s : List ℕ) → get_or s 0 0 ≡ 5 → 89 ≤ length s → WholeRefusals w s

-- ---- the whole run

-- an event of which votes are told, as these votes' events; any other as it is
abbrev pub on_votes : Answer Told → List Event → List Event → List Event
on_votes (refused n) votes else = else
on_votes (answer nothing_left) votes else = else
on_votes (answer taken) votes else = else
on_votes (answer (bundled os)) votes else = votes

unfoldable pub singles : Model → Event → List Event
singles m (reading s) = on_votes (decide_event m (reading s)).told (votes_of m s) (reading s ∷ [])
singles m (moving r) = moving r ∷ []

-- the run with the single votes in the place of each bundle
unfoldable pub in_singles : Model → List Event → List Event
in_singles m [] = []
in_singles m (e ∷ es) = singles m e ++ in_singles (decided m (decide_event m e)) es

-- what is told of a vote of a bundle, as of a single vote
unfoldable pub as_single : Answer (Unit {0}) → Answer Told
as_single (refused n) = refused n
as_single (answer t) = answer taken

unfoldable pub apart : Answer Told → List (Answer Told)
apart (refused n) = refused n ∷ []
apart (answer nothing_left) = answer nothing_left ∷ []
apart (answer taken) = answer taken ∷ []
apart (answer (bundled os)) = map as_single os

-- the lines of what is told apart, each with the number of the record that it is of, numbered from k
unfoldable pub lines_apart : ℕ → List (Answer Told) → List ℕ
lines_apart k [] = []
lines_apart k (t ∷ ts) = flat_map (outcome_line k) (apart t) ++ lines_apart (suc k) ts

pub record RunInSingles (w : Witness) (es : List Event) : Type 0 where
  pub witness : witness_after w es ≡ witness_after w (in_singles (model_of w) es)
  pub book : after (model_of w) es ≡ after (model_of w) (in_singles (model_of w) es)
  pub told : flat_map apart (told_of w es) ≡ told_of w (in_singles (model_of w) es)
  -- a move of the root is no record, and has no line
  pub lines : (k : ℕ) → outcome_lines k (of_readings es (told_of w es)) ≡ lines_apart k (of_readings es (told_of w es))

abbrev pub RunsAreSingles : Type 0
RunsAreSingles =
    (w : Witness) → Typed w → sound? w ≡ true → (es : List Event) → All OfBytes es → RunInSingles w es
