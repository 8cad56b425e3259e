-- A bundle is its single votes: the statement of K3. "State and refused lines shall equal those of the single votes in
-- rising place, each refused line carrying the bundle's record number."
use Rattle.std.specs.Prelude.{ℕ, ◌≤◌, ◌≡◌, false, length, get_or}
use mathlib.Core.List.{List, [], ◌∷◌, ◌++◌, map, flat_map}
use Rattle.model.specs.Answer.{Answer, refused, answer}
use Rattle.model.specs.Bits.{set_places}
use Rattle.model.specs.Bytes.{be_bytes, part}
use Rattle.model.specs.Change.{Told, taken, bundled, one_vote}
use Rattle.model.specs.Decide.{bundle_ids, bit_without_member, no_bit_set}
use Rattle.model.specs.Lists.{All}
use Rattle.model.specs.Model.{Model}
use Rattle.model.specs.Report.{outcome_line}
use Rattle.model.specs.Run.{Event, reading, decide_event, after, outcomes}

-- the record of kind 3 of one member: its id, then source, target and heights, the bundle's bytes 17 to 88
unfoldable pub vote_of_bundle : List ℕ → ℕ → List ℕ
vote_of_bundle s id = 3 ∷ (be_bytes 2 id ++ part 17 72 s)

-- the readings of these records, for the members whose bits are set, in rising place
unfoldable pub votes_of : Model → List ℕ → List Event
votes_of m s = map (λ id. reading (vote_of_bundle s id)) (bundle_ids m (part 1 16 s))

-- a bundle that stands whole at the start of s and passes rows 61 and 62
pub record GoodBundle (m : Model) (s : List ℕ) : Type 0 where
  pub kind : get_or s 0 0 ≡ 5
  pub size : 89 ≤ length s
  pub row_61 : bit_without_member m (part 1 16 s) ≡ false
  pub row_62 : no_bit_set (part 1 16 s) ≡ false

-- what is told of a single vote: taken, or a refusal by one of rows 30 to 36; `one_vote` loses nothing of it
pub data OfVote : Answer Told → Type 0 where
  is-taken : OfVote (answer taken)
  is-refused : (n : ℕ) → 30 ≤ n → n ≤ 36 → OfVote (refused n)

pub record BundleIsVotes (m : Model) (s : List ℕ) : Type 0 where
  -- the model after the bundle is the one after the single votes' records in turn
  pub model : after m (reading s ∷ []) ≡ after m (votes_of m s)
  -- what is told are their outcomes, one for each bit set
  pub told : (decide_event m (reading s)).told ≡ answer (bundled (map one_vote (outcomes m (votes_of m s))))
  pub number : length (outcomes m (votes_of m s)) ≡ length (set_places (part 1 16 s))
  pub of-votes : All OfVote (outcomes m (votes_of m s))
  -- the lines of record k are theirs, all at k
  pub lines : (k : ℕ)
      → outcome_line k (decide_event m (reading s)).told ≡ flat_map (outcome_line k) (outcomes m (votes_of m s))
