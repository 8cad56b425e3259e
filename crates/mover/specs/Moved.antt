-- What a move of the root gives back: the outcome in document 01's numbers, and the witness. And which votes stay, as
-- the code holds that.
use Rattle.std.specs.Prelude.{ℕ, ◌<◌, ◌≡◌, List, Bool, false, ◌||◌, not, length, get_or, Result, Err}
use Rattle.model.specs.Answer.{Answer}
use Rattle.model.specs.Change.{Decision}
use Rattle.model.specs.Move.{kept_vote?}
use Rattle.model.specs.Refusals.{answer_of}
use Rattle.model.specs.declared.Refusal.{Refusal}
use Rattle.state.specs.Reading.{Brief, one_taken, brief}
use Rattle.state.specs.State.{model_of, vote_in, stored}
use Rattle.state.specs.declared.Witness.{Witness}
use Rattle.evidence.specs.declared.Charge.{Charge}
use Rattle.mover.specs.declared.Moved.{Moved}

-- a move that is not refused is told as any change that is taken
abbrev pub moved_of : Result (Unit {0}) Refusal → Answer Brief
moved_of r = answer_of (λ u. one_taken) r

-- `d` is what is decided
pub record IsMoved (w : Witness) (d : Decision) (r : Moved) : Type 0 where
  pub outcome : moved_of r.outcome ≡ brief d.told
  pub witness : r.witness ≡ stored w d

-- a refusal leaves the witness
abbrev pub refused_move : Witness → Refusal → Moved
refused_move w why = record { outcome = Err why; witness = w }

-- by number, whether a vote stays
abbrev pub VotesKept : Witness → ℕ → List Bool → Type 0
VotesKept w r votes =
    (i : ℕ) → i < w.vote_count → get_or votes i false ≡ kept_vote? (model_of w).checkpoints r (vote_in w i)

-- the i-th charge
abbrev pub charge_at : List Charge → ℕ → Charge
charge_at cs i = get_or cs i (record { id = 0; earlier = 0; later = 0 })

-- the charges are of votes with numbers below n
abbrev pub ChargesWithin : ℕ → List Charge → Type 0
ChargesWithin n cs = (i : ℕ) → i < length cs → ((charge_at cs i).earlier < n) × ((charge_at cs i).later < n)

-- the i-th charge shows a vote that does not stay
abbrev pub shows_dropped : List Bool → List Charge → ℕ → Bool
shows_dropped votes cs i = not (get_or votes (charge_at cs i).earlier false) || not (get_or votes (charge_at cs i).later false)
