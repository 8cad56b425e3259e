-- Change request K7, of the witness: a run with moves of the root beside the witness that dropped nothing, by what the
-- calls give. What is compared on the book, and what the hypotheses say, is in crate `comparison`.
use Rattle.std.specs.Prelude.{ℕ, ◌<◌, ◌≡◌, List, length}
use Rattle.model.specs.Evidence.{our_list}
use Rattle.model.specs.Lists.{All}
use Rattle.model.specs.Model.{start}
use Rattle.model.specs.Run.{Event, OfBytes, outcomes}
use Rattle.state.specs.State.{empty_witness, model_of}
use Rattle.state.specs.declared.Witness.{Witness}
use Rattle.answers.specs.Calls.{status_call, support_call, conflict_call, write_call, check_call}
use Rattle.comparison.specs.Compare.{readings_only, of_readings, Name, NamesNone, NoLimit, SameAnswers}
use Rattle.guarantee.specs.Demand3.{witness_after, told_of}

-- the witness after the events, and the one after the readings among them alone

abbrev pub with_moves : Name → List Event → Witness
with_moves name es = witness_after (empty_witness name) es

abbrev pub unmoved : Name → List Event → Witness
unmoved name es = witness_after (empty_witness name) (readings_only es)

pub record MovesCompared (name : Name) (es : List Event) : Type 0 where
  -- for each place and vote number of what was kept, its place and number in the witness that dropped nothing
  pub place : ℕ → ℕ
  pub number : ℕ → ℕ
  -- what is held, and what the rules make of it: the charged members, and the pairs shown for them
  pub same : SameAnswers (model_of (with_moves name es)) (model_of (unmoved name es)) place number
  -- what the calls answer
  pub status : (p : ℕ) → p < (with_moves name es).checkpoint_count
      → status_call (with_moves name es) p ≡ status_call (unmoved name es) (place p)
  pub support : (s t : ℕ) → s < (with_moves name es).checkpoint_count → t < (with_moves name es).checkpoint_count
      → support_call (with_moves name es) s t ≡ support_call (unmoved name es) (place s) (place t)
  pub conflict : conflict_call (with_moves name es) ≡ conflict_call (unmoved name es)
  -- our list has as many charges, and the checker gives the same sum for it
  pub list : (buffer : List ℕ)
      → write_call our_list (with_moves name es) buffer ≡ write_call our_list (unmoved name es) buffer
  pub sum : check_call (with_moves name es) (our_list (model_of (with_moves name es)))
      ≡ check_call (unmoved name es) (our_list (model_of (unmoved name es)))
  -- and what they told of each reading
  pub told : of_readings es (told_of (empty_witness name) es) ≡ told_of (empty_witness name) (readings_only es)

-- "While later records name no dropped checkpoint, and until a limit is met in the witness that dropped nothing"
abbrev pub MovesKeepAnswers : Type 0
MovesKeepAnswers =
    (name : Name) → length name ≡ 32 → (es : List Event)
    → All OfBytes es
    → NamesNone (start name) (λ n. ⊥) es
    → All NoLimit (outcomes (start name) (readings_only es))
    → MovesCompared name es
