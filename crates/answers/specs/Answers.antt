-- What the calls' answers mean in document 01's numbers and values, and row 40 before them.
use Rattle.std.specs.Prelude.{ℕ, Bool, ◌≡◌, ◌<◌, ◌≤◌, false, Result, MatchResult}
use Rattle.model.specs.Answer.{Answer}
use Rattle.model.specs.Refusals.{refusal_number, answer_of}
use Rattle.model.specs.Support.{Support}
use Rattle.model.specs.declared.Refusal.{Refusal}
use Rattle.model.specs.declared.Status.{Status}
use Rattle.state.specs.Sound.{Sound, sound?}
use Rattle.state.specs.declared.Witness.{Witness}
use Rattle.finality.specs.Answers.{backing_of}
use Rattle.finality.specs.declared.Backing.{Backing}

abbrev pub status_of : Result Status Refusal → Answer Status
status_of r = answer_of (λ s. s) r

abbrev pub support_of : Result Backing Refusal → Answer Support
support_of r = answer_of backing_of r

abbrev pub conflict_of : Result Bool Refusal → Answer Bool
conflict_of r = answer_of (λ b. b) r

-- a sound state, or row 40
abbrev pub PassesRow40 : Witness → Result (Unit {0}) Refusal → Type 0
PassesRow40 w r = MatchResult r (λ u. Sound w) (λ why. (refusal_number why ≡ 40) × (sound? w ≡ false))

-- a held place, or row 41
abbrev pub PassesRow41 : Witness → ℕ → Result (Unit {0}) Refusal → Type 0
PassesRow41 w p r = MatchResult r (λ u. p < w.checkpoint_count) (λ why. (refusal_number why ≡ 41) × (w.checkpoint_count ≤ p))
