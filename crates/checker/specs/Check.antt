-- What the checker's answers mean in document 01's numbers and values; and what a witness's arrays say of a vote.
use Rattle.std.specs.Prelude.{ℕ, Result, get_or}
use Rattle.model.specs.Answer.{Answer}
use Rattle.model.specs.Refusals.{answer_of}
use Rattle.model.specs.declared.Refusal.{Refusal}
use Rattle.state.specs.State.{place, height}
use Rattle.state.specs.declared.Witness.{Witness}

abbrev pub check_of : Result ℕ Refusal → Answer ℕ
check_of r = answer_of (λ s. s) r

-- the heights of a vote's source and of its target

abbrev pub low_of : Witness → ℕ → ℕ
low_of w k = (get_or w.heights (get_or w.sources k (place 0)).0 (height 0)).0

abbrev pub high_of : Witness → ℕ → ℕ
high_of w k = (get_or w.heights (get_or w.targets k (place 0)).0 (height 0)).0
