-- What a member's conduct means in the model.
use Rattle.std.specs.Prelude.{ℕ, ◌<◌, ◌≡◌, List, Option, Some, None, get_or}
use Rattle.model.specs.Evidence as Model
use Rattle.state.specs.declared.Witness.{Witness}
use Rattle.state.specs.State.{place, height, model_of}
use Rattle.conduct.specs.declared.Breach.{Breach}
use Rattle.conduct.specs.declared.Span.{Span}

abbrev pub conduct_of : Option Breach → Model.Conduct
conduct_of None = Model.clear
conduct_of (Some b) = Model.broken b.earlier b.later

-- what stands at a place
abbrev pub conduct_at : List (Option Breach) → ℕ → Model.Conduct
conduct_at shown p = conduct_of (get_or shown p None)

-- what the votes of each member show stands at the member's place
abbrev pub Shown : Witness → List (Option Breach) → Type 0
Shown w shown = (p : ℕ) → p < w.member_count → conduct_at shown p ≡ Model.conduct (model_of w) (get_or w.ids p 0)

-- the heights of a vote's source and of its target
pub record HeightsOf (w : Witness) (i : ℕ) (s : Span) : Type 0 where
  pub low : s.low.0 ≡ (get_or w.heights (get_or w.sources i (place 0)).0 (height 0)).0
  pub high : s.high.0 ≡ (get_or w.heights (get_or w.targets i (place 0)).0 (height 0)).0
