-- The standing of a place, by an analysis of the model.
use Prim.Native.Nat.{ℕ, ◌<◌}
use mathlib.Core.Path.{◌≡◌, ap₂, ◌∙◌}
use mathlib.Core.Bool.{Bool, cond, ◌&&◌}
use lib.ListN.{length}
use Rattle.model.specs.Model.{Model}
use Rattle.model.specs.Finality.{final?, status}
use Rattle.model.specs.declared.Status.TheVariants.{Plain, Justified, Final}
use Rattle.model.proofs.Finality.{final_of_held}
use Rattle.standing.specs.declared.Analysis.{Analysis}
use Rattle.standing.specs.Answers.{IsAnalysis, is_final, status_in}

module _ (m : Model) (a : Analysis) (is : IsAnalysis m a) (p : ℕ) (h : p < length m.checkpoints) where
  pub is-final : is_final a p ≡ final? m p
  is-final = ap₂ ◌&&◌ (is.justified p h) (is.finalizing p h) ∙ final_of_held m p h

  pub status-is : status_in a p ≡ status m p
  unfolding status status_in
  status-is = ap₂ (λ (f j : Bool). cond f Final (cond j Justified Plain)) is-final (is.justified p h)
