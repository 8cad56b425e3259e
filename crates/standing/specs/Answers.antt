-- The standings, in the model's terms.
use Rattle.std.specs.Prelude.{ℕ, ◌<◌, ◌≡◌, Bool, cond, ◌&&◌, ◌||◌, eqb, length}
use Rattle.model.specs.Model.{Model}
use Rattle.model.specs.Finality.{justified?, sealed?}
use Rattle.model.specs.declared.Status.{Status}
use Rattle.model.specs.declared.Status.TheVariants.{Plain as PlainStatus, Justified as JustifiedStatus}
use Rattle.model.specs.declared.Status.TheVariants.{Final as FinalStatus}
use Rattle.tally.specs.Marks.{justified_at, finalizing_at}
use Rattle.standing.specs.declared.Analysis.{Analysis}

-- for each held place whether it is justified, and whether it is final if so: the root, or sealed
pub record IsAnalysis (m : Model) (a : Analysis) : Type 0 where
  pub justified : (p : ℕ) → p < length m.checkpoints → justified_at a.marks p ≡ justified? m p
  pub finalizing : (p : ℕ) → p < length m.checkpoints → finalizing_at a.marks p ≡ (eqb p 0 || sealed? m p)

-- a place is final by the analysis
abbrev pub is_final : Analysis → ℕ → Bool
is_final a p = justified_at a.marks p && finalizing_at a.marks p

-- the standing of a place, by the analysis
unfoldable pub status_in : Analysis → ℕ → Status
status_in a p = cond (is_final a p) FinalStatus (cond (justified_at a.marks p) JustifiedStatus PlainStatus)
