-- What a move of the root to r keeps, by place, as the code holds it.
use Rattle.std.specs.Prelude.{ℕ, ◌<◌, ◌≡◌, false, get_or}
use Rattle.model.specs.Move.{kept?, anew}
use Rattle.state.specs.State.{place, model_of}
use Rattle.state.specs.declared.Witness.{Witness}
use Rattle.pruning.specs.declared.Kept.{Kept}

-- whether a place stays, and how many that stay are below it
pub record IsKept (w : Witness) (r : ℕ) (k : Kept) : Type 0 where
  pub stays : (p : ℕ) → p < w.checkpoint_count → get_or k.stays p false ≡ kept? (model_of w).checkpoints r p
  pub anew : (p : ℕ) → p < w.checkpoint_count → (get_or k.anew p (place 0)).0 ≡ anew (model_of w).checkpoints r p
