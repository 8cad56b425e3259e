-- The conflict answer of a witness, from the analysis of its model.
use Prim.Native.Nat.{ℕ, suc, ◌+◌}
use native.Mathlib.Numerals.{add-one}
use mathlib.Core.Path.{◌≡◌, sym, ap, ◌∙◌}
use mathlib.Core.Bool.{Bool, true, ◌&&◌, not}
use lib.ListN.{length}
use Rattle.model.specs.Lists.{any_below}
use Rattle.model.specs.Finality.{conflicting?}
use Rattle.tables.specs.Places.{tree_of}
use Rattle.search.specs.Chains.{last_below}
use Rattle.search.proofs.Pointwise.{any_same}
use Rattle.state.specs.declared.Witness.{Witness}
use Rattle.state.specs.Sound.{Sound}
use Rattle.state.specs.State.{model_of}
use Rattle.state.proofs.Entries.{count-checkpoints}
use Rattle.state.proofs.Held.{ancestors_held}
use Rattle.standing.specs.declared.Analysis.{Analysis}
use Rattle.standing.specs.Answers.{IsAnalysis, is_final}
use Rattle.standing.proofs.Standing.{is-final}
use Rattle.finality.specs.Answers.{stray}
use Rattle.finality.proofs.Conflicting.{root_fin, last-decides}

module _ (w : Witness) (sound : Sound w) (a : Analysis) (is : IsAnalysis (model_of w) a) where
  pub root-marked : is_final a 0 ≡ true
  root-marked = root_fin (model_of w) sound.good (is_final a) (is-final (model_of w) a is)

  pub last-conflict : (f : ℕ) {r : Bool}
      → f + 1 ≡ last_below w.checkpoint_count (is_final a)
      → r ≡ any_below f (stray (is_final a) (tree_of w.checkpoint_count w.parents) f)
      → r ≡ conflicting? (model_of w)
  last-conflict f at e =
      let last : last_below (length (model_of w).checkpoints) (is_final a) ≡ suc f =
      ap (λ (n : ℕ). last_below n (is_final a)) (count-checkpoints w) ∙ sym at ∙ add-one f in
      let tree = tree_of w.checkpoint_count w.parents in
      e
      ∙ any_same f (stray (is_final a) tree f) (stray (is_final a) (model_of w).checkpoints f)
      (λ p h. ap (λ (b : Bool). is_final a p && not b) (sym ((ancestors_held w).ancestor p f)))
      ∙ last-decides (model_of w) sound.good (is_final a) (is-final (model_of w) a is) f last
