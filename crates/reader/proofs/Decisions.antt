-- What the code decided on the record at the offset, and that what it adds fits.
use Prim.Native.Nat.{ℕ}
use mathlib.Core.Path.{◌≡◌, sym, subst}
use mathlib.Core.List.{List, [], ◌∷◌}
use lib.ListN.{drop}
use Rattle.model.specs.Bytes.{AreBytes}
use Rattle.model.specs.Change.{Change, Decision as Decided}
use Rattle.model.specs.Decide.{decide}
use Rattle.model.specs.Model.{Model}
use Rattle.model.proofs.Bytes.{drop-bytes}
use Rattle.model.proofs.Fits.{Fits, FitAll, one_change, changes-fit}
use Rattle.registry.specs.Decision.{decision_of}
use Rattle.std.specs.Prelude.{Result}
use Rattle.model.specs.declared.Refusal.{Refusal}
use Rattle.registry.specs.declared.Decision.{Decision}
use Rattle.state.specs.State.{model_of}
use Rattle.state.specs.declared.Witness.{Witness}

pub first_fits : {m : Model} {c : Change} {cs : List Change} → FitAll m (c ∷ cs) → Fits m c
first_fits (one_change fits rest) = fits

-- `d` is what is decided on the record of the log at `at`
abbrev pub Says : Witness → List ℕ → ℕ → Result Decision Refusal → Type 0
Says w log at d = decision_of (model_of w) (drop at log) d ≡ decide (model_of w) (drop at log)

pub says_fits : (w : Witness) (log : List ℕ) (at : ℕ) → AreBytes log → (d : Result Decision Refusal) {c : Change} → Says w log at d → (decision_of (model_of w) (drop at log) d).changes ≡ c ∷ [] → Fits (model_of w) c
says_fits w log at bytes d says one =
    first_fits
    (subst (λ (cs : List Change). FitAll (model_of w) cs) one
    (subst (λ (x : Decided). FitAll (model_of w) x.changes) (sym says) (changes-fit (model_of w) (drop at log) (drop-bytes at log bytes))))
