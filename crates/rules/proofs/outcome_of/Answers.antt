-- `rules::outcome_of` meets its contract, case by case. Assumes nothing.
use Prim.Native.Nat.{ℕ}
use mathlib.Core.Path.{sym, ap, ◌∙◌, subst}
use mathlib.Core.List.{List}
use mathlib.Core.Logic.{⊎_elim}
use Rattle.std.specs.Prelude.{Result, Ok}
use Rattle.std.proofs.lemmas.Result.{err_from_is_err_and}
use Rattle.model.specs.Answer.{Answer, answer}
use Rattle.model.specs.Change.{single}
use Rattle.model.specs.Model.{Model}
use Rattle.model.specs.declared.Refusal.{Refusal}
use Rattle.state.specs.Reading.{Brief, many_votes, brief}
use Rattle.registry.specs.Decision.{decision_of}
use Rattle.registry.specs.declared.Decision.{Decision}
use Rattle.rules.specs.Decision.{BitsFit}
use Rattle.rules.proofs.Bundled.{bundle-number}
use Rattle.rules.proofs.outcome_of.Goals as goal

-- what the outcome says of a decision
abbrev says : Model → List ℕ → Result Decision Refusal → Answer Brief
says m s d = brief (decision_of m s d).told

pub returns-in_err-decision : goal.returns-in_err-decision
unfolding single brief
returns-in_err-decision c =
    λ m n s fit.
    let p = err_from_is_err_and c.from_residual.result c.from_residual.ensures.1 in
    rw (p.1, p.2) (sym (ap (says m s) c.in_err-decision.was))

pub returns-in-Nothing : goal.returns-in-Nothing
unfolding single brief
returns-in-Nothing c = λ m n s fit. sym (ap (says m s) (c.in_ok-decision.was ∙ ap Ok c.in-Nothing.is))

pub returns-in-Bundle : goal.returns-in-Bundle
returns-in-Bundle c =
    λ m n s fit.
    let e = c.in_ok-decision.was ∙ ap Ok c.in-Bundle.is in
    ap (λ (k : ℕ). answer (many_votes k)) (subst (BitsFit n s) e fit).number ∙ sym (bundle-number m _ _) ∙ sym (ap (says m s) e)

pub returns-in-Member : goal.returns-in-Member
unfolding single brief
returns-in-Member c =
    λ m n s fit.
    let was = c.in_ok-decision.was in
    ⊎_elim (λ h. sym (ap (says m s) (was ∙ ap Ok h.2)))
    (⊎_elim (λ h. sym (ap (says m s) (was ∙ ap Ok h.2)))
    (⊎_elim (λ h. sym (ap (says m s) (was ∙ ap Ok h.1))) (λ h. sym (ap (says m s) (was ∙ ap Ok h.1)))))
    c.in-Member.is
