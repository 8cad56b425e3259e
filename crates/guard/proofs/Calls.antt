-- The calls' results are the fold; a call by number is a call.
use Prim.Native.Nat.{ℕ}
use native.Mathlib.Omega.{arith}
use mathlib.Core.Path.{◌≡◌, refl, sym, ap, ap₂, ◌∙◌}
use mathlib.Core.Logic.{◌↔◌}
use mathlib.Core.List.{List, ◌∷◌}
use Rattle.model.specs.Answer.{Answer, row_of}
use Rattle.model.specs.declared.Refusal.TheVariants.{SourceNotBelowTarget, TargetNotAboveLast, SourceBelowLast}
use Rattle.model.proofs.Answer.{row_elim}
use Rattle.model.proofs.Refusals.{refusal_small}
use Rattle.guard.specs.Signing.{guard_rows, sign_answer_of}
use Rattle.guard.specs.Calls.{none, call, answers_from, last_record, Folded, CallsAreFold, ExportedIsCall}
use Rattle.guard.specs.declared.Guard.{Guard}
use Rattle.guard.specs.Signing.{SignAnswer}
use Rattle.std.specs.Prelude.{Ok, Err}

pub calls_are_fold : CallsAreFold
unfolding answers_from last_record
calls_are_fold g left rs answers none = record { answered = refl; rewritten = refl }
calls_are_fold g left rs answers (call {next = next} {r = r} {a = a} {rs = later} {answers = more} one calls) =
    joined (calls_are_fold next left later more calls)
  where
    joined : Folded next later more left → Folded g (r ∷ later) (a ∷ more) left
    joined f =
        record {
          answered =
              ap₂ (λ (x : Answer (Unit {0})) (xs : List (Answer (Unit {0}))). x ∷ xs) one.answered
              (f.answered ∙ ap (λ (h : Guard). answers_from h later) one.rewritten);
          rewritten = f.rewritten ∙ ap (λ (h : Guard). last_record h later) one.rewritten;
        }

-- what the rows say is what some answer says
record Said (x : Answer (Unit {0})) : Type 0 where
  pub said : SignAnswer
  pub is : sign_answer_of said ≡ x

rows-said : (g : Guard) (s t : ℕ) → Said (guard_rows g s t)
unfolding guard_rows
rows-said g s t =
    row_elim Said 65 _ _ (record { said = Err SourceNotBelowTarget; is = refl }) (λ _.
    row_elim Said 66 _ _ (record { said = Err TargetNotAboveLast; is = refl }) (λ _.
    row_elim Said 67 _ _ (record { said = Err SourceBelowLast; is = refl }) (λ _. record {
      said = Ok tt;
      is =
          refl;
    })))

-- the number of an answer is 0 where it is a signature, and no refusal is
zero_signed : (a : SignAnswer) → (row_of (sign_answer_of a) ≡ 0) ↔ (a ≡ Ok tt)
unfolding row_of
zero_signed (Ok u) = (λ _. refl, λ _. refl)
zero_signed (Err r) = (
  λ e. absurd (omega (arith, e, (refusal_small r).0)),
  λ e. absurd (omega (
    arith,
    (refusal_small r).0,
    ap (λ a. row_of (sign_answer_of a)) e,
  )),
)

pub exported_is_call : ExportedIsCall
exported_is_call g after s t n number rewritten =
    let a = rows-said g s t in
    let e : n ≡ row_of (sign_answer_of a.said) = number ∙ ap row_of (sym a.is) in
    record {
      said = a.said;
      is_call = record { answered = a.is; rewritten = rewritten };
      number = e;
      zero = (λ z. (zero_signed a.said).0 (sym e ∙ z), λ z. e ∙ (zero_signed a.said).1 z);
    }
