-- An answer told in numbers is the answer: each law is over plain variables, and is cited once for each case of a call.
use Prim.Native.Nat.{ℕ}
use mathlib.Core.Path.{◌≡◌, refl, ap, ◌∙◌}
use mathlib.Core.Bool.{Bool, true, false}
use mir.Val.{bool_byte}
use Rattle.std.specs.Prelude.{Result, Ok, Err, MatchResult}
use Rattle.std.specs.Result.{IsOkAnd}
use Rattle.model.specs.Answer.{Answer, row_of}
use Rattle.model.specs.Refusals.{answer_of}
use Rattle.model.specs.declared.Refusal.{Refusal}
use Rattle.codes.specs.declared.Answered.{Answered}
use Rattle.codes.specs.Numbers.{value_of, yes_number, IsAnswered}

-- a bool's byte
pub byte_of : (b : Bool) → bool_byte b ≡ yes_number b
byte_of true = refl
byte_of false = refl

-- the row that refused does not depend on what the value means
pub same_row : {A B C : Type 0} (f : A → B) (g : A → C) (r : Result A Refusal) → row_of (answer_of f r) ≡ row_of (answer_of g r)
unfolding row_of
same_row f g (Ok a) = refl
same_row f g (Err r) = refl

-- a value that is told by its number, `m` being what `map` gives
pub mapped : {A : Type 0} (number : A → ℕ) {P : A → ℕ → Type 0} → ((v : A) (n : ℕ) → P v n → n ≡ number v) → (r : Result A Refusal) (m : Result ℕ Refusal) {a : Answer A} {x : Answered}
    → answer_of (λ s. s) r ≡ a → MatchResult r (λ v. IsOkAnd m (P v)) (λ e. m ≡ Err e) → IsAnswered (λ n. n) (answer_of (λ n. n) m) x → IsAnswered number a x
unfolding row_of
mapped number says (Ok v) (Ok n) e same is = record { refused = is.refused ∙ ap row_of e; value = is.value ∙ says v n same ∙ ap (value_of number) e }
mapped number says (Ok v) (Err f) e same is = absurd same
mapped number says (Err f) m e same is =
    record {
      refused = is.refused ∙ ap (λ (y : Result ℕ Refusal). row_of (answer_of (λ n. n) y)) same ∙ ap row_of e;
      value = is.value ∙ ap (λ (y : Result ℕ Refusal). value_of (λ n. n) (answer_of (λ n. n) y)) same ∙ ap (value_of number) e;
    }
