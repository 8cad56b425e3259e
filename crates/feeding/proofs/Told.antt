-- What is given back where a record cannot be passed.
use Prim.Native.Nat.{ℕ, ◌+◌}
use native.Mathlib.Omega.{arith}
use mathlib.Core.Path.{◌≡◌, refl, ap, ap₂, ◌∙◌, subst}
use mathlib.Core.List.{List, []}
use mathlib.Core.Bool.{Bool, cond}
use lib.ListN.{length, take, drop}
use lib.Seq.{take_at}
use Rattle.std.specs.Prelude.{Result, Ok, Err}
use Rattle.std.specs.Result.{result_eq}
use Rattle.model.specs.contracts.RefusalPartialEq
use Rattle.state.specs.contracts.PassedPartialEq
use Rattle.model.specs.declared.Refusal.{Refusal}
use Rattle.model.specs.declared.Refusal.TheVariants.{UnknownKind}
use Rattle.model.specs.Answer.{Answer, refused, answer}
use Rattle.model.specs.Change.{Told, nothing_left, taken, bundled}
use Rattle.state.specs.Reading.{outcome_of, brief}
use Rattle.state.specs.declared.Passed.{Passed}
use Rattle.model.specs.Report.{stopped_line}
use Rattle.state.specs.declared.Witness.{Witness}
use Rattle.text.specs.Put.{Put}
use Rattle.feeding.specs.Feed.{wants, ended, Feeding, paused_at, paused_of, halted, IsFed}
use Rattle.feeding.specs.declared.Fed.{Fed}
use Rattle.feeding.specs.declared.Pause.{Pause}

-- where none can be passed
module _ (w : Witness) (k : ℕ) where
  -- what `==` says
  abbrev pub same? : Result Passed Refusal → Result Passed Refusal → Bool
  same? = result_eq (PassedPartialEq.TheImpl.eq-value).it (RefusalPartialEq.TheImpl.eq-value).it

  pub halted-test : (o : Result Passed Refusal) → (b : Bool) → b ≡ same? o (Err UnknownKind) → cond b (paused_at (stopped_line 4 k) ended w k) (paused_at [] wants w k) ≡ halted (outcome_of o) w k
  unfolding halted
  halted-test (Ok p) b e = ap (λ (x : Bool). cond x (paused_at (stopped_line 4 k) ended w k) (paused_at [] wants w k)) e
  halted-test (Err UnknownKind) b e = ap (λ (x : Bool). cond x (paused_at (stopped_line 4 k) ended w k) (paused_at [] wants w k)) e
  halted-test (Err _) b e = ap (λ (x : Bool). cond x (paused_at (stopped_line 4 k) ended w k) (paused_at [] wants w k)) e

  -- what was told, in brief or in full
  pub halted-brief : (t : Answer Told) → halted (brief t) w k ≡ halted t w k
  unfolding halted brief
  halted-brief (refused n) = refl
  halted-brief (answer nothing_left) = refl
  halted-brief (answer taken) = refl
  halted-brief (answer (bundled os)) = refl

-- what is given back there
pub paused-fed : {f : Feeding} (w : Witness) (k next at : ℕ) (text before after : List ℕ) (why : Result Pause Refusal) {n : ℕ} → paused_at text (paused_of why) w k ≡ f → Put before at text after n
    → IsFed f next at before (record { pause = why; next = next; records = k; written = n; witness = w }) after
paused-fed w k next at text before after why {n} e put =
    subst (λ (g : Feeding). IsFed g next at before (record { pause = why; next = next; records = k; written = n; witness = w }) after) e
    (record { pause = refl; next = omega arith; records = refl; witness = refl; text = put })

-- what is given back is also what an equal call comes to
pub fed-as : {f g : Feeding} {at from : ℕ} {before after : List ℕ} {r : Fed} → f ≡ g → IsFed f at from before r after → IsFed g at from before r after
fed-as {at = at} {from} {before} {after} {r} e is = subst (λ (h : Feeding). IsFed h at from before r after) e is

-- a text at a buffer's start can be read back
pub text-is : {l m a : List ℕ} {n : ℕ} → Put l 0 a m n → take n m ≡ a
text-is {l} {m} {a} {n} put =
    let end : n ≡ length a = omega (arith, put.past) in
    ap₂ take end put.left ∙ take_at a (drop (0 + length a) l) (length a) refl
