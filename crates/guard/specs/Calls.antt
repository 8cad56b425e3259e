-- Calls on one record, each on the record as the last one left it.
use Rattle.std.specs.Prelude.{ℕ, ◌≡◌, ◌↔◌, List, [], ◌∷◌, map, get_or, Ok, Err}
use Rattle.model.specs.Answer.{Answer, row_of}
use Rattle.guard.specs.Signing.{SignAnswer, guard_rows, record_after, sign_answer_of, IsSigning}
use Rattle.guard.specs.declared.Guard.{Guard}

-- a vote put to a guard: the heights of its source and of its target
pub record Request : Type 0 where
  pub source : ℕ
  pub target : ℕ

-- calls of `sign` one after the other, each meeting its contract, IsSigning, on the record as the last one left it;
-- `left` is the record in the end
pub data Calls : (g : Guard) → List Request → List SignAnswer → (left : Guard) → Type 0 where
  none : {g : Guard} → Calls g [] [] g
  call : {g next left : Guard} {r : Request} {a : SignAnswer} {rs : List Request} {answers : List SignAnswer}
      → IsSigning g r.source r.target a next
      → Calls next rs answers left
      → Calls g (r ∷ rs) (a ∷ answers) left

-- the requests that were answered by a signature, in their order

unfoldable pub if_signed : SignAnswer → Request → List Request → List Request
if_signed (Ok u) r later = r ∷ later
if_signed (Err n) r later = later

unfoldable pub signed_in : List Request → List SignAnswer → List Request
signed_in [] answers = []
signed_in (r ∷ rs) [] = []
signed_in (r ∷ rs) (a ∷ answers) = if_signed a r (signed_in rs answers)

-- the i-th of them
abbrev pub request_at : List Request → ℕ → Request
request_at rs i = get_or rs i (record { source = 0; target = 0 })

-- the calls' results are a fold over the requests: what each answers, and the record in the end

unfoldable pub answers_from : Guard → List Request → List (Answer (Unit {0}))
answers_from g [] = []
answers_from g (r ∷ rs) = guard_rows g r.source r.target ∷ answers_from (record_after g r.source r.target) rs

unfoldable pub last_record : Guard → List Request → Guard
last_record g [] = g
last_record g (r ∷ rs) = last_record (record_after g r.source r.target) rs

pub record Folded (g : Guard) (rs : List Request) (answers : List SignAnswer) (left : Guard) : Type 0 where
  pub answered : map sign_answer_of answers ≡ answers_from g rs
  pub rewritten : left ≡ last_record g rs

abbrev pub CallsAreFold : Type 0
CallsAreFold =
    (g left : Guard) (rs : List Request) (answers : List SignAnswer)
    → Calls g rs answers left
    → Folded g rs answers left

-- a call of `ffw_guard_sign` is such a call too: what it gives, n and the record afterwards, is what a call of `sign`
-- gives, and n is 0 exactly where the vote is signed
pub record SignedByNumber (g : Guard) (s t n : ℕ) (after : Guard) : Type 0 where
  pub said : SignAnswer
  pub is_call : IsSigning g s t said after
  pub number : n ≡ row_of (sign_answer_of said)
  pub zero : (n ≡ 0) ↔ (said ≡ Ok tt)

abbrev pub ExportedIsCall : Type 0
ExportedIsCall =
    (g after : Guard) (s t n : ℕ)
    → n ≡ row_of (guard_rows g s t)
    → after ≡ record_after g s t
    → SignedByNumber g s t n after
