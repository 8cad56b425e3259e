-- A text into a lent buffer: our list of charges, and the board paper.
use Rattle.std.specs.Prelude.{ℕ, ◌≡◌, List, ◌++◌, length, drop, ltb, Result}
use Rattle.model.specs.Answer.{Answer, refused, answer, row}
use Rattle.model.specs.Refusals.{answer_of}
use Rattle.model.specs.declared.Refusal.{Refusal}

-- the text's length, or 60 where the buffer is shorter
unfoldable pub write_text : (text buffer : List ℕ) → Answer ℕ
write_text text buffer = row 60 (ltb (length buffer) (length text)) (answer (length text))

-- the buffer afterwards: the text and then what was there; as it was where the call is refused
unfoldable pub buffer_after : (text buffer : List ℕ) → Answer ℕ → List ℕ
buffer_after text buffer (refused n) = buffer
buffer_after text buffer (answer n) = text ++ drop n buffer

-- what a call says that writes a text
abbrev pub write_answer_of : Result ℕ Refusal → Answer ℕ
write_answer_of r = answer_of (λ n. n) r

-- the text is written, or refused by row 60: the answer, and the buffer afterwards
pub record Written (text before : List ℕ) (r : Result ℕ Refusal) (after : List ℕ) : Type 0 where
  pub answered : write_answer_of r ≡ write_text text before
  pub buffer : after ≡ buffer_after text before (write_text text before)
