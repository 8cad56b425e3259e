-- One vote put to the guard: rows 65 to 67 and the record afterwards.
use Rattle.std.specs.Prelude.{ℕ, ◌≡◌, Bool, ◌&&◌, not, eqb, ltb, Result}
use Rattle.model.specs.Answer.{Answer, refused, answer, row}
use Rattle.model.specs.Refusals.{answer_of}
use Rattle.model.specs.declared.Refusal.{Refusal}
use Rattle.guard.specs.declared.Guard.{Guard}

-- what a call gives: the vote may be signed, or why not
abbrev pub SignAnswer : Type 0
SignAnswer = Result (Unit {0}) Refusal

-- the record that remembers these heights, and one that has signed nothing

abbrev pub last_signed : ℕ → ℕ → Guard
last_signed s t = record { source = record { 0 = s }; target = record { 0 = t }; used = 1 }

abbrev pub fresh_guard : Guard
fresh_guard = record { source = record { 0 = 0 }; target = record { 0 = 0 }; used = 0 }

-- the record has signed a vote; a fresh one has not, so that it "meets check 65 only"
abbrev pub used? : Guard → Bool
used? g = not (eqb g.used 0)

-- a vote of these heights: "65, source height not below target height; 66, target not above the last; 67, source below
-- the last; in that order"
unfoldable pub guard_rows : Guard → ℕ → ℕ → Answer (Unit {0})
guard_rows g s t =
    row 65 (not (ltb s t))
    (row 66 (used? g && not (ltb g.target.0 t))
    (row 67 (used? g && ltb s g.source.0)
    (answer tt)))

-- the record afterwards: "rewritten there at each signing"; where a row applies, "the record is unchanged"

unfoldable pub rewritten_by : Answer (Unit {0}) → Guard → ℕ → ℕ → Guard
rewritten_by (refused n) g s t = g
rewritten_by (answer u) g s t = last_signed s t

abbrev pub record_after : Guard → ℕ → ℕ → Guard
record_after g s t = rewritten_by (guard_rows g s t) g s t

-- what a call says
abbrev pub sign_answer_of : SignAnswer → Answer (Unit {0})
sign_answer_of r = answer_of (λ u. tt) r

-- a call on the record g, signed or refused: what it says, and the record afterwards
pub record IsSigning (g : Guard) (s t : ℕ) (r : SignAnswer) (after : Guard) : Type 0 where
  pub answered : sign_answer_of r ≡ guard_rows g s t
  pub rewritten : after ≡ record_after g s t
