-- The header: its mark, and what its rows come to once each test is known.
use Prim.Native.Nat.{ℕ}
use mathlib.Core.Path.{◌≡◌, refl, sym, ap, ap₂, ◌∙◌}
use borrow.Author.Tests.{eq-eqb, eqb-true}
use Rattle.search.proofs.Below.{same_test}
use Rattle.std.specs.Cmp.Lexicographic.{pointwise}
use mathlib.Core.List.{List, [], ◌∷◌}
use mathlib.Core.Bool.{Bool, ◌&&◌, not}
use lib.ListN.{length, take}
use lib.Dec.{eqb, ltb}
use Rattle.model.specs.Answer.{Answer, answer, row}
use Rattle.model.specs.Bytes.{field, part, ascii}
use Rattle.model.specs.Lists.{same_bytes}
use Rattle.model.specs.Log.{header}
use Rattle.model.specs.declared.Refusal.{Refusal}
use Rattle.state.specs.Reading.{IsBeginning, begin_with, start_of}
use Rattle.state.specs.State.{empty_witness}
use Rattle.state.specs.declared.Witness.{Witness}
use Rattle.std.specs.Prelude.{Ok, Err, Result}

swapped : (x y : ℕ) → eqb x y ≡ eqb y x
swapped x y = same_test (λ e. eq-eqb y x (sym (eqb-true x y e))) (λ e. eq-eqb x y (sym (eqb-true y x e)))

-- a slice and a text, byte by byte
pub mark-same : (xs ys : List ℕ) → pointwise eqb ys xs ≡ same_bytes xs ys
unfolding same_bytes
mark-same [] [] = refl
mark-same [] (y ∷ ys) = refl
mark-same (x ∷ xs) [] = refl
mark-same (x ∷ xs) (y ∷ ys) = ap₂ ◌&&◌ (swapped y x) (mark-same xs ys)

pub header-rows : (log : List ℕ) {b1 b2 b3 : Bool}
    → ltb (length log) 37 ≡ b1
    → same_bytes (take 3 log) (ascii "FFW") ≡ b2
    → eqb (field 3 2 log) 1 ≡ b3
    → header log ≡ row 1 b1 (row 2 (not b2) (row 3 (not b3) (answer (part 5 32 log))))
unfolding header
header-rows log e1 e2 e3 = rw (e1, e2, e3)

module _ (w : Witness) {name : List ℕ} {h : Answer (List ℕ)} {o : Result (Unit {0}) Refusal} (e : start_of name o ≡ h) where
  pub refused-beginning : {r : Refusal} → o ≡ Err r → IsBeginning w name h (record { outcome = o; witness = w })
  unfolding begin_with
  refused-beginning is = record { outcome = e; witness = ap (begin_with w) (sym (ap (start_of name) is) ∙ e) }

  pub right-beginning : {u : Unit {0}} {v : Witness}
      → o ≡ Ok u
      → v ≡ empty_witness name
      → IsBeginning w name h (record { outcome = o; witness = v })
  unfolding begin_with
  right-beginning is p =
      record { outcome = e; witness = p ∙ ap (begin_with w) (sym (ap (start_of name) is) ∙ e) }
