-- What a move comes to, once each row's test is known.
use Prim.Native.Nat.{ℕ}
use mathlib.Core.Path.{◌≡◌, sym, ap, ◌∙◌}
use mathlib.Core.Bool.{Bool, not}
use Rattle.model.specs.Answer.{Answer, refused, answer, row}
use Rattle.model.specs.Change.{Change, move_root, Decision, single}
use Rattle.model.specs.Decide.{bars_root, risks_evidence, drops_higher, decide_move}
use Rattle.model.specs.Model.{Model, place_held}
use Rattle.model.specs.Refusals.{refusal_number}
use Rattle.model.specs.declared.Refusal.{Refusal}
use Rattle.state.specs.Reading.{brief}
use Rattle.state.specs.State.{store, store_all, stored, with_root}
use Rattle.std.specs.Prelude.{Ok}
use Rattle.state.specs.declared.Witness.{Witness}
use Rattle.mover.specs.Moved.{IsMoved, moved_of, refused_move}
use Rattle.mover.specs.declared.Moved.{Moved}

pub move_rows_lem : (m : Model) (r : ℕ) {b41 b70 b71 b72 : Bool}
    → not (place_held m r) ≡ b41
    → bars_root m r ≡ b70
    → risks_evidence m r ≡ b71
    → drops_higher m r ≡ b72
    → decide_move m r ≡ row 41 b41 (row 70 b70 (row 71 b71 (row 72 b72 (answer (move_root r)))))
unfolding decide_move
move_rows_lem m r e41 e70 e71 e72 = rw (e41, e70, e71, e72)

module _ (w : Witness) {a : Answer Change} where
  pub refused_move_lem : {why : Refusal} {v : Moved} → v ≡ refused_move w why
      → a ≡ refused (refusal_number why) → IsMoved w (single a) v
  unfolding single store_all brief
  refused_move_lem e is =
      let d = ap single (sym is) in
      record {
        outcome = ap (λ (x : Moved). moved_of x.outcome) e ∙ ap (λ (x : Decision). brief x.told) d;
        witness = ap (λ (x : Moved). x.witness) e ∙ ap (stored w) d;
      }

  pub taken_move : {r : ℕ} {v : Witness} → v ≡ with_root w r → a ≡ answer (move_root r)
      → IsMoved w (single a) (record { outcome = Ok tt; witness = v })
  unfolding single store_all store brief
  taken_move e is =
      let d = ap single (sym is) in
      record { outcome = ap (λ (x : Decision). brief x.told) d; witness = e ∙ ap (stored w) d }
