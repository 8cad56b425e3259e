-- What row 40 makes of what is decided and read, once the state's soundness is known.
use Prim.Native.Nat.{ℕ, ◌+◌}
use native.Mathlib.Nat.{add-zero}
use mathlib.Core.Path.{◌≡◌, refl, sym, ap, ◌∙◌}
use mathlib.Core.List.{List, flat_map}
use mathlib.Core.Bool.{Bool, true, false, cond}
use lib.ListN.{replicate}
use Rattle.model.specs.Answer.{Answer, refused}
use Rattle.model.specs.Change.{Decision, single}
use Rattle.model.specs.Decide.{decide, decide_move}
use Rattle.model.specs.Log.{record_length}
use Rattle.model.specs.Model.{Model}
use Rattle.model.specs.Run.{Event, reading, moving, decide_event}
use Rattle.model.specs.declared.Refusal.TheVariants.{UnsoundState}
use Rattle.state.specs.Reading.{brief, rows_of_votes, padded, IsReading}
use Rattle.state.specs.Sound.{sound?}
use Rattle.state.specs.State.{model_of, store_all, stored}
use Rattle.std.specs.Prelude.{Some, Ok, Err}
use Rattle.state.specs.declared.Passed.TheVariants.{Nothing}
use Rattle.state.specs.declared.Reading.{Reading}
use Rattle.state.specs.declared.Witness.{Witness}
use Rattle.sound.proofs.Guarded.{held_unsound, held-sound}
use Rattle.reader.specs.Many.{read_many, last_told, IsBatch}
use Rattle.reader.specs.declared.Batch.{Batch}
use Rattle.mover.specs.Moved.{IsMoved, refused_move}
use Rattle.mover.specs.declared.Moved.{Moved}
use Rattle.witness.specs.Calls.{decide_on, event_call}
use Rattle.witness.specs.Readings.{passed, many_call}

-- an event
module _ (w : Witness) (e : Event) where
  pub unsound_event : sound? w ≡ false → event_call w e ≡ single (refused 40)
  unfolding decide_on
  unsound_event unsound = ap (λ (h : Answer Model). decide_on h e) (held_unsound w unsound)

  pub sound-event : sound? w ≡ true → event_call w e ≡ decide_event (model_of w) e
  unfolding decide_on
  sound-event sound = ap (λ (h : Answer Model). decide_on h e) (held-sound w sound)

module _ (w : Witness) (s : List ℕ) (at : ℕ) where
  passed_is : {b : Bool} → sound? w ≡ b → at + cond b (record_length s) 0 ≡ at + passed w s
  unfolding passed
  passed_is e = ap (λ (b : Bool). at + cond b (record_length s) 0) (sym e)

  pub unsound_reading : sound? w ≡ false → IsReading w (event_call w (reading s)) (at + passed w s) (record { outcome = Err UnsoundState; rows = replicate 128 0; next = at; witness = w })
  unfolding single store_all brief rows_of_votes
  unsound_reading e =
      let d = sym (unsound_event w (reading s) e) in
      record {
        outcome = ap (λ (x : Decision). brief x.told) d;
        rows = ap (λ (x : Decision). padded (rows_of_votes x.told)) d;
        next = sym (add-zero at) ∙ passed_is e;
        witness = ap (stored w) d;
      }

  pub sound-reading : {r : Reading} → sound? w ≡ true → IsReading w (decide (model_of w) s) (at + record_length s) r → IsReading w (event_call w (reading s)) (at + passed w s) r
  unfolding decide_event
  sound-reading e i =
      let d = sym (sound-event w (reading s) e) in
      record {
        outcome = i.outcome ∙ ap (λ (x : Decision). brief x.told) d;
        rows = i.rows ∙ ap (λ (x : Decision). padded (rows_of_votes x.told)) d;
        next = i.next ∙ passed_is e;
        witness = i.witness ∙ ap (stored w) d;
      }

-- a move of the root
module _ (w : Witness) (p : ℕ) where
  pub unsound_move : sound? w ≡ false → IsMoved w (event_call w (moving p)) (refused_move w UnsoundState)
  unfolding single store_all brief
  unsound_move e =
      let d = sym (unsound_event w (moving p) e) in
      record { outcome = ap (λ (x : Decision). brief x.told) d; witness = ap (stored w) d }

  pub sound_move : {r : Moved} → sound? w ≡ true → IsMoved w (single (decide_move (model_of w) p)) r
      → IsMoved w (event_call w (moving p)) r
  unfolding decide_event
  sound_move e i =
      let d = sym (sound-event w (moving p) e) in
      record { outcome = i.outcome ∙ ap (λ (x : Decision). brief x.told) d; witness = i.witness ∙ ap (stored w) d }

-- reading on, by row 40
module _ (n room : ℕ) (w : Witness) (log : List ℕ) (at : ℕ) where
  pub many-sound : sound? w ≡ true → {before after : List ℕ} {r : Batch} → IsBatch (read_many n room w log at) before r after
      → IsBatch (many_call n room w log at) before r after
  unfolding many_call
  many-sound e is = rw e is

  pub many_unsound : sound? w ≡ false → (rows : List ℕ)
      → IsBatch (many_call n room w log at) rows (record { end = Some (Err UnsoundState); last = Ok Nothing; next = at; records = 0; used = 0; witness = w }) rows
  unfolding many_call last_told brief flat_map
  many_unsound e rows = rw e (record { end = refl; last = refl; next = refl; records = refl; used = refl; witness = refl; rows = refl })
