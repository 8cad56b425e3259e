-- `read_many` is a run over the records that it passed.
use Prim.Native.Nat.{ℕ, zero, suc, ◌+◌, ◌-◌}
use native.Mathlib.Omega.{arith}
use mathlib.Core.Path.{◌≡◌, refl, sym, ap, ◌∙◌, subst}
use mathlib.Core.List.{List, [], ◌∷◌}
use mathlib.Core.Logic.{inl, inr, ⊎_elim}
use mathlib.Core.Bool.{Bool, true, false, cond}
use borrow.Author.Tests.{eqb-false}
use lib.Dec.{eqb, ltb}
use lib.ListN.{length, drop, length-drop}
use lib.Seq.{drop-drop}
use Rattle.model.specs.Bytes.{AreBytes}
use Rattle.model.specs.Change.{Decision}
use Rattle.model.specs.Decide.{decide}
use Rattle.model.specs.Lists.{each}
use Rattle.model.specs.Log.{record_length}
use Rattle.state.specs.State.{model_of, stored}
use Rattle.state.specs.declared.Witness.{Witness}
use Rattle.entries.specs.Entries.{entries_of}
use Rattle.reader.specs.Many.{Ended, spent, ended_by, Many, behind, none_passed, read_many}
use Rattle.state.specs.Reading.{brief}
use Rattle.model.proofs.Bytes.{drop-bytes}
use Rattle.state.specs.Sound.{Sound}
use Rattle.state.proofs.Kept.{reading-sound}
use Rattle.state.proofs.Sound.{sound_true}
use Rattle.reader.proofs.Made.{length-inside, Ends, many-ends}
use Rattle.witness.specs.Readings.{many_call}
use Rattle.guarantee.specs.CallsAreRuns.{first_records, behind_records, Whole, no_record, one_record, ManyRun, ManyIsRun}
use Rattle.guarantee.specs.Demand3.{witness_after, told_of}
use Rattle.guarantee.proofs.Demand.{decided-here}
use Rattle.guarantee.proofs.FirstRecords.{first-bytes, run_sound, passed_first}

module _ (log : List ℕ) (bytes : AreBytes log) where
  -- what was passed, what it told, and what is left
  record Run (w : Witness) (at : ℕ) (m : Many) : Type 0 where
    whole : Whole (length m.passed) (drop at log)
    each-told : m.passed ≡ told_of w (first_records (length m.passed) (drop at log))
    witness : m.witness ≡ witness_after w (first_records (length m.passed) (drop at log))
    left : drop m.next log ≡ behind_records (length m.passed) (drop at log)
    offset : m.next + length (drop m.next log) ≡ at + length (drop at log)

  stays : (w : Witness) (at : ℕ) {why : Ended} → Run w at (none_passed why w at)
  unfolding first_records behind_records told_of witness_after
  stays w at = record { whole = no_record; each-told = refl; witness = refl; left = refl; offset = refl }

  many-run : (n room : ℕ) (w : Witness) → Sound w → (at : ℕ) → Run w at (read_many n room w log at)
  unfolding read_many first_records behind_records told_of witness_after
  many-run zero room w sound at = stays w at
  many-run (suc n) room w sound at =
      go (many-run n (room - length (entries_of d.told)) (stored w d) (reading-sound w sound s (drop-bytes at log bytes)) (at + record_length s)) (ltb room 128) (eqb (record_length s) 0) refl
    where
      s : List ℕ
      s = drop at log

      d : Decision
      d = decide (model_of w) s

      on : Many
      on = read_many n (room - length (entries_of d.told)) (stored w d) log (at + record_length s)

      go : Run (stored w d) (at + record_length s) on → (short b : Bool) → eqb (record_length s) 0 ≡ b
          → Run w at (cond short (none_passed spent w at) (cond b (none_passed (ended_by (brief d.told)) w at) (behind (d.told ∷ []) on)))
      go ih true b e = stays w at
      go ih false true e = stays w at
      go ih false false e =
          let k = length on.passed in
          let past = sym (drop-drop (record_length s) at log) in
          let later = ap (first_records k) past in
          record {
            whole = one_record (eqb-false (record_length s) 0 e) (subst (Whole k) past ih.whole);
            each-told = ap (◌∷◌ d.told) (ih.each-told ∙ ap (told_of (stored w d)) later) ∙ ap (λ (x : Decision). x.told ∷ told_of (stored w x) (first_records k (drop (record_length s) s))) (sym (decided-here w sound s));
            witness = ih.witness ∙ ap (witness_after (stored w d)) later ∙ passed_first w sound s (first_records k (drop (record_length s) s));
            left = ih.left ∙ ap (behind_records k) past;
            offset = ih.offset ∙ omega (arith, length-drop at log, length-drop (at + record_length s) log, length-inside s, eqb-false (record_length s) 0 e);
          }

pub many_is_run : ManyIsRun
unfolding many_call
many_is_run w typed is-sound n room log bytes at = rw is-sound (go (read_many n room w log at) refl)
  where
    sound : Sound w
    sound = sound_true w typed is-sound

    go : (m : Many) → m ≡ read_many n room w log at → ManyRun n room w log at m
    go m e =
        let run = subst (Run log bytes w at) (sym e) (many-run log bytes n room w sound at) in
        let ends = subst (Ends log n room) (sym e) (many-ends log n room w at) in
        let read-sound = subst Sound (sym run.witness) (run_sound w sound (first_records (length m.passed) (drop at log)) (first-bytes (length m.passed) (drop at log) (drop-bytes at log bytes))) in
        record {
          whole = run.whole;
          each = run.each-told;
          witness = run.witness;
          left = run.left;
          offset = run.offset;
          at_most = ends.few;
          within = ends.short;
          ends =
              ⊎_elim inl
              (λ h.
              inr
              (record {
                may = h.may;
                free = h.free;
                none = h.none;
                why = h.why ∙ ap (λ (x : Decision). ended_by (brief x.told)) (sym (decided-here m.witness read-sound (drop m.next log)));
              }))
              ends.here;
        }
