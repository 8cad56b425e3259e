-- What reading on comes to, said of its records: what every record that is passed keeps up holds where the reading ended; and
-- what stands there ended it.
use Prim.Native.Nat.{ℕ, zero, suc, ◌+◌, ◌-◌, ◌<◌, ◌≤◌}
use native.Mathlib.Omega.{arith}
use mathlib.Core.Path.{◌≡◌, refl, sym, ap, subst}
use mathlib.Core.List.{List, [], ◌∷◌, ◌++◌, flat_map, append_assoc, append-nil}
use mathlib.Core.Logic.{◌⊎◌, inl, inr, ⊎_elim}
use mathlib.Core.Bool.{Bool, true, false, cond}
use borrow.Author.Tests.{eqb-true, ltb-true, ltb-false}
use lib.Dec.{eqb, ltb}
use lib.ListN.{length, drop, length-append}
use Rattle.model.specs.Answer.{Answer}
use Rattle.model.specs.Change.{Told, Decision, single}
use Rattle.model.specs.Decide.{decide_record, decide}
use Rattle.model.specs.Log.{Record, record_size, record_length}
use Rattle.model.specs.Model.{Model}
use Rattle.model.proofs.Log.{decode_elim}
use Rattle.state.specs.State.{model_of, store_all, stored}
use Rattle.state.specs.Reading.{Brief, brief}
use Rattle.state.specs.declared.Witness.{Witness}
use Rattle.entries.specs.Entries.{rows_of, entries_of, entries}
use Rattle.reader.specs.Many.{spent, ended_by, Many, behind, none_passed, read_many}
use Rattle.entries.proofs.Entries.{marked-length, entries-more}
use Rattle.reader.proofs.Told.{told-rowed}

-- a record is within what is left of the log
pub length-inside : (s : List ℕ) → record_length s ≤ length s
unfolding record_length
length-inside [] = omega arith
length-inside (kind ∷ s) = go (ltb (length (kind ∷ s)) (record_size kind)) refl
  where
    go : (b : Bool) → ltb (length (kind ∷ s)) (record_size kind) ≡ b → cond b 0 (record_size kind) ≤ length (kind ∷ s)
    go true e = omega arith
    go false e = ltb-false (length (kind ∷ s)) (record_size kind) e

-- where no record can be passed, nothing is stored
pub stays : (w : Witness) (m : Model) (s : List ℕ) → record_length s ≡ 0 → stored w (decide m s) ≡ w
unfolding decide decide_record single store_all
stays w m s =
    decode_elim (λ (r : Record) (n : ℕ). n ≡ 0 → stored w (decide_record m r) ≡ w) s
    (record {
      nothing = λ _. refl;
      unknown = λ _. refl;
      cut = λ _. refl;
      member = λ _ e. absurd (omega arith);
      checkpoint = λ _ e. absurd (omega arith);
      vote = λ _ e. absurd (omega arith);
      bundle = λ _ e. absurd (omega arith);
      quorum = λ _ e. absurd (omega arith);
    })

module _ (log : List ℕ) where
  abbrev at_offset : Witness → ℕ → Decision
  at_offset w at = decide (model_of w) (drop at log)

  abbrev past : ℕ → ℕ
  past at = at + record_length (drop at log)

  -- one record, where it may be read
  abbrev reads : ℕ → ℕ → Witness → ℕ → Bool → Bool → Many
  reads n room w at short stops =
      let d = at_offset w at in
      cond short (none_passed spent w at)
      (cond stops (none_passed (ended_by (brief d.told)) w at)
      (behind (d.told ∷ []) (read_many n (room - length (entries_of d.told)) (stored w d) log (past at))))

  -- P of what was told so far, the witness and the offset
  module _ (n room : ℕ) (P : List (Answer Told) → Witness → ℕ → Type 0)
      (step : (ts : List (Answer Told)) (w : Witness) (at : ℕ) → length ts < n → length (entries ts) + 128 ≤ room → eqb (record_length (drop at log)) 0 ≡ false → P ts w at → P (ts ++ (at_offset w at).told ∷ []) (stored w (at_offset w at)) (past at)) where
    abbrev Holds : List (Answer Told) → Many → Type 0
    Holds ts m = P (ts ++ m.passed) m.witness m.next

    from : (k free : ℕ) (ts : List (Answer Told)) (w : Witness) (at : ℕ) → length ts + k ≡ n → length (entries ts) + free ≡ room → P ts w at → Holds ts (read_many k free w log at)
    unfolding read_many
    from zero free ts w at e f p = subst (λ (l : List (Answer Told)). P l w at) (sym (append-nil ts)) p
    from (suc k) free ts w at e f p =
        go (from k (free - length (entries_of t)) (ts ++ t ∷ []) (stored w d) (past at)) (ltb free 128) refl (eqb (record_length (drop at log)) 0) refl
      where
        d : Decision
        d = at_offset w at

        t : Answer Told
        t = d.told

        on : Many
        on = read_many k (free - length (entries_of t)) (stored w d) log (past at)

        stay : Holds ts (none_passed spent w at)
        stay = subst (λ (l : List (Answer Told)). P l w at) (sym (append-nil ts)) p

        go : (length (ts ++ t ∷ []) + k ≡ n → length (entries (ts ++ t ∷ [])) + (free - length (entries_of t)) ≡ room → P (ts ++ t ∷ []) (stored w d) (past at) → Holds (ts ++ t ∷ []) on)
            → (a : Bool) → ltb free 128 ≡ a → (b : Bool) → eqb (record_length (drop at log)) 0 ≡ b → Holds ts (reads k free w at a b)
        go ih true q b r = stay
        go ih false q true r = stay
        go ih false q false r =
            let free-long = ltb-false free 128 q in
            let few : length (entries_of t) ≤ 128 = omega (arith, marked-length (rows_of t), (told-rowed (model_of w) (drop at log)).few) in
            subst (λ (l : List (Answer Told)). P l on.witness on.next) (append_assoc ts (t ∷ []) on.passed)
            (ih (omega (arith, e, length-append ts (t ∷ [])))
            (omega (arith, f, few, free-long, ap length (entries-more ts t), length-append (entries ts) (entries_of t)))
            (step ts w at (omega (arith, e)) (omega (arith, f, free-long)) r p))

    -- it holds of the whole
    pub while_passed : (w : Witness) (at : ℕ) → P [] w at → P (read_many n room w log at).passed (read_many n room w log at).witness (read_many n room w log at).next
    unfolding flat_map
    while_passed w at p = from n room [] w at (omega arith) (omega arith) p

  -- the end: as many were passed as may be, or there is no room for another's entries, or a record that cannot be passed
  pub record Stops (n room : ℕ) (m : Many) : Type 0 where
    pub may : length m.passed < n
    pub free : length (entries m.passed) + 128 ≤ room
    pub none : record_length (drop m.next log) ≡ 0
    pub why : m.end ≡ ended_by (brief (at_offset m.witness m.next).told)

  pub record Ends (n room : ℕ) (m : Many) : Type 0 where
    pub few : length m.passed ≤ n
    pub short : length (entries m.passed) ≤ room
    pub here : ((m.end ≡ spent) × ((length m.passed ≡ n) ⊎ (room < length (entries m.passed) + 128))) ⊎ Stops n room m

  pub many-ends : (n room : ℕ) (w : Witness) (at : ℕ) → Ends n room (read_many n room w log at)
  unfolding read_many flat_map
  many-ends zero room w at = record { few = omega arith; short = omega arith; here = inl (refl, inl refl) }
  many-ends (suc n) room w at = go (many-ends n (room - length (entries_of t)) (stored w d) (past at)) (ltb room 128) refl (eqb (record_length (drop at log)) 0) refl
    where
      d : Decision
      d = at_offset w at

      t : Answer Told
      t = d.told

      on : Many
      on = read_many n (room - length (entries_of t)) (stored w d) log (past at)

      go : Ends n (room - length (entries_of t)) on → (a : Bool) → ltb room 128 ≡ a → (b : Bool) → eqb (record_length (drop at log)) 0 ≡ b → Ends (suc n) room (reads n room w at a b)
      go ih true q b r = record { few = omega arith; short = omega arith; here = inl (refl, inr (omega (arith, ltb-true room 128 q))) }
      go ih false q true r =
          record {
            few = omega arith;
            short = omega arith;
            here = inr (record { may = omega arith; free = omega (arith, ltb-false room 128 q); none = eqb-true (record_length (drop at log)) 0 r; why = refl });
          }
      go ih false q false r =
          let long = ltb-false room 128 q in
          let few : length (entries_of t) ≤ 128 = omega (arith, marked-length (rows_of t), (told-rowed (model_of w) (drop at log)).few) in
          let all : length (entries_of t ++ entries on.passed) ≡ length (entries_of t) + length (entries on.passed) = length-append (entries_of t) (entries on.passed) in
          record {
            few = omega (arith, ih.few);
            short = omega (arith, ih.short, all, long, few);
            here =
                ⊎_elim
                (λ h. inl (h.0, ⊎_elim (λ e. inl (ap suc e)) (λ l. inr (omega (arith, l, all, long, few))) h.1))
                (λ h. inr (record { may = omega (arith, h.may); free = omega (arith, h.free, all, long, few); none = h.none; why = h.why }))
                ih.here;
          }

-- an end has one reason
pub not_both : {a : Answer Brief} → spent ≡ ended_by a → ⊥
not_both e = let z : ◌≡◌ {A = ℕ} 0 1 = cc in absurd (omega arith)

-- where there are entries, something was told
pub some-told : (ts : List (Answer Told)) → 0 < length (entries ts) → 0 < length ts
unfolding flat_map
some-told [] h = absurd (omega arith)
some-told (t ∷ ts) h = omega arith
