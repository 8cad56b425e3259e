-- Reading on, one reading at a time.
use Prim.Native.Nat.{ℕ, zero, suc, ◌+◌, ◌-◌, ◌<◌, ◌≤◌, ◌^◌}
use native.Mathlib.Omega.{arith}
use mathlib.Core.Path.{◌≡◌, refl, sym, ap, ap₂, ◌∙◌, subst}
use mathlib.Core.List.{List, [], ◌∷◌, ◌++◌, flat_map, append_assoc, append-nil}
use mathlib.Core.Logic.{⊎_elim}
use mathlib.Core.Bool.{Bool, true, false, cond}
use borrow.Author.Tests.{eq-eqb, ne_eqb, lt-ltb, le-ltb}
use lib.Dec.{eqb}
use lib.ListN.{length, drop, length-append}
use Rattle.model.specs.Answer.{Answer, answer}
use Rattle.model.specs.Bytes.{AreBytes}
use Rattle.model.specs.Change.{Told, nothing_left, Decision}
use Rattle.model.specs.Decide.{decide}
use Rattle.model.specs.Log.{record_length}
use Rattle.state.specs.State.{model_of, stored}
use Rattle.model.proofs.Bytes.{drop-bytes}
use Rattle.model.proofs.Lists.{lt_or_ge}
use Rattle.state.specs.Sound.{Sound}
use Rattle.state.specs.Reading.{Brief, outcome_of, brief}
use Rattle.std.specs.Prelude.{Option, None, Some, Result, Ok}
use Rattle.model.specs.declared.Refusal.{Refusal}
use Rattle.state.specs.declared.Passed.{Passed}
use Rattle.state.specs.declared.Passed.TheVariants.{Nothing}
use Rattle.state.specs.declared.Witness.{Witness}
use Rattle.state.proofs.Kept.{reading-sound}
use Rattle.entries.specs.Entries.{entries_of, entries, Written}
use Rattle.reader.specs.Many.{spent, ended_by, Many, behind, none_passed, read_many, last_told, end_of, IsBatch}
use Rattle.entries.proofs.Entries.{written-length, entries-more}

-- ---- what was told last

pub last-is : (t u : Answer Told) (ts : List (Answer Told)) → last_told t (ts ++ u ∷ []) ≡ u
unfolding last_told
last-is t u [] = refl
last-is t u (v ∷ ts) = last-is v u ts

-- and where there is one, it is no matter what is said where there is none
pub any_last : (t u : Answer Told) (ts : List (Answer Told)) → 0 < length ts → last_told t ts ≡ last_told u ts
unfolding last_told
any_last t u [] h = absurd (omega arith)
any_last t u (v ∷ ts) h = refl

-- ---- the loop

-- what was passed so far, and what remains, is the whole
pub record Sofar (m : Many) (limit : ℕ) (log before rows : List ℕ) (held : Witness) (next : ℕ) (last : Result Passed Refusal) (records used : ℕ) : Type 0 where
  pub told_so_far : List (Answer Told)
  pub count : length told_so_far ≡ records
  pub few : records ≤ limit
  pub written : Written (entries told_so_far) before rows used
  pub last-told : outcome_of last ≡ brief (last_told (answer nothing_left) told_so_far)
  pub whole : m ≡ behind told_so_far (read_many (limit - records) (length before - used) held log next)
  pub sound : Sound held
  pub fits : next < 2 ^ 64

pub none_yet : (limit : ℕ) (w : Witness) (log : List ℕ) (at : ℕ) (before : List ℕ) → Sound w → at < 2 ^ 64
    → Sofar (read_many limit (length before) w log at) limit log before before w at (Ok Nothing) 0 0
unfolding last_told brief flat_map
none_yet limit w log at before sound fits =
    let all : limit ≡ limit - 0 = omega arith in
    let free : length before ≡ length before - 0 = omega arith in
    record {
      told_so_far = [];
      count = refl;
      few = omega arith;
      written = record { count = refl; room = omega arith; bytes = refl };
      last-told = refl;
      whole = ap₂ (λ (n k : ℕ). read_many n k w log at) all free;
      sound = sound;
      fits = fits;
    }

-- where none may be passed
none-may : (w : Witness) (log : List ℕ) (at n room : ℕ) → (0 < n → 128 ≤ room → ⊥) → read_many n room w log at ≡ none_passed spent w at
unfolding read_many
none-may w log at zero room full = refl
none-may w log at (suc n) room full =
    let s = drop at log in
    let d = decide (model_of w) s in
    ap (λ (b : Bool). cond b (none_passed spent w at) (cond (eqb (record_length s) 0) (none_passed (ended_by (brief d.told)) w at) (behind (d.told ∷ []) (read_many n (room - length (entries_of d.told)) (stored w d) log (at + record_length s)))))
    (lt-ltb room 128 (⊎_elim (λ h. h) (λ h. absurd (full (omega arith) h)) (lt_or_ge room 128)))

-- and where one may: the record at the offset
pub one-may : (w : Witness) (log : List ℕ) (at n room : ℕ) → 128 ≤ room → (b : Bool) → eqb (record_length (drop at log)) 0 ≡ b
    → let s = drop at log in
    let d = decide (model_of w) s in
    read_many (suc n) room w log at
    ≡ cond b (none_passed (ended_by (brief d.told)) w at)
    (behind (d.told ∷ []) (read_many n (room - length (entries_of d.told)) (stored w d) log (at + record_length s)))
unfolding read_many
one-may w log at n room free b e =
    let s = drop at log in
    let d = decide (model_of w) s in
    let on = behind (d.told ∷ []) (read_many n (room - length (entries_of d.told)) (stored w d) log (at + record_length s)) in
    ap₂ (λ (x y : Bool). cond x (none_passed spent w at) (cond y (none_passed (ended_by (brief d.told)) w at) on)) (le-ltb room 128 free) e

module _ {m : Many} {limit : ℕ} {log before rows : List ℕ} {held : Witness} {next : ℕ} {last : Result Passed Refusal} {records used : ℕ}
    (so : Sofar m limit log before rows held next last records used) where
  pub rows-length : length rows ≡ length before
  rows-length = written-length so.written

  -- no more is passed: the rest of the reading has this end
  ends_with : {o : Option (Result Passed Refusal)} → read_many (limit - records) (length before - used) held log next ≡ none_passed (end_of o) held next
      → IsBatch m before (record { end = o; last = last; next = next; records = records; used = used; witness = held }) rows
  ends_with {o} e =
      let ts = so.told_so_far in
      let all : m ≡ behind ts (none_passed (end_of o) held next) = so.whole ∙ ap (behind ts) e in
      let told-all : m.passed ≡ ts = ap (λ (x : Many). x.passed) all ∙ append-nil ts in
      let size : used ≡ length (entries m.passed) = so.written.count ∙ ap (λ (l : List (Answer Told)). length (entries l)) (sym told-all) in
      record {
        end = sym (ap (λ (x : Many). x.end) all);
        last = so.last-told ∙ ap (λ (l : List (Answer Told)). brief (last_told (answer nothing_left) l)) (sym told-all);
        next = sym (ap (λ (x : Many). x.next) all);
        records = sym (ap length told-all ∙ so.count);
        used = size;
        witness = sym (ap (λ (x : Many). x.witness) all);
        rows = so.written.bytes ∙ (λ k. entries (sym told-all k) ++ drop (size k) before);
      }

  -- as many were passed as may be, or there is no room for another's entries
  pub all_read : ((records < limit) × (128 ≤ length rows - used) → ⊥)
      → IsBatch m before (record { end = None; last = last; next = next; records = records; used = used; witness = held }) rows
  all_read full =
      ends_with {o = None}
      (none-may held log next (limit - records) (length before - used)
      (λ h k. full (omega arith, omega (arith, rows-length))))

  abbrev s : List ℕ
  s = drop next log

  abbrev d : Decision
  d = decide (model_of held) s

  -- the record at the offset
  module _ (may : records < limit) (room : 128 ≤ length rows - used) where
    first : (b : Bool) → eqb (record_length s) 0 ≡ b
        → read_many (limit - records) (length before - used) held log next
        ≡ cond b (none_passed (ended_by (brief d.told)) held next)
        (behind (d.told ∷ []) (read_many (limit - (records + 1)) (length before - used - length (entries_of d.told)) (stored held d) log (next + record_length s)))
    first b e =
        let some : limit - records ≡ suc (limit - (records + 1)) = omega arith in
        ap (λ (n : ℕ). read_many n (length before - used) held log next) some
        ∙ one-may held log next (limit - (records + 1)) (length before - used) (omega (arith, rows-length)) b e

    -- it cannot be passed
    pub ended : {o : Result Passed Refusal} → outcome_of o ≡ brief d.told → record_length s ≡ 0
        → IsBatch m before (record { end = Some o; last = last; next = next; records = records; used = used; witness = held }) rows
    ended {o} t e =
        ends_with {o = Some o} (first true (eq-eqb (record_length s) 0 e) ∙ ap (λ (u : Answer Brief). none_passed (ended_by u) held next) (sym t))

    -- it is passed, and its entries stand behind those of the others
    pub passed : {o : Result Passed Refusal} {n end : ℕ} {v : Witness} {rows' : List ℕ} → outcome_of o ≡ brief d.told → n ≡ record_length s → (n ≡ 0 → ⊥)
        → v ≡ stored held d → Written (entries so.told_so_far ++ entries_of d.told) before rows' end → next + n < 2 ^ 64 → AreBytes log
        → Sofar m limit log before rows' v (next + n) o (records + 1) end
    passed {o} {n} {end} {v} {rows'} t size some stored written within bytes =
        let ts = so.told_so_far in
        let u = d.told in
        let left : length before - used - length (entries_of u) ≡ length before - end =
        omega (arith, so.written.count, written.count, length-append (entries ts) (entries_of u)) in
        let x = read_many (limit - (records + 1)) (length before - end) v log (next + n) in
        record {
          told_so_far = ts ++ u ∷ [];
          count = length-append ts (u ∷ []) ∙ omega (arith, so.count);
          few = omega arith;
          written = subst (λ (l : List ℕ). Written l before rows' end) (sym (entries-more ts u)) written;
          last-told = t ∙ ap brief (sym (last-is (answer nothing_left) u ts));
          whole =
              so.whole
              ∙ ap (behind ts)
              (first false (ne_eqb (record_length s) 0 (λ e. some (size ∙ e)))
              ∙ (λ k. behind (u ∷ []) (read_many (limit - (records + 1)) (left k) (sym stored k) log (next + sym size k))))
              ∙ (λ k. record { passed = sym (append_assoc ts (u ∷ []) x.passed) k; end = x.end; next = x.next; witness = x.witness });
          sound = subst Sound (sym stored) (reading-sound held so.sound s (drop-bytes next log bytes));
          fits = within;
        }
