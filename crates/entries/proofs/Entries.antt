-- Entries behind entries, in the bytes lent; and how many a record has.
use Prim.Native.Nat.{ℕ, zero, suc, ◌+◌, ◌-◌, ◌<◌, ◌≤◌}
use native.Mathlib.Omega.{arith}
use mathlib.Core.Path.{◌≡◌, refl, sym, ap, ap₂, ◌∙◌}
use mathlib.Core.List.{List, [], ◌∷◌, ◌++◌, map, flat_map, append_assoc, append-nil}
use mathlib.Core.Bool.{Bool, cond}
use borrow.Author.Tests.{ne_eqb}
use borrow.Table.Elements.{map_app}
use lib.Dec.{eqb}
use lib.ListN.{length, drop, take, set, get_or, replicate, length-drop, length-append, length-map, take-append-drop}
use lib.Seq.{drop-cons, drop-drop, set_at, take_at, drop-append-add, length-take-le}
use Rattle.model.specs.Answer.{Answer, refused, answer, row_of}
use Rattle.model.specs.Change.{Told, nothing_left, taken}
use Rattle.state.specs.Reading.{brief}
use Rattle.entries.specs.Entries.{later, marked, rows_of, entries_of, entries, Written}

pub written-length : {written before rows : List ℕ} {end : ℕ} → Written written before rows end → length rows ≡ length before
written-length {written} {before} {rows} {end} h =
    ap length h.bytes ∙ length-append written (drop end before) ∙ omega (arith, h.count, h.room, length-drop end before)

-- one byte more, behind those that stand
pub write_one : {written before rows : List ℕ} {end : ℕ} (x : ℕ) → Written written before rows end → end < length before
    → Written (written ++ x ∷ []) before (set rows end x) (end + 1)
write_one {written} {before} {rows} {end} x h inside =
    let one : suc end ≡ end + 1 = omega arith in
    record {
      count = omega (arith, h.count, length-append written (x ∷ []));
      room = omega (arith, inside);
      bytes =
          ap (λ (l : List ℕ). set l end x) (h.bytes ∙ ap (λ (l : List ℕ). written ++ l) (drop-cons before end 0 inside))
          ∙ set_at written (get_or before end 0) (drop (suc end) before) x end (sym h.count)
          ∙ sym (append_assoc written (x ∷ []) (drop (suc end) before))
          ∙ ap (λ (k : ℕ). (written ++ x ∷ []) ++ drop k before) one;
    }

-- nothing is written yet behind those
pub write_none : (written before : List ℕ) (end : ℕ) → end ≡ length written → end ≤ length before → Written written before (written ++ drop end before) end
write_none written before end e inside = record { count = e; room = inside; bytes = refl }

-- behind what stands before `used`, more is written
pub write_behind : {written before rows rows' : List ℕ} {used end : ℕ} (more : List ℕ) → Written written before rows used
    → Written (take used rows ++ more) rows rows' end → used ≤ end → Written (written ++ more) before rows' end
write_behind {written} {before} {rows} {rows'} {used} {end} more h w past =
    let front : take used rows ≡ written = ap (take used) h.bytes ∙ take_at written (drop used before) used (sym h.count) in
    let long = written-length h in
    record {
      count = w.count ∙ ap (λ (l : List ℕ). length (l ++ more)) front;
      room = omega (arith, w.room, long);
      bytes =
          w.bytes
          ∙ ap₂ (λ (l r : List ℕ). (l ++ more) ++ r) front
          (ap (drop end) h.bytes ∙ behind (end - used) (omega arith) ∙ drop-all (omega arith));
    }
  where
    behind : (k : ℕ) → end ≡ used + k → drop end (written ++ drop used before) ≡ drop k (drop used before)
    behind k e =
        ap (λ (n : ℕ). drop n (written ++ drop used before)) (e ∙ ap (λ (n : ℕ). n + k) h.count)
        ∙ drop-append-add written (drop used before) k

    drop-all : used + (end - used) ≡ end → drop (end - used) (drop used before) ≡ drop end before
    drop-all e = drop-drop (end - used) used before ∙ ap (λ (n : ℕ). drop n before) e

-- what stands before `used`, as it was
pub write_front : (rows : List ℕ) (used : ℕ) → used ≤ length rows → Written (take used rows) rows rows used
write_front rows used inside =
    record { count = sym (length-take-le used rows inside); room = inside; bytes = sym (take-append-drop used rows) }

-- ---- the entries of a record

pub marked-length : (rows : List ℕ) → length (marked rows) ≡ length rows
unfolding marked
marked-length [] = refl
marked-length (r ∷ rs) = ap suc (length-map rs later)

-- one vote more of a bundle: its entry is the first, or has the mark
pub marked_more : (rows : List ℕ) (row : ℕ) → marked (rows ++ row ∷ []) ≡ marked rows ++ cond (eqb (length rows) 0) row (later row) ∷ []
unfolding marked
marked_more [] row = refl
marked_more (r ∷ rs) row = ap (◌∷◌ r) (map_app later rs (row ∷ []))
    ∙ ap (λ (b : Bool). r ∷ (map later rs ++ cond b row (later row) ∷ [])) (sym (ne_eqb (suc (length rs)) 0 (λ e. absurd (omega arith))))

pub entries-more : (ts : List (Answer Told)) (t : Answer Told) → entries (ts ++ t ∷ []) ≡ entries ts ++ entries_of t
unfolding flat_map
entries-more [] t = append-nil (entries_of t)
entries-more (u ∷ ts) t = ap (λ (l : List ℕ). entries_of u ++ l) (entries-more ts t) ∙ sym (append_assoc (entries_of u) (entries ts) (entries_of t))

-- what is no bundle has one: its row
abbrev pub OneEntry : Answer Told → Type 0
OneEntry t = entries_of t ≡ row_of (brief t) ∷ []

pub nothing-entry : OneEntry (answer nothing_left)
unfolding rows_of row_of marked brief
nothing-entry = refl

pub taken-entry : OneEntry (answer taken)
unfolding rows_of row_of marked brief
taken-entry = refl

pub refused-entry : (n : ℕ) → OneEntry (refused n)
unfolding rows_of row_of marked brief
refused-entry n = refl

-- ---- places that are not used

pub drop-zeros : (k n : ℕ) → drop {A = ℕ} k (replicate n 0) ≡ replicate (n - k) 0
drop-zeros zero n = let e : n ≡ n - 0 = omega arith in ap (λ (i : ℕ). replicate i 0) e
drop-zeros (suc k) zero = let e : 0 ≡ 0 - suc k = omega arith in ap (λ (i : ℕ). replicate i 0) e
drop-zeros (suc k) (suc n) = let e : n - k ≡ suc n - suc k = omega arith in drop-zeros k n ∙ ap (λ (i : ℕ). replicate i 0) e
