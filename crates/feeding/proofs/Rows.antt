-- The lines of records that were passed, by their entries: they are those of what was told.
use Prim.Native.Nat.{ℕ, zero, suc, ◌+◌, ◌*◌, ◌/◌, ◌%◌, ◌^◌, ◌<◌, ◌≤◌}
use native.Mathlib.Nat.{mod-lt, pow-suc, div-add-mod'}
use native.Mathlib.Omega.{arith}
use mathlib.Core.Path.{◌≡◌, refl, sym, ap, ap₂, ◌∙◌}
use mathlib.Core.List.{List, [], ◌∷◌, ◌++◌, map, flat_map, append_assoc, append-nil}
use mathlib.Core.Bool.{Bool, true, false, cond}
use borrow.Author.Tests.{eq-eqb, ne_eqb, lt-ltb, le-ltb, ltb-false}
use lib.Dec.{eqb, ltb}
use lib.ListN.{length, drop, get_or, length-append}
use lib.Seq.{drop-cons}
use Rattle.model.specs.Answer.{Answer, refused, answer, row_of}
use Rattle.model.specs.Bytes.{ascii}
use Rattle.model.specs.Change.{Told, nothing_left, taken, bundled}
use Rattle.model.specs.Lists.{All, none, each}
use Rattle.model.specs.Report.{digits, decimal, newline, stops?, stopped_line, refused_line, bundle_lines, outcome_line, outcome_lines}
use Rattle.entries.specs.Entries.{later, marked, rows_of, entries_of, entries}
use Rattle.entries.proofs.Entries.{marked-length}
use Rattle.reader.proofs.Told.{Named, Rowed}
use Rattle.text.specs.Put.{Put}
use Rattle.text.proofs.Putting as Putting
use Rattle.feeding.specs.Rows.{row_line, number_at, next_at, lines_from, entry_lines, beginning}

-- ---- one line

pub row-none : (k row : ℕ) → row ≡ 0 → [] ≡ row_line k row
row-none k row e = ap (λ (b : Bool). cond b [] (refused_line row k)) (sym (eq-eqb row 0 e))

pub row-some : (k row : ℕ) → (row ≡ 0 → ⊥) → refused_line row k ≡ row_line k row
row-some k row e = ap (λ (b : Bool). cond b [] (refused_line row k)) (sym (ne_eqb row 0 e))

-- ---- a line has at most 64 bytes

digits-short : (d fuel n : ℕ) → n < 10 ^ suc d → length (digits fuel n) ≤ suc d
unfolding digits
digits-short d zero n h = omega arith
digits-short d (suc fuel) n h = go d (ltb n 10) refl h (λ e. digits-short e fuel (n / 10))
  where
    go : (d : ℕ) (b : Bool) → ltb n 10 ≡ b → n < 10 ^ suc d → ((e : ℕ) → n / 10 < 10 ^ suc e → length (digits fuel (n / 10)) ≤ suc e)
        → length {A = ℕ} (elim b [ true ↦ (48 + n) ∷ [] | false ↦ digits fuel (n / 10) ++ (48 + n % 10) ∷ [] ]) ≤ suc d
    go d true e h ih = omega arith
    go zero false e h ih = absurd (omega (arith, h, ltb-false n 10 e))
    go (suc d) false e h ih =
        let whole = div-add-mod' n 10 in
        let last = mod-lt n {m = 10} (omega arith) in
        omega (arith, length-append (digits fuel (n / 10)) ((48 + n % 10) ∷ []), ih d (omega (arith, h, whole, last, pow-suc 10 (suc d))))

decimal-short : (n : ℕ) → n < 2 ^ 64 → length (decimal n) ≤ 20
unfolding decimal
decimal-short n h = digits-short 19 (suc n) n (omega (arith, h))

line-short : (k n : ℕ) → k < 2 ^ 64 → n < 2 ^ 64 → length (refused_line n k) ≤ 64
unfolding refused_line ascii newline
line-short k n h l = simp length-append (omega (arith, decimal-short k h, decimal-short n l))

row-short : (k row : ℕ) → k < 2 ^ 64 → row < 128 → length (row_line k row) ≤ 64
row-short k row h l = go (eqb row 0)
  where
    go : (b : Bool) → length (cond b [] (refused_line row k)) ≤ 64
    go true = omega arith
    go false = line-short k row h (omega (arith, l))

-- ---- what the entries of a record come to

-- entries that begin no record
later-lines : (k next : ℕ) (rows rest : List ℕ) → All (λ n. n < 128) rows → lines_from k next (map later rows ++ rest) ≡ flat_map (row_line k) rows ++ lines_from k next rest
unfolding lines_from flat_map
later-lines k next [] rest none = refl
later-lines k next (r ∷ rs) rest (each h hs) =
    let past : ltb (later r) 128 ≡ false = le-ltb (later r) 128 (omega arith) in
    let row : (128 + r) % 128 ≡ r = omega arith in
    (λ i. row_line (cond (past i) next k) (row i) ++ lines_from (cond (past i) next k) (cond (past i) (next + 1) next) (map later rs ++ rest))
    ∙ ap (λ (l : List ℕ). row_line k r ++ l) (later-lines k next rs rest hs)
    ∙ sym (append_assoc (row_line k r) (flat_map (row_line k) rs) (lines_from k next rest))

later-begin : (rows rest : List ℕ) → beginning (map later rows ++ rest) ≡ beginning rest
unfolding beginning
later-begin [] rest = refl
later-begin (r ∷ rs) rest =
    let past : ltb (later r) 128 ≡ false = le-ltb (later r) 128 (omega arith) in
    ap (λ (b : Bool). cond b 1 0 + beginning (map later rs ++ rest)) past ∙ omega (arith, later-begin rs rest)

marked-lines : (j k : ℕ) (rows rest : List ℕ) → 0 < length rows → All (λ n. n < 128) rows
    → lines_from j k (marked rows ++ rest) ≡ flat_map (row_line k) rows ++ lines_from k (k + 1) rest
unfolding lines_from marked flat_map
marked-lines j k [] rest some ok = absurd (omega arith)
marked-lines j k (r ∷ rs) rest some (each h hs) =
    let first : ltb r 128 ≡ true = lt-ltb r 128 h in
    let row : r % 128 ≡ r = omega arith in
    (λ i. row_line (cond (first i) k j) (row i) ++ lines_from (cond (first i) k j) (cond (first i) (k + 1) k) (map later rs ++ rest))
    ∙ ap (λ (l : List ℕ). row_line k r ++ l) (later-lines k (k + 1) rs rest hs)
    ∙ sym (append_assoc (row_line k r) (flat_map (row_line k) rs) (lines_from k (k + 1) rest))

marked-begin : (rows rest : List ℕ) → 0 < length rows → All (λ n. n < 128) rows → beginning (marked rows ++ rest) ≡ 1 + beginning rest
unfolding beginning marked
marked-begin [] rest some ok = absurd (omega arith)
marked-begin (r ∷ rs) rest some (each h hs) =
    ap (λ (b : Bool). cond b 1 0 + beginning (map later rs ++ rest)) (lt-ltb r 128 h) ∙ ap (λ (n : ℕ). 1 + n) (later-begin rs rest)

rows_short : (k : ℕ) (rows : List ℕ) → k < 2 ^ 64 → All (λ n. n < 128) rows → length (flat_map (row_line k) rows) ≤ 64 * length rows
unfolding flat_map
rows_short k [] h none = omega arith
rows_short k (r ∷ rs) h (each l ls) =
    omega (arith, length-append (row_line k r) (flat_map (row_line k) rs), row-short k r h l, rows_short k rs h ls)

-- ---- what was told

-- a record that was passed
pub record Passed (t : Answer Told) : Type 0 where
  pub rowed : Rowed t
  pub goes : stops? t ≡ false

vote-lines : (k : ℕ) (os : List (Answer (Unit {0}))) → All Named os → flat_map (row_line k) (map row_of os) ≡ bundle_lines k os
unfolding bundle_lines row_of flat_map
vote-lines k [] none = refl
vote-lines k (refused n ∷ os) (each h hs) = ap₂ (λ (x y : List ℕ). x ++ y) (sym (row-some k n (λ e. omega (arith, h, e)))) (vote-lines k os hs)
vote-lines k (answer a ∷ os) (each h hs) = vote-lines k os hs

told-lines : (k : ℕ) (t : Answer Told) → Passed t → flat_map (row_line k) (rows_of t) ≡ outcome_line k t
unfolding outcome_line rows_of flat_map
told-lines k (refused n) p =
    append-nil (row_line k n)
    ∙ sym (row-some k n (λ e. omega (arith, p.rowed.named, e)))
    ∙ sym (ap (λ (b : Bool). cond b (stopped_line n k) (refused_line n k)) p.goes)
told-lines k (answer nothing_left) p = refl
told-lines k (answer taken) p = refl
told-lines k (answer (bundled os)) p = vote-lines k os p.rowed.named

pub line-fits : (k : ℕ) (t : Answer Told) → k < 2 ^ 64 → Passed t → length (outcome_line k t) ≤ 64 * length (entries_of t)
line-fits k t h p =
    omega (arith, ap length (told-lines k t p), marked-length (rows_of t), rows_short k (rows_of t) h p.rowed.small)

-- the entries of several
lines-from : (j k : ℕ) (ts : List (Answer Told)) → All Passed ts → lines_from j k (entries ts) ≡ outcome_lines k ts
unfolding outcome_lines flat_map lines_from
lines-from j k [] none = refl
lines-from j k (t ∷ ts) (each p ps) =
    let one : k + 1 ≡ suc k = omega arith in
    marked-lines j k (rows_of t) (entries ts) p.rowed.some p.rowed.small
    ∙ ap₂ (λ (x y : List ℕ). x ++ y) (told-lines k t p) (lines-from k (k + 1) ts ps ∙ ap (λ (n : ℕ). outcome_lines n ts) one)

pub entry-lines : (k : ℕ) (ts : List (Answer Told)) → All Passed ts → entry_lines k (entries ts) ≡ outcome_lines k ts
entry-lines k ts ps = lines-from k k ts ps

pub entries-begin : (ts : List (Answer Told)) → All Passed ts → beginning (entries ts) ≡ length ts
unfolding beginning flat_map
entries-begin [] none = refl
entries-begin (t ∷ ts) (each p ps) =
    omega (arith, marked-begin (rows_of t) (entries ts) p.rowed.some p.rowed.small, entries-begin ts ps)

-- one record more
pub outcome-more : (k : ℕ) (ts : List (Answer Told)) (t : Answer Told) → outcome_lines k ts ++ outcome_line (k + length ts) t ≡ outcome_lines k (ts ++ t ∷ [])
unfolding outcome_lines
outcome-more k [] t = let same : k + 0 ≡ k = omega arith in ap (λ (j : ℕ). outcome_line j t) same ∙ sym (append-nil (outcome_line k t))
outcome-more k (u ∷ ts) t =
    let same : k + suc (length ts) ≡ suc k + length ts = omega arith in
    append_assoc (outcome_line k u) (outcome_lines (suc k) ts) (outcome_line (k + suc (length ts)) t)
    ∙ ap (λ (j : ℕ). outcome_line k u ++ (outcome_lines (suc k) ts ++ outcome_line j t)) same
    ∙ ap (◌++◌ (outcome_line k u)) (outcome-more (suc k) ts t)

-- ---- the loop over the entries

counted : (b : Bool) (next n : ℕ) → cond b (next + 1) next + n ≡ next + (cond b 1 0 + n)
counted true next n = omega arith
counted false next n = omega arith

-- the lines so far, and those of the entries that are left, are the whole
pub record Lined (before : List ℕ) (at k : ℕ) (rows buf : List ℕ) (end number next i : ℕ) : Type 0 where
  pub inside : i ≤ length rows
  pub text : List ℕ
  pub put : Put before at text buf end
  pub short : end ≤ at + 64 * i
  pub numbered : next + beginning (drop i rows) ≡ k + beginning rows
  pub more : entry_lines k rows ≡ text ++ lines_from number next (drop i rows)

pub none_lined : (before : List ℕ) (at k : ℕ) (rows : List ℕ) → at ≤ length before → Lined before at k rows before at k k 0
none_lined before at k rows h =
    record { inside = omega arith; text = []; put = Putting.none before at h; short = omega arith; numbered = refl; more = refl }

module _ {before : List ℕ} {at k : ℕ} {rows buf : List ℕ} {end number next i : ℕ} (so : Lined before at k rows buf end number next i) (inside : i < length rows) where
  abbrev entry : ℕ
  entry = get_or rows i 0

  abbrev rest : List ℕ
  rest = drop (suc i) rows

  here : drop i rows ≡ entry ∷ rest
  here = drop-cons rows i 0 inside

  -- a record that begins has a number
  pub may-begin : entry < 128 → next + 1 ≤ k + beginning rows
  unfolding beginning
  may-begin h =
      let count : Bool → ℕ = λ b. cond b 1 0 in
      let one : count (ltb entry 128) ≡ count true = ap count (lt-ltb entry 128 h) in
      omega (arith, so.numbered, ap beginning here, one)

  -- its line is written
  pub line-more : {buf' : List ℕ} {end' number' next' : ℕ} → number' ≡ number_at number next entry → next' ≡ next_at next entry
      → Put buf end (row_line (number_at number next entry) (entry % 128)) buf' end' → end' ≤ end + 64
      → Lined before at k rows buf' end' number' next' (i + 1)
  unfolding lines_from beginning
  line-more {buf'} {end'} {number'} {next'} number_is next-is line fits =
      let one : suc i ≡ i + 1 = omega arith in
      let j = number_at number next entry in
      record {
        inside = omega arith;
        text = so.text ++ row_line j (entry % 128);
        put = Putting.next so.put line;
        short = omega (arith, so.short, fits);
        numbered =
            (λ x. next-is x + beginning (drop (sym one x) rows))
            ∙ counted (ltb entry 128) next (beginning rest)
            ∙ ap (λ (l : List ℕ). next + beginning l) (sym here)
            ∙ so.numbered;
        more =
            so.more
            ∙ ap (λ (l : List ℕ). so.text ++ lines_from number next l) here
            ∙ sym (append_assoc so.text (row_line j (entry % 128)) (lines_from j (next_at next entry) rest))
            ∙ (λ x. (so.text ++ row_line j (entry % 128)) ++ lines_from (sym number_is x) (sym next-is x) (drop (one x) rows));
      }
