-- The rows of the last record's votes, from the entries of all that were passed.
use Prim.Native.Nat.{ℕ, ◌+◌, ◌-◌, ◌%◌, ◌<◌, ◌≤◌}
use native.Mathlib.Omega.{arith}
use mathlib.Core.Path.{◌≡◌, refl, sym, ap, ap₂, ◌∙◌}
use mathlib.Core.List.{List, [], ◌∷◌, ◌++◌, map, flat_map, append_assoc, append-nil}
use lib.ListN.{length, take, drop, length-append, length-map}
use lib.Seq.{take_at, drop-append-add}
use Rattle.model.specs.Answer.{Answer, refused, answer, row_of}
use Rattle.model.specs.Bytes.{part}
use Rattle.model.specs.Change.{Told, nothing_left, taken, bundled}
use Rattle.model.specs.Lists.{All, none, each}
use Rattle.model.proofs.Lists.{all_append}
use Rattle.state.specs.Reading.{Brief, none_left, one_taken, many_votes, outcome_of, brief, rows_of_votes, padded}
use Rattle.state.specs.State.{model_of}
use Rattle.std.specs.Prelude.{Result, Ok, Err}
use Rattle.model.specs.declared.Refusal.{Refusal}
use Rattle.state.specs.declared.Passed.{Passed}
use Rattle.state.specs.declared.Passed.TheVariants.{Nothing, Taken, Bundled}
use Rattle.state.specs.declared.Witness.{Witness}
use Rattle.entries.specs.Entries.{later, marked, rows_of, entries_of, entries, votes_in, last_rows}
use Rattle.reader.specs.Many.{read_many, last_told, IsBatch}
use Rattle.reader.specs.declared.Batch.{Batch}
use Rattle.entries.proofs.Entries.{marked-length}
use Rattle.reader.proofs.Made.{while_passed}
use Rattle.reader.proofs.Told.{Rowed, told-rowed}

-- ---- the rows from the entries

unmark-later : (rows : List ℕ) → All (λ n. n < 128) rows → map (λ e. e % 128) (map later rows) ≡ rows
unmark-later [] none = refl
unmark-later (r ∷ rs) (each h hs) = let e : (128 + r) % 128 ≡ r = omega arith in ap₂ (λ (x : ℕ) (xs : List ℕ). x ∷ xs) e (unmark-later rs hs)

pub unmark : (rows : List ℕ) → All (λ n. n < 128) rows → map (λ e. e % 128) (marked rows) ≡ rows
unfolding marked
unmark [] none = refl
unmark (r ∷ rs) (each h hs) = let e : r % 128 ≡ r = omega arith in ap₂ (λ (x : ℕ) (xs : List ℕ). x ∷ xs) e (unmark-later rs hs)

-- all that was told has such rows
pub all-rowed : (log : List ℕ) (n room : ℕ) (w : Witness) (at : ℕ) → All Rowed (read_many n room w log at).passed
all-rowed log n room w at =
    while_passed log n room (λ (ts : List (Answer Told)) (v : Witness) (p : ℕ). All Rowed ts)
    (λ ts v p few free some all. all_append all (each (told-rowed (model_of v) (drop p log)) none)) w at none

-- ---- the last

-- what an outcome says of the number of votes
abbrev count_of : Answer Brief → ℕ
count_of (refused n) = 0
count_of (answer none_left) = 0
count_of (answer one_taken) = 0
count_of (answer (many_votes n)) = n

of-outcome : (o : Result Passed Refusal) → votes_in o ≡ count_of (outcome_of o)
of-outcome (Ok Nothing) = refl
of-outcome (Ok Taken) = refl
of-outcome (Ok (Bundled n)) = refl
of-outcome (Err r) = refl

of-told : (t : Answer Told) → count_of (brief t) ≡ length (rows_of_votes t)
unfolding brief rows_of_votes
of-told (refused n) = refl
of-told (answer nothing_left) = refl
of-told (answer taken) = refl
of-told (answer (bundled os)) = sym (length-map os row_of)

number_is : (o : Result Passed Refusal) (t : Answer Told) → outcome_of o ≡ brief t → votes_in o ≡ length (rows_of_votes t)
number_is o t e = of-outcome o ∙ ap count_of e ∙ of-told t

-- the entries of one record give its votes' rows back
module _ (rest : List ℕ) where
  abbrev Gives : (entered votes : List ℕ) → Type 0
  Gives entered votes = (length votes ≤ length entered) × (last_rows (length votes) (length entered) (entered ++ rest) ≡ votes)

  of_one : (t : Answer Told) → Rowed t → Gives (entries_of t ++ []) (rows_of_votes t)
  unfolding rows_of_votes rows_of
  of_one (refused n) ok = (omega arith, refl)
  of_one (answer nothing_left) ok = (omega arith, refl)
  of_one (answer taken) ok = (omega arith, refl)
  of_one (answer (bundled os)) ok =
      let rows = map row_of os in
      let long : length (marked rows ++ []) ≡ length rows = ap length (append-nil (marked rows)) ∙ marked-length rows in
      let none_before : length (marked rows ++ []) - length rows ≡ 0 = omega (arith, long) in (
        omega (arith, long),
        ap (λ (k : ℕ). map (λ e. e % 128) (part k (length rows) ((marked rows ++ []) ++ rest))) none_before
            ∙ ap (λ (l : List ℕ). map (λ e. e % 128) (take (length rows) (l ++ rest))) (append-nil (marked rows))
            ∙ ap (map (λ e. e % 128)) (take_at (marked rows) rest (length rows) (marked-length rows))
            ∙ unmark rows ok.small,
      )

  -- and so do those of several
  last-from : (u : Answer Told) (us : List (Answer Told)) → All Rowed (u ∷ us) → Gives (entries (u ∷ us)) (rows_of_votes (last_told u us))
  unfolding last_told flat_map
  last-from u [] (each ok none) = of_one u ok
  last-from u (v ∷ us) (each ok oks) =
      let later = last-from v us oks in
      let e = entries_of u in
      let es = entries (v ∷ us) in
      let n = length (rows_of_votes (last_told v us)) in
      let past : length (e ++ es) - n ≡ length e + (length es - n) = omega (arith, length-append e es, later.0) in (
        omega (arith, length-append e es, later.0),
        ap₂ (λ (k : ℕ) (l : List ℕ). map (λ x. x % 128) (take n (drop k l))) past (append_assoc e es rest)
            ∙ ap (λ (l : List ℕ). map (λ x. x % 128) (take n l)) (drop-append-add e (es ++ rest) (length es - n))
            ∙ later.1,
      )

last-gives : (ts : List (Answer Told)) (rest : List ℕ) → All Rowed ts → Gives rest (entries ts) (rows_of_votes (last_told (answer nothing_left) ts))
unfolding last_told rows_of_votes flat_map
last-gives [] rest none = (omega arith, refl)
last-gives (u ∷ us) rest ok = last-from rest u us ok

-- at most so many votes as there can be members
few-rows : (t : Answer Told) → Rowed t → length (rows_of_votes t) ≤ 128
unfolding rows_of_votes rows_of
few-rows (refused n) ok = omega arith
few-rows (answer nothing_left) ok = omega arith
few-rows (answer taken) ok = omega arith
few-rows (answer (bundled os)) ok = ok.few

few-votes : (t : Answer Told) (ts : List (Answer Told)) → length (rows_of_votes t) ≤ 128 → All Rowed ts → length (rows_of_votes (last_told t ts)) ≤ 128
unfolding last_told
few-votes t [] h none = h
few-votes t (u ∷ us) h (each ok oks) = few-votes u us (few-rows u ok) oks

none_told : length (rows_of_votes (answer nothing_left)) ≤ 128
unfolding rows_of_votes
none_told = omega arith

-- of what reading on gives back: what `last_votes` asks, and what it gives
module _ (n room : ℕ) (w : Witness) (log : List ℕ) (at : ℕ) {before after : List ℕ} {r : Batch}
    (is : IsBatch (read_many n room w log at) before r after) where
  abbrev told : Answer Told
  told = last_told (answer nothing_left) (read_many n room w log at).passed

  number : votes_in r.last ≡ length (rows_of_votes told)
  number = number_is r.last told is.last

  gives : let es = entries (read_many n room w log at).passed in Gives (drop (length es) before) es (rows_of_votes told)
  gives = last-gives (read_many n room w log at).passed _ (all-rowed log n room w at)

  pub votes-fit : (r.used ≤ length after) × (votes_in r.last ≤ r.used) × (votes_in r.last ≤ 128)
  votes-fit =
      let es = entries (read_many n room w log at).passed in (
        omega (arith, is.used, ap length is.rows, length-append es (drop (length es) before)),
        omega (arith, number, is.used, gives.0),
        omega (arith, number, few-votes _ _ none_told (all-rowed log n room w at)),
      )

  pub votes_are : padded (last_rows (votes_in r.last) r.used after) ≡ padded (rows_of_votes told)
  votes_are = ap padded ((λ i. last_rows (number i) (is.used i) (is.rows i)) ∙ gives.1)
