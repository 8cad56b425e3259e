-- The flat table of names as a list: the name at a place, and how many there are.
use Prim.Native.Nat.{ℕ, zero, suc, ◌*◌, ◌<◌}
use native.Mathlib.Omega.{arith}
use native.Mathlib.Nat.{suc-mul, add_comm}
use mathlib.Core.Path.{◌≡◌, refl, sym, ap, ◌∙◌}
use mathlib.Core.List.{List, []}
use mathlib.Core.Bool.{Bool, true}
use borrow.Author.Tests.{lt-ltb, le-ltb}
use lib.ListN.{length, drop, get_or}
use lib.Seq.{drop-drop}
use Rattle.std.specs.Prelude.{Option, Some, None, MatchOption}
use Rattle.std.specs.Option.{is_some}
use Rattle.model.specs.Bytes.{part}
use Rattle.model.specs.Lists.{any_below, first_index, pair_below}
use Rattle.model.proofs.Lists.{found_below}
use Rattle.names.specs.Rows.{rows}
use Rattle.search.proofs.Search.{Element}
use Rattle.search.proofs.Below.{Elements, found_among}

pub rows-length : (n : ℕ) (l : List ℕ) → length (rows n l) ≡ n
unfolding rows
rows-length zero l = refl
rows-length (suc n) l = ap suc (rows-length n (drop 32 l))

get_d_rows : (n i : ℕ) (l : List ℕ) → i < n → get_or (rows n l) i [] ≡ part (i * 32) 32 l
unfolding rows
get_d_rows zero i l h = absurd (omega arith)
get_d_rows (suc n) zero l h = refl
get_d_rows (suc n) (suc i) l h = get_d_rows n i (drop 32 l) (omega arith) ∙ rw (drop-drop, suc-mul, add_comm 32 (i * 32))

pub rows_at : (n i : ℕ) (l : List ℕ) → i < n → Element [] (rows n l) i (part (i * 32) 32 l)
rows_at n i l h = record { inside = omega (arith, rows-length n l); here = get_d_rows n i l h }

pub rows_all : (n : ℕ) (l : List ℕ) → Elements [] (rows n l) n (λ i. part (i * 32) 32 l)
rows_all n l = record { many = rows-length n l; each = λ i h. rows_at n i l h }

-- a search finds a name exactly when some name is the one
pub found-name : (n : ℕ) (l : List ℕ) (p : List ℕ → Bool) (r : Option ℕ)
    → MatchOption r (first_index p (rows n l) ≡ n) (λ i. (i ≡ first_index p (rows n l)) × (i < n))
    → is_some r ≡ any_below n (λ i. p (part (i * 32) 32 l))
found-name n l p None e =
    sym (le-ltb (first_index p (rows n l)) n (omega arith)) ∙ found_among p (rows_all n l) refl
found-name n l p (Some i) so =
    sym (lt-ltb (first_index p (rows n l)) n (omega (arith, so.0, so.1))) ∙ found_among p (rows_all n l) refl

-- what is among those before it stands twice
pub twice-found : (n j : ℕ) (same : ℕ → ℕ → Bool)
    → j < n
    → any_below j (λ i. same i j) ≡ true
    → true ≡ pair_below n same
unfolding pair_below
twice-found n j same h e = sym (found_below n (λ k. any_below k (λ i. same i k)) j h e)
