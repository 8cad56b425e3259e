-- Bytes written one run after another into a lent buffer: what is written so far, and past it what was there.
use Prim.Native.Nat.{ℕ, zero, suc, ◌+◌, ◌*◌, ◌-◌, ◌<◌, ◌≤◌}
use native.Mathlib.Omega.{arith}
use native.Mathlib.Numerals.{add-one}
use mathlib.Core.Path.{◌≡◌, refl, sym, ap, ap₂, ◌∙◌}
use mathlib.Core.List.{List, [], ◌∷◌, ◌++◌, append_assoc, append-nil, flat_map}
use lib.ListN.{length, get_or, take, drop, length-map, length-append, length-drop, take-append-drop, drop_of_length-le}
use lib.Seq.{length-take-le, take_all, take_at, drop_at, drop-drop}
use Rattle.model.specs.Bytes.{be_bytes, ascii}
use Rattle.model.specs.Evidence as Model
use Rattle.model.specs.Evidence.{entry_bytes, list_bytes}
use Rattle.model.proofs.Checker.{length_encoded}
use Rattle.evidence.specs.declared.Charge.{Charge}
use Rattle.evidence.specs.Listed.{charge_in, charges_in}

-- the rest of a buffer, lent and written to its first k bytes, comes back in its place
pub lent_tail : (at k : ℕ) (l b m : List ℕ) → m ≡ b ++ drop k (take (length l - at) (drop at l)) → take at l ++ (m ++ drop (length l - at) (drop at l)) ≡ take at l ++ (b ++ drop k (drop at l))
lent_tail at k l b m e = rw (e, take_all (length l - at) (drop at l) all, drop_of_length-le (drop at l) {i = length l - at} all, append-nil)
  where
    all : length (drop at l) ≤ length l - at
    all = simp length-drop (omega arith)

-- p is written, n bytes; b goes after it
pub written-more : (n k : ℕ) (l₀ p b : List ℕ) {l m : List ℕ} → length p ≡ n → l ≡ p ++ drop n l₀ → m ≡ take n l ++ (b ++ drop k (drop n l)) → m ≡ p ++ b ++ drop (n + k) l₀
written-more n k l₀ p b long before after = rw (after, before, take_at p (drop n l₀) n long, drop_at p (drop n l₀) n long, drop-drop, append_assoc)

-- ---- the entries

pub flat_append : {A B : Type 0} (f : A → List B) (xs ys : List A) → flat_map f (xs ++ ys) ≡ flat_map f xs ++ flat_map f ys
unfolding flat_map
flat_append f [] ys = refl
flat_append f (x ∷ xs) ys = rw (flat_append f xs ys, append_assoc)

-- one more at the end
pub flat_snoc : {A B : Type 0} (f : A → List B) (xs : List A) (x : A) → flat_map f (xs ++ x ∷ []) ≡ flat_map f xs ++ f x
unfolding flat_map
flat_snoc f xs x = rw (flat_append f xs (x ∷ []), append-nil)

pub count-charges : (cs : List Charge) → length (charges_in cs) ≡ length cs
count-charges cs = length-map cs charge_in

-- the first i entries are written
abbrev pub Entered : List Model.Charge → ℕ → List ℕ → List ℕ → Type 0
Entered cs i l₀ l = l ≡ take 7 l₀ ++ flat_map entry_bytes (take i cs) ++ drop (7 + 6 * i) l₀

pub entered_none : (cs : List Model.Charge) (l : List ℕ) → Entered cs 0 l l
unfolding flat_map
entered_none cs l = rw append-nil (sym (take-append-drop 7 l))

take_more : (cs : List Charge) (i : ℕ) (d : Charge) → i < length cs
    → take (suc i) (charges_in cs) ≡ take i (charges_in cs) ++ charge_in (get_or cs i d) ∷ []
take_more [] i d h = absurd (omega arith)
take_more (c ∷ cs) zero d h = refl
take_more (c ∷ cs) (suc i) d h = ap (λ (l : List Model.Charge). charge_in c ∷ l) (take_more cs i d (omega arith))

pub entered_more : (charges : List Charge) (i : ℕ) (d : Charge) (l₀ : List ℕ) {l m : List ℕ} → i < length charges → 7 ≤ length l₀ → Entered (charges_in charges) i l₀ l
    → m ≡ take (7 + 6 * i) l ++ (entry_bytes (charge_in (get_or charges i d)) ++ drop 6 (drop (7 + 6 * i) l)) → Entered (charges_in charges) (i + 1) l₀ m
entered_more charges i d l₀ h fits before after =
    let further : 7 + 6 * i + 6 ≡ 7 + 6 * (i + 1) = omega arith in
    written-more (7 + 6 * i) 6 l₀ (take 7 l₀ ++ flat_map entry_bytes (take i cs)) (entry_bytes x) long before after
    ∙ ap₂ (λ (p : List ℕ) (n : ℕ). p ++ drop n l₀) entries further
  where
    cs : List Model.Charge
    cs = charges_in charges

    x : Model.Charge
    x = charge_in (get_or charges i d)

    long : length (take 7 l₀ ++ flat_map entry_bytes (take i cs)) ≡ 7 + 6 * i
    long =
        length-append (take 7 l₀) (flat_map entry_bytes (take i cs))
        ∙ omega (arith, length-take-le 7 l₀ fits, length_encoded (take i cs), length-take-le i cs (omega (arith, count-charges charges)))

    entries : take 7 l₀ ++ flat_map entry_bytes (take i cs) ++ entry_bytes x ≡ take 7 l₀ ++ flat_map entry_bytes (take (i + 1) cs)
    entries = rw (add-one, take_more charges i d h, append_assoc, flat_snoc entry_bytes (take i cs) x)

-- ---- the whole list

abbrev head : ℕ → List ℕ
head n = ascii "FFP" ++ be_bytes 2 1 ++ be_bytes 2 n

length-head : (n : ℕ) → length (head n) ≡ 7
unfolding ascii be_bytes
length-head n = refl

module _ (cs : List Model.Charge) (n : ℕ) (count : length cs ≡ n) where
  pub length-list : length (list_bytes cs) ≡ 7 + 6 * n
  unfolding list_bytes
  length-list =
      length-append (head (length cs)) (flat_map entry_bytes cs)
      ∙ omega (arith, length-head (length cs), length_encoded cs)

  -- the header, then the entries
  pub list_done : (l : List ℕ) {m after : List ℕ} → m ≡ head n ++ drop 7 l → after ≡ take 7 m ++ flat_map entry_bytes cs ++ drop (7 + 6 * n) m → after ≡ list_bytes cs ++ drop (7 + 6 * n) l
  unfolding list_bytes
  list_done l headed entered =
      rw (count, entered, headed, ← drop-drop (6 * n) 7 (head n ++ drop 7 l), take_at (head n) (drop 7 l) 7 (length-head n), drop_at (head n) (drop 7 l) 7 (length-head n), drop-drop)
