-- Arrays compacted in place: what passes a test is moved to the front, one entry after another, and what stands past it
-- is as it was.
use Prim.Native.Nat.{ℕ, zero, suc, ◌+◌, ◌*◌, ◌-◌, ◌<◌, ◌≤◌}
use native.Mathlib.Omega.{arith}
use native.Mathlib.Numerals.{add-one}
use mathlib.Core.Path.{◌≡◌, refl, sym, ap, ap₂, ◌∙◌}
use mathlib.Core.Logic.{⊎_elim}
use mathlib.Core.List.{List, [], ◌∷◌, ◌++◌, map, flat_map, append-nil, append_assoc, map-append}
use mathlib.Core.Bool.{Bool, true, false}
use lib.ListN.{length, get_or, set, take, drop, length-map, length-append, length-drop}
use lib.Seq.{drop-cons, set_at, take_at, append_snoc, get_or-append-add, get_or-drop, drop-append-add, drop-drop}
use lib.Seq.{length-take-le, paste}
use Rattle.model.specs.Bytes.{part}
use Rattle.model.specs.Lists.{picked}
use Rattle.model.proofs.Lists.{decided}
use Rattle.model.proofs.Picked.{rank, rank_le, rank-yes, rank-no, picked-yes, picked-no}
use Rattle.state.specs.State.{front}

-- ---- an array with a list in front

module _ {A : Type 0} (ys xs : List A) where
  -- what stands past the list is as it was

  pub front-later : (k : ℕ) → length ys ≤ k → drop k (front ys xs) ≡ drop k xs
  front-later k h =
      let split : k ≡ length ys + (k - length ys) = omega arith in
      ap (λ (j : ℕ). drop j (front ys xs)) split
      ∙ drop-append-add ys (drop (length ys) xs) (k - length ys)
      ∙ drop-drop (k - length ys) (length ys) xs
      ∙ ap (λ (j : ℕ). drop j xs) (sym split)

  pub front-unread : (k : ℕ) (d : A) → length ys ≤ k → get_or (front ys xs) k d ≡ get_or xs k d
  front-unread k d h =
      let split : k ≡ length ys + (k - length ys) = omega arith in
      ap (λ (j : ℕ). get_or (front ys xs) j d) split
      ∙ get_or-append-add ys (drop (length ys) xs) (k - length ys) d
      ∙ get_or-drop (length ys) xs (k - length ys) d
      ∙ ap (λ (j : ℕ). get_or xs j d) (sym split)

  -- one entry more, and several

  pub front-set : (n : ℕ) (a : A) → length ys ≡ n → n < length xs → set (front ys xs) n a ≡ front (ys ++ a ∷ []) xs
  front-set n a e h =
      let more : suc (length ys) ≡ length (ys ++ a ∷ []) = sym (length-append ys (a ∷ []) ∙ add-one (length ys)) in
      ap (λ (zs : List A). set (ys ++ zs) n a) (drop-cons xs (length ys) a (omega arith))
      ∙ set_at ys (get_or xs (length ys) a) (drop (suc (length ys)) xs) a n e
      ∙ sym (append_snoc ys a (drop (suc (length ys)) xs))
      ∙ ap (λ (m : ℕ). (ys ++ a ∷ []) ++ drop m xs) more

  pub front_paste : (n m : ℕ) (s : List A) → length ys ≡ n → m ≤ length s
      → paste (front ys xs) n s m ≡ front (ys ++ take m s) xs
  front_paste n m s e h =
      ap₂ (λ (us vs : List A). us ++ take m s ++ vs) (take_at ys (drop (length ys) xs) n e)
      (ap (λ (k : ℕ). drop (k + m) (front ys xs)) (sym e)
      ∙ drop-append-add ys (drop (length ys) xs) m
      ∙ drop-drop m (length ys) xs
      ∙ ap (λ (k : ℕ). drop k xs) more)
    where
      more : length ys + m ≡ length (ys ++ take m s)
      more = sym (length-append ys (take m s) ∙ ap (λ (k : ℕ). length ys + k) (length-take-le m s h))

-- ---- the entries that pass, one by one

module _ {A : Type 0} (p : ℕ → Bool) (g : ℕ → A) (xs : List A) where
  -- the array, once the first i entries are looked at: those that pass stand in front, as g makes them
  abbrev pub compacted : ℕ → List A
  compacted i = front (map g (picked p i)) xs

  pub compacted-keep : (i n : ℕ) → n ≡ rank p i → i < length xs → p i ≡ true
      → set (compacted i) n (g i) ≡ compacted (i + 1)
  compacted-keep i n is h e =
      front-set (map g (picked p i)) xs n (g i) (length-map (picked p i) g ∙ sym is) (omega (arith, rank_le p i))
      ∙ ap (λ (ys : List A). front ys xs)
      (sym (map-append g (picked p i) (i ∷ []))
      ∙ ap (map g) (sym (picked-yes p i e) ∙ ap (picked p) (sym (add-one i))))

  pub compacted-drop : (i : ℕ) → p i ≡ false → compacted i ≡ compacted (i + 1)
  compacted-drop i e =
      ap (λ (ks : List ℕ). front (map g ks) xs) (sym (picked-no p i e) ∙ ap (picked p) (sym (add-one i)))

  -- the entry that is looked at next is as it was
  pub compacted-unread : (i : ℕ) (d : A) → get_or (compacted i) i d ≡ get_or xs i d
  compacted-unread i d =
      front-unread (map g (picked p i)) xs i d (omega (arith, length-map (picked p i) g, rank_le p i))

-- ---- names of 32 bytes, one after another

flat_snoc : {A B : Type 0} (g : A → List B) (ks : List A) (k : A) → flat_map g (ks ++ k ∷ []) ≡ flat_map g ks ++ g k
unfolding flat_map
flat_snoc g [] k = append-nil (g k)
flat_snoc {B = B} g (x ∷ ks) k =
    ap (λ (ys : List B). g x ++ ys) (flat_snoc g ks k) ∙ sym (append_assoc (g x) (flat_map g ks) (g k))

module _ (p : ℕ → Bool) (xs : List ℕ) where
  abbrev pub name_at : ℕ → List ℕ
  name_at i = part (i * 32) 32 xs

  abbrev pub compacted_names : ℕ → List ℕ
  compacted_names i = front (flat_map name_at (picked p i)) xs

  names_more : (i : ℕ) → p i ≡ true → flat_map name_at (picked p (suc i)) ≡ flat_map name_at (picked p i) ++ name_at i
  names_more i e = ap (flat_map name_at) (picked-yes p i e) ∙ flat_snoc name_at (picked p i) i

  name-long : (i : ℕ) → suc i * 32 ≤ length xs → length (name_at i) ≡ 32
  name-long i h = length-take-le 32 (drop (i * 32) xs) (omega (arith, length-drop (i * 32) xs))

  names-long : (i : ℕ) → i * 32 ≤ length xs → length (flat_map name_at (picked p i)) ≡ rank p i * 32
  unfolding picked flat_map
  names-long zero h = refl
  names-long (suc i) h =
      let before = names-long i (omega arith) in
      ⊎_elim
      (λ e.
      ap length (names_more i e)
      ∙ length-append (flat_map name_at (picked p i)) (name_at i)
      ∙ omega (arith, before, name-long i h, rank-yes p i e))
      (λ e.
      ap (λ (ks : List ℕ). length (flat_map name_at ks)) (picked-no p i e) ∙ omega (arith, before, rank-no p i e))
      (decided (p i))

  pub names-keep : (i n : ℕ) → n ≡ rank p i → suc i * 32 ≤ length xs → p i ≡ true
      → paste (compacted_names i) (n * 32) (drop (i * 32) (compacted_names i)) 32 ≡ compacted_names (i + 1)
  names-keep i n is h e =
      let long = names-long i (omega arith) in
      let before : length (flat_map name_at (picked p i)) ≡ n * 32 = omega (arith, long) in
      let unread = front-later (flat_map name_at (picked p i)) xs (i * 32) (omega (arith, long, rank_le p i)) in
      ap (λ (s : List ℕ). paste (compacted_names i) (n * 32) s 32) unread
      ∙ front_paste (flat_map name_at (picked p i)) xs (n * 32) 32 (drop (i * 32) xs) before
      (omega (arith, length-drop (i * 32) xs))
      ∙ ap (λ (ys : List ℕ). front ys xs)
      (sym (names_more i e) ∙ ap (λ (j : ℕ). flat_map name_at (picked p j)) (sym (add-one i)))

  pub names-drop : (i : ℕ) → p i ≡ false → compacted_names i ≡ compacted_names (i + 1)
  names-drop i e =
      ap (λ (ks : List ℕ). front (flat_map name_at ks) xs) (sym (picked-no p i e) ∙ ap (picked p) (sym (add-one i)))
