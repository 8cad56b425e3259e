-- What rows 31 to 34 come to, once each test is known: the code's tests, one by one, are the rows.
use Prim.Native.Nat.{ℕ, ◌+◌, ◌<◌}
use native.Mathlib.Omega.{arith}
use mathlib.Core.Path.{◌≡◌, refl, sym, ap, ap₂, ◌∙◌, subst}
use mathlib.Core.List.{List}
use mathlib.Core.Bool.{Bool, true, false, ◌&&◌, not}
use borrow.Author.Tests.{lt-ltb, le-ltb}
use lib.ListN.{length, drop}
use lib.Seq.{take-length}
use lib.Dec.{eqb, ltb}
use Rattle.model.specs.Answer.{answer, row}
use Rattle.model.specs.Bytes.{field, part}
use Rattle.model.specs.Decide.{heights_agree, link_between, link_of}
use Rattle.model.specs.Lists.{first_index, same_bytes}
use Rattle.model.specs.Model.{Model, Link, link, place_of, id_held, name_held}
use Rattle.model.specs.Tree.{ancestor?}
use Rattle.std.specs.Prelude.{Option, Some, None, Ok, Err, MatchOption}
use Rattle.std.specs.Option.{is_some, ok_or}
use Rattle.model.specs.declared.Height.{Height}
use Rattle.model.specs.declared.Refusal.{Refusal}
use Rattle.tables.specs.Places.{height_at}
use Rattle.names.specs.Rows.{rows}
use Rattle.state.specs.Tables.{MembersHeld, NamesHeld, HeightsHeld}
use Rattle.state.proofs.Fields.{part_at, field_at}
use Rattle.state.proofs.Held.{id-none, id-some}

-- the place found in the table is the model's, and so is whether the name is held; the name stands in the log at `from`
module _ {m : Model} {names : List ℕ} {n : ℕ} (from : ℕ) (log : List ℕ) {r : ℕ} where
  pub found_at : NamesHeld m names n → r ≡ first_index (λ x. same_bytes x (part from 32 log)) (rows n names)
      → place_of m.checkpoints (part from 32 log) ≡ r
  found_at h e = h.place (part from 32 log) ∙ sym e

  pub held_at : NamesHeld m names n → r ≡ first_index (λ x. same_bytes x (part from 32 log)) (rows n names)
      → name_held m (part from 32 log) ≡ ltb r n
  unfolding name_held
  held_at h e = ap₂ ltb (found_at h e) h.count

-- what the search by name gave, in the log at `from`
module _ {m : Model} {names : List ℕ} {n : ℕ} (from : ℕ) (log : List ℕ) (held : NamesHeld m names n) where
  abbrev first : ℕ
  first = first_index (λ x. same_bytes x (part from 32 log)) (rows n names)

  pub held-none : first ≡ n → name_held m (part from 32 log) ≡ false
  held-none e = held_at from log held refl ∙ le-ltb _ n (omega (arith, e))

  pub held-some : {r : ℕ} → (r ≡ first) × (r < n) → name_held m (part from 32 log) ≡ true
  held-some {r} so = held_at from log held so.0 ∙ lt-ltb r n so.1

  pub name-found : (r : Option ℕ) → MatchOption r (first ≡ n) (λ i. (i ≡ first) × (i < n)) → name_held m (part from 32 log) ≡ is_some r
  name-found None e = held-none e
  name-found (Some i) so = held-some so

-- whether a member is held, by what the search among all the ids gave
module _ {m : Model} {ids : List ℕ} (id : ℕ) (held : MembersHeld m ids (length ids)) where
  abbrev at_id : List ℕ → ℕ
  at_id l = first_index (λ x. eqb x id) l

  pub id-none-among : at_id ids ≡ length ids → id_held m id ≡ false
  id-none-among e =
      id-none id held (omega arith) (subst (λ (l : List ℕ). at_id l ≡ length l) (sym (take-length ids)) e)

  pub id-some-among : {i : ℕ} → (i ≡ at_id ids) × (i < length ids) → id_held m id ≡ true
  id-some-among {i} so =
      id-some id held (omega arith) (subst (λ (l : List ℕ). (i ≡ at_id l) × (i < length l)) (sym (take-length ids)) so)

  pub id-found-among : (r : Option ℕ) → MatchOption r (at_id ids ≡ length ids) (λ i. (i ≡ at_id ids) × (i < length ids))
      → id_held m id ≡ is_some r
  id-found-among None e = id-none-among e
  id-found-among (Some i) so = id-some-among so

-- what was found, or the refusal where nothing was
pub found-none : (P : Type 0) (Q : ℕ → Type 0) (e : Refusal) {x : Refusal} (r : Option ℕ) → ok_or r e ≡ Err x → MatchOption r P Q → P × (x ≡ e)
found-none P Q e None was h = (h, cc)
found-none P Q e (Some i) was h = let z : ◌≡◌ {A = ℕ} 0 1 = cc in absurd (omega arith)

pub found-some : (P : Type 0) (Q : ℕ → Type 0) (e : Refusal) {i : ℕ} (r : Option ℕ) → ok_or r e ≡ Ok i → MatchOption r P Q → Q i
found-some P Q e None was h = let z : ◌≡◌ {A = ℕ} 0 1 = cc in absurd (omega arith)
found-some P Q e {i} (Some j) was h = let same : j ≡ i = cc in subst Q same h

pub none-is : (e : Refusal) {x : Refusal} (r : Option ℕ) → ok_or r e ≡ Err x → (is_some r ≡ false) × (x ≡ e)
none-is e None was = (refl, cc)
none-is e (Some i) was = let z : ◌≡◌ {A = ℕ} 0 1 = cc in absurd (omega arith)

pub some-is : (e : Refusal) {i : ℕ} (r : Option ℕ) → ok_or r e ≡ Ok i → is_some r ≡ true
some-is e None was = let z : ◌≡◌ {A = ℕ} 0 1 = cc in absurd (omega arith)
some-is e (Some j) was = refl

-- the link that the code found is the one named
pub link-rows : (m : Model) (source target : List ℕ) (h k : ℕ) {b31 b32 : Bool} {s t : ℕ}
    → name_held m source ≡ b31
    → name_held m target ≡ b32
    → place_of m.checkpoints source ≡ s
    → place_of m.checkpoints target ≡ t
    → link_of m source target h k ≡ row 31 (not b31) (row 32 (not b32) (link_between m (link s t) h k))
unfolding link_of
link-rows m source target h k {b31} {b32} e31 e32 es et =
    rw (e31, e32)
    (ap (λ (l : Link). row 31 (not b31) (row 32 (not b32) (link_between m l h k)))
    (λ i. record { source = es i; target = et i }))

pub between-rows : (m : Model) (l : Link) (h k : ℕ) {b33 b34 : Bool}
    → heights_agree m l h k ≡ b33
    → ancestor? m.checkpoints l.source l.target ≡ b34
    → link_between m l h k ≡ row 33 (not b33) (row 34 (not b34) (answer l))
unfolding link_between
between-rows m l h k e33 e34 = rw (e33, e34)

-- a link that stands in a record, from the offset i on
pub link-read : (m : Model) (at i : ℕ) (log : List ℕ)
    → link_of m (part (at + i) 32 log) (part (at + i + 32) 32 log) (field (at + i + 64) 4 log)
    (field (at + i + 68) 4 log)
    ≡ let s = drop at log in link_of m (part i 32 s) (part (i + 32) 32 s) (field (i + 64) 4 s) (field (i + 68) 4 s)
link-read m at i log =
    let there : (k : ℕ) → at + (i + k) ≡ at + i + k = λ k. omega arith in
    let bytes : (k : ℕ) → part (at + i + k) 32 log ≡ part (i + k) 32 (drop at log) =
    λ k. ap (λ (p : ℕ). part p 32 log) (sym (there k)) ∙ sym (part_at at (i + k) 32 log) in
    let number : (k : ℕ) → field (at + i + k) 4 log ≡ field (i + k) 4 (drop at log) =
    λ k. ap (λ (p : ℕ). field p 4 log) (sym (there k)) ∙ sym (field_at at (i + k) 4 log) in
    λ j. link_of m (sym (part_at at i 32 log) j) (bytes 32 j) (number 64 j) (number 68 j)

-- the heights given, against those of the table
pub heights_are : {m : Model} {heights : List Height} {n : ℕ} → HeightsHeld m heights n → (l : Link) (h k : ℕ)
    → l.source < n
    → l.target < n
    → heights_agree m l h k ≡ (eqb h (height_at heights l.source) && eqb k (height_at heights l.target))
unfolding heights_agree
heights_are held l h k s t =
    ap₂ (λ (x y : ℕ). eqb h x && eqb k y) (held.height l.source s) (held.height l.target t)
