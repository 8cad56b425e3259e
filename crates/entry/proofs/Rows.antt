-- What rows 50 to 56 come to, once each test is known: the code's tests, one by one, are the rows.
use Prim.Native.Nat.{ℕ, suc, ◌+◌, ◌*◌, ◌<◌, ◌≤◌}
use native.Mathlib.Omega.{arith}
use mathlib.Core.Path.{◌≡◌, refl, sym, ap, ap₂, ◌∙◌}
use mathlib.Core.List.{List, [], ◌∷◌}
use mathlib.Core.Bool.{Bool, true, false, ◌&&◌, ◌||◌, not}
use borrow.Author.Tests.{eqb-true, eq-eqb, ne_eqb, ltb-true, ltb-false, lt-ltb, le-ltb}
use lib.ListN.{length, get_or, take, drop}
use lib.Seq.{take-length}
use lib.Dec.{eqb, ltb}
use Rattle.std.specs.Borrow.{Bor}
use Rattle.std.specs.Option.{option_eq, option_map, unwrap_or, is_some}
use Rattle.std.specs.Prelude.{Option, Some, None}
use Rattle.model.specs.Answer.{row}
use Rattle.model.specs.Bytes.{field, part, ascii}
use Rattle.model.specs.Checker.{entries, own_vote?, check_from, check}
use Rattle.model.specs.Evidence.{Charge, bond_of}
use Rattle.model.specs.Lists.{first_index, same_bytes}
use Rattle.model.specs.Model.{Model, vote_at, member_index, id_held}
use Rattle.model.specs.Slashing.{breaks?}
use Rattle.model.proofs.Lists.{or_left, or_right, and_left, and_right}
use Rattle.state.specs.Tables.{MembersHeld}
use Rattle.state.proofs.Held.{held-id}
use Rattle.entry.specs.Entry.{VotersHeld, entry_at, PairFound}

-- ---- the header

-- the condition of row 50
abbrev wrong_length? : List ℕ → Bool
wrong_length? l = ltb (length l) 7 || not (eqb (length l) (7 + 6 * field 5 2 l))

pub header-rows : (m : Model) (l : List ℕ) {n : ℕ} {b50 b51 b52 : Bool}
    → n ≡ field 5 2 l
    → wrong_length? l ≡ b50
    → same_bytes (take 3 l) (ascii "FFP") ≡ b51
    → eqb (field 3 2 l) 1 ≡ b52
    → check m l ≡ row 50 b50 (row 51 (not b51) (row 52 (not b52) (check_from m 0 0 (entries n (drop 7 l)))))
unfolding check
header-rows m l e e50 e51 e52 = rw (e50, e51, e52, e)

module _ (l : List ℕ) where
  pub too_short : length l < 7 → wrong_length? l ≡ true
  too_short h = or_left (ltb (length l) 7) _ (lt-ltb (length l) 7 h)

  module _ {n : ℕ} (e : n ≡ field 5 2 l) where
    pub not_exact : (length l ≡ 7 + 6 * n → ⊥) → wrong_length? l ≡ true
    not_exact h = or_right (ltb (length l) 7) _ (ap not (ne_eqb (length l) _ (λ q. h (omega (arith, q)))))

    pub exact : length l ≡ 7 + 6 * n → wrong_length? l ≡ false
    exact q = ap₂ ◌||◌ (le-ltb (length l) 7 (omega arith)) (ap not (eq-eqb (length l) _ (omega (arith, q))))

  pub mark-test : {r : Bool} → r ≡ same_bytes (part 0 3 l) (70 ∷ 70 ∷ 80 ∷ []) → same_bytes (take 3 l) (ascii "FFP") ≡ r
  unfolding ascii
  mark-test e = sym e

  pub version-test : {r : ℕ} → r ≡ field 3 2 l → eqb (field 3 2 l) 1 ≡ eqb r 1
  version-test e = ap (λ (x : ℕ). eqb x 1) (sym e)

-- ---- a member's own vote

module _ {m : Model} {voters : List ℕ} {n : ℕ} (held : VotersHeld m voters n) (id : ℕ) where
  pub own-past : (k : ℕ) → n ≤ k → own_vote? m id k ≡ false
  unfolding own_vote?
  own-past k h = ap (λ (b : Bool). b && eqb (vote_at m.votes k).voter id) (le-ltb k _ (omega (arith, held.count)))

  pub own-here : (k : ℕ) → k < n → own_vote? m id k ≡ eqb (get_or voters k 0) id
  unfolding own_vote?
  own-here k h = ap₂ (λ (b : Bool) (v : ℕ). b && eqb v id) (lt-ltb k _ (omega (arith, held.count))) (held.voter k h)

-- ---- a member by the id, among exactly those held

module _ {m : Model} {ids : List ℕ} (held : MembersHeld m ids (length ids)) (id : ℕ) where
  abbrev first : List ℕ → ℕ
  first xs = first_index (λ x. eqb x id) xs

  whole : first (take (length ids) ids) ≡ first ids
  whole = ap first (take-length ids)

  pub id-lost : first ids ≡ length ids → id_held m id ≡ false
  id-lost e = held-id id held refl ∙ le-ltb _ (length ids) (omega (arith, whole, e))

  module _ {i : ℕ} (so : (i ≡ first ids) × (i < length ids)) where
    pub id-found : id_held m id ≡ true
    id-found = held-id id held (so.0 ∙ sym whole) ∙ lt-ltb _ _ so.1

    pub id-index : i ≡ member_index m.members id
    id-index = so.0 ∙ sym whole ∙ sym (held.index id)

-- what stands in the slice of exactly these at k, compared with the id
module _ {m : Model} {voters : List ℕ} (held : VotersHeld m voters (length voters)) where
  pub own-read : (k : ℕ) (id : Bor ℕ) (o : Option (Bor ℕ)) → is_some o ≡ ltb k (length voters)
      → unwrap_or (option_map (λ (x : Bor ℕ). x.now) o) 0 ≡ get_or voters k 0
      → option_eq (λ x y. eqb x.now y.now) o (Some id) ≡ own_vote? m id.now k
  own-read k id None some read = sym (own-past held id.now k (ltb-false k (length voters) (sym some)))
  own-read k id (Some x) some read =
      ap (λ (v : ℕ). eqb v id.now) read ∙ sym (own-here held id.now k (ltb-true k (length voters) (sym some)))

record Own (m : Model) (id k : ℕ) : Type 0 where
  inside : k < length m.votes
  voter : (vote_at m.votes k).voter ≡ id

own_true : (m : Model) (id k : ℕ) → own_vote? m id k ≡ true → Own m id k
unfolding own_vote?
own_true m id k e =
    record {
      inside = ltb-true _ _ (and_left (ltb k (length m.votes)) _ e);
      voter = eqb-true _ _ (and_right (ltb k (length m.votes)) _ e);
    }

-- ---- an entry; id, a and b are what the code read

module _ (m : Model) (floor at : ℕ) (l : List ℕ) {id a b : ℕ} (eid : id ≡ field at 2 l) (ea : a ≡ field (at + 2) 2 l) (eb : b ≡ field (at + 4) 2 l) where
  pub entry-rows : {b53 b54 b55 b56 : Bool}
      → ltb id floor ≡ b53
      → id_held m id ≡ b54
      → (own_vote? m id a && own_vote? m id b) ≡ b55
      → ltb a b ≡ b56
      → (sum : ℕ) (cs : List Charge)
      → check_from m floor sum (entry_at at l ∷ cs)
      ≡ row 53 b53 (row 54 (not b54) (row 55 (not b55) (row 56 (not b56)
      (row 57 (not (breaks? m (vote_at m.votes a) (vote_at m.votes b)))
      (check_from m (suc id) (sum + bond_of m.members id) cs)))))
  unfolding check_from
  entry-rows e53 e54 e55 e56 sum cs = rw (← eid, ← ea, ← eb, e53, e54, e55, e56)

  pub pair_found : {k : ℕ}
      → k ≡ member_index m.members id
      → ltb id floor ≡ false
      → id_held m id ≡ true
      → (own_vote? m id a && own_vote? m id b) ≡ true
      → ltb a b ≡ true
      → PairFound m floor (entry_at at l) k id a b
  unfolding row id_held
  pair_found {k} index e53 e54 e55 e56 =
      let first = own_true m id a (and_left (own_vote? m id a) (own_vote? m id b) e55) in
      let last = own_true m id b (and_right (own_vote? m id a) (own_vote? m id b) e55) in
      record {
        rising = ltb-false id floor e53;
        index = index;
        held = omega (arith, index, ltb-true (member_index m.members id) (length m.members) e54);
        order = ltb-true a b e56;
        last = last.inside;
        first-voter = first.voter;
        last-voter = last.voter;
        rest = entry-rows e53 e54 e55 e56;
      }
