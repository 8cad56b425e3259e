-- The entries of what is told of a record: at least one, at most 128, and their rows are below 128.
use Prim.Native.Nat.{ℕ, suc, ◌<◌, ◌≤◌}
use native.Mathlib.Omega.{arith}
use mathlib.Core.Path.{◌≡◌, refl, ap, ◌∙◌}
use mathlib.Core.List.{List, [], ◌∷◌, map}
use mathlib.Core.Bool.{false, ◌||◌}
use borrow.Author.Tests.{eqb-false, leb-false}
use lib.Dec.{leb}
use lib.ListN.{length, length-map}
use Rattle.model.specs.Answer.{Answer, refused, answer, row_of}
use Rattle.model.specs.Bits.{set_places}
use Rattle.model.specs.Change.{Change, Told, nothing_left, taken, bundled, Decision, single, one_vote, decided, together, whole}
use Rattle.model.specs.Decide.{decide_vote, decide_each, bundle_ids, no_bit_set, decide_record, decide}
use Rattle.model.specs.Lists.{any, All, none, each}
use Rattle.model.specs.Log.{Record}
use Rattle.model.specs.Model.{Model, member_at}
use Rattle.model.proofs.Lists.{or_left, or_right, clash, not_so, all_map}
use Rattle.model.proofs.Log.{decode_elim}
use Rattle.model.proofs.Rows.{member_rows, checkpoint_rows, vote_rows, bundle_rows, quorum_rows, member_elim}
use Rattle.model.proofs.Rows.{checkpoint_elim}
use Rattle.model.proofs.Rows.{vote_elim, bundle_elim, quorum_elim}
use Rattle.bits.proofs.SetPlaces.{few-set}
use Rattle.entries.specs.Entries.{rows_of}

-- a refusal has a row's number, which is not 0
abbrev pub Named : {A : Type 0} → Answer A → Type 0
Named (refused n) = 0 < n
Named (answer a) = Unit {0}

abbrev pub AllNamed : Answer Told → Type 0
AllNamed (refused n) = 0 < n
AllNamed (answer nothing_left) = Unit {0}
AllNamed (answer taken) = Unit {0}
AllNamed (answer (bundled os)) = All Named os

pub record Rowed (t : Answer Told) : Type 0 where
  pub some : 0 < length (rows_of t)
  pub few : length (rows_of t) ≤ 128
  pub small : All (λ n. n < 128) (rows_of t)
  pub named : AllNamed t

abbrev Single : Answer Change → Type 0
Single a = Rowed (single a).told

by_row : (n : ℕ) → (0 < n) × (n < 128) → Single (refused n)
unfolding single rows_of
by_row n h = record { some = omega arith; few = omega arith; small = each h.1 none; named = h.0 }

is-taken : (c : Change) → Single (answer c)
unfolding single rows_of
is-taken c = record { some = omega arith; few = omega arith; small = each {x = 0} (omega arith) none; named = tt }

rows-within : (ns : List ℕ) → any (λ n. leb n 0 || leb 128 n) ns ≡ false → All (λ n. (0 < n) × (n < 128)) ns
unfolding any
rows-within [] e = none
rows-within (n ∷ ns) e =
    let out = leb n 0 || leb 128 n in
    let later = any (λ k. leb k 0 || leb 128 k) ns in
    let inside : out ≡ false = not_so (λ h. clash (or_left out later h) e) in
    each
    (leb-false n 0 (not_so (λ h. clash (or_left (leb n 0) (leb 128 n) h) inside)), leb-false 128 n (not_so (λ h. clash (or_right (leb n 0) (leb 128 n) h) inside)))
    (rows-within ns (not_so (λ h. clash (or_right out later h) e)))

-- ---- a bundle's votes

abbrev told_each : List Decision → List (Answer (Unit {0}))
told_each ds = map (λ (d : Decision). one_vote d.told) ds

-- what is told of one of them
abbrev InRows : Answer (Unit {0}) → Type 0
InRows o = (row_of o < 128) × Named o

one-rowed : (m : Model) (id : ℕ) (source target : List ℕ) (h k : ℕ) → InRows (one_vote (single (decide_vote m id source target h k)).told)
unfolding single one_vote row_of any
one-rowed m id source target h k =
    vote_elim m (λ (a : Answer Change). InRows (one_vote (single a).told)) id source target h k
    (all_map (λ n h. (h.1, h.0)) (rows-within vote_rows refl))
    (λ _ _. (omega arith, tt))

each-rowed : (m : Model) (ids source target : List ℕ) (h k : ℕ) → All InRows (told_each (decide_each m ids source target h k))
unfolding decide_each
each-rowed m [] source target h k = none
each-rowed m (id ∷ ids) source target h k =
    each (one-rowed m id source target h k) (each-rowed (decided m (single (decide_vote m id source target h k))) ids source target h k)

all-rows : (os : List (Answer (Unit {0}))) → All InRows os → All (λ n. n < 128) (map row_of os)
all-rows [] none = none
all-rows (o ∷ os) (each h hs) = each h.0 (all-rows os hs)

each_number : (m : Model) (ids source target : List ℕ) (h k : ℕ) → length (told_each (decide_each m ids source target h k)) ≡ length ids
unfolding decide_each
each_number m [] source target h k = refl
each_number m (id ∷ ids) source target h k = ap suc (each_number (decided m (single (decide_vote m id source target h k))) ids source target h k)

module _ (m : Model) where
  abbrev Whole : Answer (List Decision) → Type 0
  Whole a = Rowed (whole a).told

  refused-whole : (n : ℕ) → (0 < n) × (n < 128) → Whole (refused n)
  unfolding whole
  refused-whole n h = by_row n h

  bundle-rowed : (bits source target : List ℕ) (h k : ℕ) → no_bit_set bits ≡ false → Whole (answer (decide_each m (bundle_ids m bits) source target h k))
  unfolding whole together rows_of no_bit_set bundle_ids set_places
  bundle-rowed bits source target h k some =
      let ids = bundle_ids m bits in
      let number : length (map row_of (told_each (decide_each m ids source target h k))) ≡ length (set_places bits) =
      length-map (told_each (decide_each m ids source target h k)) row_of
      ∙ each_number m ids source target h k ∙ length-map (set_places bits) (λ p. (member_at m.members p).id) in
      record {
        some = omega (arith, number, eqb-false (length (set_places bits)) 0 some);
        few = omega (arith, number, few-set bits 128);
        small = all-rows _ (each-rowed m ids source target h k);
        named = all_map (λ o h. h.1) (each-rowed m ids source target h k);
      }

  pub told-rowed : (s : List ℕ) → Rowed (decide m s).told
  unfolding decide decide_record rows_of any
  told-rowed s =
      decode_elim (λ (r : Record) (n : ℕ). Rowed (decide_record m r).told) s
      (record {
        nothing = record { some = omega arith; few = omega arith; small = each {x = 0} (omega arith) none; named = tt };
        unknown = by_row 4 (omega arith, omega arith);
        cut = by_row 5 (omega arith, omega arith);
        member = λ _. member_elim m Single _ (all_map by_row (rows-within member_rows refl)) (λ _. is-taken _);
        checkpoint = λ _. checkpoint_elim m Single _ _ (all_map by_row (rows-within checkpoint_rows refl)) (λ _. is-taken _);
        vote = λ _. vote_elim m Single _ _ _ _ _ (all_map by_row (rows-within vote_rows refl)) (λ _ _. is-taken _);
        bundle = λ _. bundle_elim m Whole _ _ _ _ _ (all_map refused-whole (rows-within bundle_rows refl)) (λ p. bundle-rowed _ _ _ _ _ p.some);
        quorum = λ _. quorum_elim m Single _ (all_map by_row (rows-within quorum_rows refl)) (λ _. is-taken _);
      })
