-- A bundle is its single votes: proof of specs/Bundle.antt, over bytes.
use Prim.Native.Nat.{ℕ, zero, suc, ◌+◌, ◌<◌, ◌≤◌, ◌^◌}
use native.Mathlib.Omega.{arith}
use mathlib.Core.Path.{◌≡◌, refl, sym, ap, ap₂, ◌∙◌, subst}
use mathlib.Core.List.{List, [], ◌∷◌, ◌++◌, map, flat_map}
use mathlib.Core.Bool.{Bool, false, cond, ◌||◌}
use borrow.Author.Tests.{leb-false, ne_eqb}
use lib.ListN.{length, take, drop, get_or, length-append, length-take, length-drop, length-map}
use lib.Seq.{drop-append-add, take_at, take-take, drop-drop}
use lib.Dec.{eqb, leb}
use Rattle.model.specs.Answer.{Answer, refused, answer}
use Rattle.model.specs.Bits.{set_places}
use Rattle.model.specs.Bundle.{vote_of_bundle, votes_of, GoodBundle, OfVote, is-taken, is-refused, BundleIsVotes}
use Rattle.model.specs.Bytes.{be_of, be_bytes, part, field}
use Rattle.model.specs.Change.{Change, Told, bundled, Decision, single, append_all, decided, one_vote, together, whole}
use Rattle.model.specs.Decide.{decide_vote, decide_each, bundle_ids, bit_without_member, decide_bundle, decide_record, decide}
use Rattle.model.specs.Lists.{any, All, none, each}
use Rattle.model.specs.Log.{Record, vote_record, bundle_record, decode, decode_as, kind_of, size_of, record_size}
use Rattle.model.specs.Model.{Model, Member, member_at}
use Rattle.model.specs.Report.{stops?, refused_line, stopped_line, bundle_lines, outcome_line}
use Rattle.model.specs.Run.{Event, reading, decide_event, after, outcomes}
use Rattle.model.specs.WellFormed.{WellFormed}
use Rattle.model.proofs.Answer.{passes-row}
use Rattle.model.proofs.Bytes.{length-be_bytes, be_of_bytes}
use Rattle.model.proofs.Lists.{clash, or_left, or_right, not_so}
use Rattle.model.proofs.Fits.{append-both}
use Rattle.model.proofs.Log.{begins_whole}
use Rattle.model.proofs.Rows.{vote_elim}

-- ---- the bytes of a single vote

-- past the first list
skip : (a b : List ℕ) (n i : ℕ) → length a ≡ n → drop (n + i) (a ++ b) ≡ drop i b
skip a b n i e = subst (λ (k : ℕ). drop (k + i) (a ++ b) ≡ drop i b) e (drop-append-add a b i)

-- a part that lies within the first n bytes
part_in_take : (i k n : ℕ) (x : List ℕ) → i + k ≤ n → part i k (take n x) ≡ part i k x
part_in_take zero k n x h = take-take k n x (omega arith)
part_in_take (suc i) k zero x h = absurd (omega arith)
part_in_take (suc i) k (suc n) [] h = refl
part_in_take (suc i) k (suc n) (y ∷ x) h = part_in_take i k n x (omega arith)

module _ (s : List ℕ) (id : ℕ) where
  abbrev tail : List ℕ
  tail = part 17 72 s

  abbrev all : List ℕ
  all = be_bytes 2 id ++ tail

  -- from the third byte on, the vote's parts are the bundle's
  moved : (i k : ℕ) → i + k ≤ 72 → part (2 + i) k all ≡ part (17 + i) k s
  moved i k h =
      ap (take k) (skip (be_bytes 2 id) tail 2 i (length-be_bytes 2 id))
      ∙ part_in_take i k 72 (drop 17 s) h
      ∙ ap (take k) (drop-drop i 17 s)

  decode-vote : id < 2 ^ 16 → 89 ≤ length s → decode (vote_of_bundle s id) ≡ vote_record id (part 17 32 s) (part 49 32 s) (field 81 4 s) (field 85 4 s)
  unfolding decode_as kind_of size_of record_size field vote_of_bundle
  decode-vote small long =
      (begins_whole 3 all fits).decoded
      ∙ λ i. vote_record (front i) (moved 0 32 (omega arith) i) (moved 32 32 (omega arith) i) (be_of (moved 64 4 (omega arith) i)) (be_of (moved 68 4 (omega arith) i))
    where
      front : be_of (part 1 2 (3 ∷ all)) ≡ id
      front = ap be_of (take_at (be_bytes 2 id) tail 2 (length-be_bytes 2 id)) ∙ be_of_bytes 2 id small

      fits : 75 ≤ length (3 ∷ all)
      fits = omega (arith, length-append (be_bytes 2 id) tail, length-be_bytes 2 id, length-take 72 (drop 17 s), length-drop 17 s)

-- the bundle that stands at the start of s
abbrev pub bundle_at : List ℕ → Record
bundle_at s = bundle_record (part 1 16 s) (part 17 32 s) (part 49 32 s) (field 81 4 s) (field 85 4 s)

by-five : (t : List ℕ) → 88 ≤ length t → decode (5 ∷ t) ≡ bundle_at (5 ∷ t)
unfolding decode_as kind_of size_of record_size
by-five t h = (begins_whole 5 t (omega arith)).decoded

pub decode-bundle : (s : List ℕ) → get_or s 0 0 ≡ 5 → 89 ≤ length s → decode s ≡ bundle_at s
decode-bundle [] e long = absurd (omega arith)
decode-bundle (b ∷ s) e long = subst (λ (k : ℕ). decode (k ∷ s) ≡ bundle_at (k ∷ s)) (sym e) (by-five s (omega arith))

-- ---- the ids of a bundle are held members'

-- so each has what every held id has
pub each_member : (P : ℕ → Type 0) (ms : List Member) → ((p : ℕ) → p < length ms → P (member_at ms p).id)
    → (ps : List ℕ) → any (λ p. leb (length ms) p) ps ≡ false → All P (map (λ p. (member_at ms p).id) ps)
unfolding any
each_member P ms good [] e = none
each_member P ms good (p ∷ ps) e =
    let past = leb (length ms) p in
    let later = any (λ q. leb (length ms) q) ps in
    each
    (good p (leb-false (length ms) p (not_so (λ h. clash (or_left past later h) e))))
    (each_member P ms good ps (not_so (λ h. clash (or_right past later h) e)))

-- ---- what is told of one vote

of-vote : (m : Model) (id : ℕ) (source target : List ℕ) (h k : ℕ) → OfVote (single (decide_vote m id source target h k)).told
unfolding single
of-vote m id source target h k =
    vote_elim m (λ (a : Answer Change). OfVote (single a).told) id source target h k
    (each (is-refused 30 (omega arith) (omega arith)) (each (is-refused 31 (omega arith) (omega arith)) (each (is-refused 32 (omega arith) (omega arith)) (each (is-refused 33 (omega arith) (omega arith)) (each (is-refused 34 (omega arith) (omega arith)) (each (is-refused 35 (omega arith) (omega arith)) (each (is-refused 36 (omega arith) (omega arith)) none)))))))
    (λ _ _. is-taken)

goes_on : (n : ℕ) → 30 ≤ n → (eqb n 4 || eqb n 5) ≡ false
goes_on n low = ap₂ ◌||◌ (ne_eqb n 4 (λ e. omega (arith, e, low))) (ne_eqb n 5 (λ e. omega (arith, e, low)))

-- the line of a refusal that reading goes on behind
pub refused-line : (k n : ℕ) → 30 ≤ n → outcome_line k (refused n) ≡ refused_line n k
unfolding outcome_line stops?
refused-line k n low = ap (λ (b : Bool). cond b (stopped_line n k) (refused_line n k)) (goes_on n low)

-- the lines of a bundle are its votes'
lines_of_votes : (k : ℕ) (os : List (Answer Told)) → All OfVote os → bundle_lines k (map one_vote os) ≡ flat_map (outcome_line k) os
unfolding bundle_lines outcome_line one_vote flat_map
lines_of_votes k [] none = refl
lines_of_votes k (o ∷ os) (each is-taken h) = lines_of_votes k os h
lines_of_votes k (o ∷ os) (each (is-refused n low high) h) = ap₂ ◌++◌ (sym (refused-line k n low)) (lines_of_votes k os h)

-- ---- the votes one after another

module _ (s : List ℕ) (long : 89 ≤ length s) where
  abbrev pub vote : Model → ℕ → Decision
  vote m id = single (decide_vote m id (part 17 32 s) (part 49 32 s) (field 81 4 s) (field 85 4 s))

  abbrev pub votes : Model → List ℕ → List Decision
  votes m ids = decide_each m ids (part 17 32 s) (part 49 32 s) (field 81 4 s) (field 85 4 s)

  abbrev pub events : List ℕ → List Event
  events ids = map (λ id. reading (vote_of_bundle s id)) ids

  abbrev pub Narrows : List ℕ → Type 0
  Narrows ids = All (λ (id : ℕ). id < 2 ^ 16) ids

  pub vote-read : (m : Model) (id : ℕ) → id < 2 ^ 16 → decide_event m (reading (vote_of_bundle s id)) ≡ vote m id
  unfolding decide_event decide decide_record
  vote-read m id small = ap (decide_record m) (decode-vote s id small long)

  votes-model : (m : Model) (ids : List ℕ) → Narrows ids → decided m (together (votes m ids)) ≡ after m (events ids)
  unfolding decide_each together append_all after flat_map
  votes-model m [] none = refl
  votes-model m (id ∷ ids) (each h hs) =
      append-both m (vote m id).changes (together (votes (decided m (vote m id)) ids)).changes
      ∙ votes-model (decided m (vote m id)) ids hs
      ∙ ap (λ (d : Decision). after (decided m d) (events ids)) (sym (vote-read m id h))

  votes-told : (m : Model) (ids : List ℕ) → Narrows ids → map (λ (d : Decision). one_vote d.told) (votes m ids) ≡ map one_vote (outcomes m (events ids))
  unfolding decide_each outcomes
  votes-told m [] none = refl
  votes-told m (id ∷ ids) (each h hs) =
      ap (◌∷◌ (one_vote (vote m id).told)) (votes-told (decided m (vote m id)) ids hs)
      ∙ ap (λ (d : Decision). one_vote d.told ∷ map one_vote (outcomes (decided m d) (events ids))) (sym (vote-read m id h))

  votes-number : (m : Model) (ids : List ℕ) → length (outcomes m (events ids)) ≡ length ids
  unfolding outcomes
  votes-number m [] = refl
  votes-number m (id ∷ ids) = ap suc (votes-number (decided m (decide_event m (reading (vote_of_bundle s id)))) ids)

  votes-of : (m : Model) (ids : List ℕ) → Narrows ids → All OfVote (outcomes m (events ids))
  unfolding outcomes
  votes-of m [] none = none
  votes-of m (id ∷ ids) (each h hs) =
      each
      (subst (λ (d : Decision). OfVote d.told) (sym (vote-read m id h)) (of-vote m id _ _ _ _))
      (votes-of (decided m (decide_event m (reading (vote_of_bundle s id)))) ids hs)

-- ---- the bundle

module _ (m : Model) (good : WellFormed m) (s : List ℕ) (b : GoodBundle m s) where
  pub bundle-read : decide_event m (reading s) ≡ together (votes s b.size m (bundle_ids m (part 1 16 s)))
  unfolding decide_event decide decide_record decide_bundle whole
  bundle-read =
      ap (decide_record m) (decode-bundle s b.kind b.size)
      ∙ ap whole (passes-row 61 _ _ b.row_61 (passes-row 62 _ _ b.row_62 refl))

  pub narrow : Narrows s b.size (bundle_ids m (part 1 16 s))
  unfolding bundle_ids bit_without_member
  narrow = each_member (λ (id : ℕ). id < 2 ^ 16) m.members good.members.id (set_places (part 1 16 s)) (passed b.row_61)
    where
      passed : bit_without_member m (part 1 16 s) ≡ false → any (λ p. leb (length m.members) p) (set_places (part 1 16 s)) ≡ false
      passed e = e

  pub bundle-told : (decide_event m (reading s)).told ≡ answer (bundled (map one_vote (outcomes m (votes_of m s))))
  unfolding votes_of together
  bundle-told = ap (λ (d : Decision). d.told) bundle-read ∙ ap (λ (l : List (Answer (Unit {0}))). answer (bundled l)) (votes-told s b.size m (bundle_ids m (part 1 16 s)) narrow)

  pub bundle_is_votes : BundleIsVotes m s
  unfolding votes_of after outcome_line bundle_ids
  bundle_is_votes =
      record {
        model = ap (decided m) bundle-read ∙ votes-model s b.size m (bundle_ids m (part 1 16 s)) narrow;
        told = bundle-told;
        number = votes-number s b.size m (bundle_ids m (part 1 16 s)) ∙ length-map (set_places (part 1 16 s)) (λ p. (member_at m.members p).id);
        of-votes = votes-of s b.size m (bundle_ids m (part 1 16 s)) narrow;
        lines = λ k. ap (outcome_line k) bundle-told ∙ lines_of_votes k (outcomes m (votes_of m s)) (votes-of s b.size m (bundle_ids m (part 1 16 s)) narrow);
      }
