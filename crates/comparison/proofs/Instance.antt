-- A run of bytes that meets every hypothesis of the comparison: two moves of the root that drop something, with bundles
-- of votes before, between and after them, and a record that is refused. Tests for the hypotheses compute that.
use Prim.Native.Nat.{ℕ}
use Prim.Native.String.{String}
use native.Mathlib.Omega.{arith}
use mathlib.Core.Path.{◌≡◌, refl, sym, ap, subst}
use mathlib.Core.Logic.{◌⊎◌, inl, inr}
use mathlib.Core.List.{List, [], ◌∷◌, ◌++◌, flat_map}
use mathlib.Core.Bool.{Bool, true, false, ◌&&◌, ◌||◌, not}
use borrow.Author.Tests.{leb-false, not-true}
use lib.ListN.{length, replicate}
use lib.Dec.{leb}
use Rattle.model.specs.Answer.{refused, answer, row, and_then, row_of}
use Rattle.model.specs.Bits.{bit_set, set_places}
use Rattle.model.specs.Bytes.{AreBytes, be_of, be_bytes, field, ascii}
use Rattle.model.specs.Change.{taken, bundled, append, append_all, single, one_vote, together, whole, decided}
use Rattle.model.specs.Decide.{members_fixed, bond_out_of_range, decide_member, decide_checkpoint, heights_agree, link_between}
use Rattle.model.specs.Decide.{link_of, cast, vote_of, room, decide_vote, decide_each, bundle_ids, bit_without_member}
use Rattle.model.specs.Decide.{no_bit_set, decide_bundle, decide_record, decide, bars_root, uses_dropped}
use Rattle.model.specs.Decide.{risks_evidence, dropped_higher, drops_higher, decide_move}
use Rattle.model.specs.Evidence.{conduct_from, conduct, insert_by_id, by_id, charge_of, charges}
use Rattle.model.specs.Finality.{justified_marks, justified?, sealed?, final?, conflicting?}
use Rattle.model.specs.Lists.{any, first_index, any_below, picked, concat_below, same_bytes, All, none, each}
use Rattle.model.specs.Log.{Record, no_record, unknown_kind, cut_record, member_record, checkpoint_record, vote_record}
use Rattle.model.specs.Log.{bundle_record, quorum_record, kind_of, size_of, decode_as, record_size, decode}
use Rattle.model.specs.Model.{Model, Checkpoint, start, member_at, checkpoint_at, vote_at, member_index, place_of, id_held}
use Rattle.model.specs.Model.{name_held, vote_held, vote_for}
use Rattle.model.specs.Move.{kept?, kept_vote?, moved}
use Rattle.model.specs.Rule.{quota_of}
use Rattle.model.specs.Run.{Event, reading, moving, OfBytes, decide_event, after, outcomes}
use Rattle.model.specs.Slashing.{breaks?}
use Rattle.model.specs.Support.{sum, supports, quorum, carries, link?}
use Rattle.model.specs.Tree.{child?, reached?, ancestor?, conflict?}
use Rattle.model.proofs.Cases.{name, member, checkpoint, vote}
use Rattle.model.proofs.Lists.{both, and_left, and_right, or_false_left, or_false_right, clash, none_any}
use Rattle.comparison.specs.Compare.{readings_only, Name, Names, DroppedBy, NamesNone, rows_told, NoLimit}
use Rattle.comparison.specs.Compare.{ComparedRuns}
use Rattle.comparison.proofs.Compare.{comparison}

-- ---- what is read consists of bytes

unfoldable bytes? : List Event → Bool
bytes? [] = true
bytes? (reading s ∷ es) = not (any (λ x. leb 256 x) s) && bytes? es
bytes? (moving r ∷ es) = bytes? es

bytes_true : (es : List Event) → bytes? es ≡ true → All OfBytes es
unfolding bytes?
bytes_true [] e = none
bytes_true (reading s ∷ es) e =
    let high = any (λ x. leb 256 x) s in
    let none-high = not-true high (and_left (not high) (bytes? es) e) in
    let bytes : AreBytes s = λ i h. leb-false 256 _ (none_any (λ x. leb 256 x) 0 s none-high i h) in
    each bytes (bytes_true es (and_right (not high) (bytes? es) e))
bytes_true (moving r ∷ es) e = each tt (bytes_true es e)

-- ---- no record names what was dropped

-- neither of two names is dropped
abbrev neither : (Name → Bool) → Name → Name → Bool
neither gone x y = not (gone x) && not (gone y)

unfoldable spares? : (Name → Bool) → Record → Bool
spares? gone no_record = true
spares? gone unknown_kind = true
spares? gone cut_record = true
spares? gone (member_record id bond) = true
spares? gone (checkpoint_record name parent) = neither gone name parent
spares? gone (vote_record id source target h k) = neither gone source target
spares? gone (bundle_record bits source target h k) = neither gone source target
spares? gone (quorum_record p q) = true

-- dropped before, or by this move
abbrev gone_by : Model → ℕ → (Name → Bool) → Name → Bool
gone_by m r gone n = gone n || (name_held m n && not (name_held (decided m (decide_event m (moving r))) n))

unfoldable names? : Model → (Name → Bool) → List Event → Bool
names? m gone [] = true
names? m gone (reading s ∷ es) = spares? gone (decode s) && names? (decided m (decide_event m (reading s))) gone es
names? m gone (moving r ∷ es) = names? (decided m (decide_event m (moving r))) (gone_by m r gone) es

module _ (gone : Name → Bool) (dropped : Name → Type 0) (known : (n : Name) → gone n ≡ false → dropped n → ⊥) where
  neither_true : (x y n : Name) → neither gone x y ≡ true → (n ≡ x) ⊎ (n ≡ y) → dropped n → ⊥
  neither_true x y n e (inl q) d =
      known x (not-true (gone x) (and_left (not (gone x)) (not (gone y)) e)) (subst dropped q d)
  neither_true x y n e (inr q) d =
      known y (not-true (gone y) (and_right (not (gone x)) (not (gone y)) e)) (subst dropped q d)

  spares_true : (r : Record) → spares? gone r ≡ true → (n : Name) → Names r n → dropped n → ⊥
  unfolding spares? Names
  spares_true no_record e n h d = h
  spares_true unknown_kind e n h d = h
  spares_true cut_record e n h d = h
  spares_true (member_record id bond) e n h d = h
  spares_true (checkpoint_record name parent) e n h d = neither_true name parent n e h d
  spares_true (vote_record id source target x y) e n h d = neither_true source target n e h d
  spares_true (bundle_record bits source target x y) e n h d = neither_true source target n e h d
  spares_true (quorum_record p q) e n h d = h

  gone_true : (m : Model) (r : ℕ) (n : Name) → gone_by m r gone n ≡ false → DroppedBy m r dropped n → ⊥
  gone_true m r n e (inl d) = known n (or_false_left (gone n) _ e) d
  gone_true m r n e (inr (h, f)) = clash (both h (ap not f)) (or_false_right (gone n) _ e)

names_true : (m : Model) (gone : Name → Bool) (dropped : Name → Type 0)
    → ((n : Name) → gone n ≡ false → dropped n → ⊥) → (es : List Event) → names? m gone es ≡ true
    → NamesNone m dropped es
unfolding names? NamesNone
names_true m gone dropped known [] e = tt
names_true m gone dropped known (reading s ∷ es) e =
    let next = decided m (decide_event m (reading s)) in
    let later = names? next gone es in (
      spares_true gone dropped known (decode s) (and_left (spares? gone (decode s)) later e),
      names_true next gone dropped known es (and_right (spares? gone (decode s)) later e),
    )
names_true m gone dropped known (moving r ∷ es) e =
    names_true (decided m (decide_event m (moving r))) (gone_by m r gone) (DroppedBy m r dropped)
    (gone_true gone dropped known m r) es e

-- ---- the run

-- the members whose bits are set in one byte vote for a link
abbrev bundle : ℕ → String → ℕ → String → ℕ → Event
bundle bits source source_height target target_height =
    reading
    (5 ∷ bits ∷ replicate 15 0 ++ name source ++ name target ++ be_bytes 4 source_height ++ be_bytes 4 target_height)

-- A and B under the root R, C under A, D under C; members 1 and 2 make A final, and member 3 votes for B
abbrev early : List Event
early =
    reading (member 1 1) ∷ reading (member 2 1) ∷ reading (member 3 1)
    ∷ reading (checkpoint "A" "R") ∷ reading (checkpoint "B" "R")
    ∷ reading (checkpoint "C" "A") ∷ reading (checkpoint "D" "C")
    ∷ bundle 3 "R" 0 "A" 1
    ∷ bundle 3 "A" 1 "C" 2
    ∷ reading (vote 3 "R" 0 "B" 1)
    ∷ []

-- the root moves to A; E under D, and C is made final; the root moves to C; all vote for E; a member is too late
abbrev late : List Event
late =
    moving 1
    ∷ reading (checkpoint "E" "D")
    ∷ bundle 3 "C" 2 "D" 3
    ∷ moving 1
    ∷ bundle 7 "D" 3 "E" 4
    ∷ reading (member 4 1)
    ∷ []

abbrev run : List Event
run = early ++ late

abbrev begin : Model
begin = start (name "R")

abbrev node : String → ℕ → ℕ → Checkpoint
node letter parent height = record { name = name letter; parent = parent; height = height }

-- what is computed of it
record Computed : Type 0 where
  bytes : bytes? run ≡ true
  names : names? begin (λ n. false) run ≡ true
  whole-told :
      outcomes begin (readings_only run)
      ≡ answer taken ∷ answer taken ∷ answer taken ∷ answer taken ∷ answer taken ∷ answer taken ∷ answer taken
      ∷ answer (bundled (answer tt ∷ answer tt ∷ []))
      ∷ answer (bundled (answer tt ∷ answer tt ∷ []))
      ∷ answer taken
      ∷ answer taken
      ∷ answer (bundled (answer tt ∷ answer tt ∷ []))
      ∷ answer (bundled (answer tt ∷ answer tt ∷ answer tt ∷ []))
      ∷ refused 10
      ∷ []
  -- no move is refused: C, D and E are left, and the votes among them
  checkpoints : (after begin run).checkpoints ≡ node "C" 0 2 ∷ node "D" 0 3 ∷ node "E" 1 4 ∷ []
  votes : (after begin run).votes ≡ vote_for 1 0 1 ∷ vote_for 2 0 1 ∷ vote_for 1 1 2 ∷ vote_for 2 1 2 ∷ vote_for 3 1 2 ∷ []
  whole-checkpoints : length (after begin (readings_only run)).checkpoints ≡ 6
  whole-votes : length (after begin (readings_only run)).votes ≡ 10

computed : Computed
unfolding
    bytes? spares? names? readings_only row and_then any first_index any_below picked concat_below same_bytes bit_set set_places
    be_of be_bytes field ascii append append_all single one_vote together whole members_fixed bond_out_of_range decide_member
    decide_checkpoint heights_agree link_between link_of cast vote_of room decide_vote decide_each bundle_ids bit_without_member
    no_bit_set decide_bundle decide_record decide bars_root uses_dropped risks_evidence dropped_higher
    drops_higher decide_move conduct_from conduct insert_by_id by_id
    charge_of charges justified_marks justified? sealed? final? conflicting? kind_of size_of decode_as record_size decode
    start member_at checkpoint_at vote_at member_index place_of id_held name_held vote_held kept? kept_vote? moved quota_of
    decide_event after outcomes breaks? sum supports quorum carries link? child? reached? ancestor? conflict? flat_map
computed =
    record {
      bytes = refl;
      names = refl;
      whole-told = refl;
      checkpoints = refl;
      votes = refl;
      whole-checkpoints = refl;
      whole-votes = refl;
    }

-- none of what is told is a limit
no_limits : All NoLimit (outcomes begin (readings_only run))
unfolding rows_told row_of
no_limits =
    let free : (◌≡◌ {A = ℕ} 0 22 → ⊥) × (◌≡◌ {A = ℕ} 0 36 → ⊥) = (λ e. omega arith, λ e. omega arith) in
    let late-member : (◌≡◌ {A = ℕ} 10 22 → ⊥) × (◌≡◌ {A = ℕ} 10 36 → ⊥) = (λ e. omega arith, λ e. omega arith) in
    let two : NoLimit (answer (bundled (answer tt ∷ answer tt ∷ []))) = each free (each free none) in
    subst (All NoLimit) (sym computed.whole-told)
    (each none (each none (each none (each none (each none (each none (each none
    (each two (each two (each none (each none (each two
    (each (each free (each free (each free none)))
    (each (each late-member none) none))))))))))))))

-- so the comparison speaks of this run
pub two-moves : ComparedRuns begin run
two-moves =
    comparison (name "R") run
    (bytes_true run computed.bytes)
    (names_true begin (λ n. false) (λ n. ⊥) (λ n e d. d) run computed.names)
    no_limits
