-- A bundle read into the witness is its single votes, one by one: proof of specs/Bundles.antt.
use Prim.Native.Nat.{ℕ, suc, ◌<◌, ◌≤◌}
use native.Mathlib.Omega.{arith}
use mathlib.Core.Path.{◌≡◌, refl, sym, ap, ap₂, ◌∙◌, subst}
use mathlib.Core.List.{List, [], ◌∷◌, ◌++◌, map, flat_map, append-nil}
use mathlib.Core.Bool.{Bool, true, false, cond}
use mathlib.Core.Logic.{◌⊎◌, inl, inr, ⊎_elim}
use borrow.Author.Tests.{eqb-true, ne_eqb, ltb-true, ltb-false}
use lib.ListN.{length, get_or, length-map}
use lib.Dec.{eqb, leb, ltb}
use Rattle.model.specs.Answer.{Answer, refused, answer, row, row_of}
use Rattle.model.specs.Bits.{set_places}
use Rattle.model.specs.Bundle.{votes_of, GoodBundle, OfVote, is-taken, is-refused}
use Rattle.model.specs.Bytes.{part, field}
use Rattle.model.specs.Change.{Change, Told, nothing_left, taken, bundled, Decision, decided, single, one_vote, together, whole}
use Rattle.model.specs.Decide.{decide_member, decide_checkpoint, decide_vote, decide_each, bundle_ids, bit_without_member}
use Rattle.model.specs.Decide.{no_bit_set}
use Rattle.model.specs.Decide.{decide_bundle, decide_quorum, decide_record, decide, decide_move}
use Rattle.model.specs.Lists.{any, All, none, each}
use Rattle.model.specs.Log.{Kind, member_kind, checkpoint_kind, vote_kind, quorum_kind, bundle_kind, other_kind, kind_of}
use Rattle.model.specs.Log.{size_of}
use Rattle.model.specs.Log.{Record, cut_record, record_size, decode_as, decode}
use Rattle.model.specs.Model.{Model}
use Rattle.model.specs.Report.{outcome_line, outcome_lines}
use Rattle.model.specs.Run.{Event, reading, moving, OfBytes, decide_event, after, outcomes}
use Rattle.model.specs.WellFormed.{WellFormed}
use Rattle.model.proofs.Bundle.{vote, votes, events, Narrows, vote-read, decode-bundle, bundle-read, narrow, bundle_is_votes, refused-line}
use Rattle.model.proofs.Fits.{vote-fits}
use Rattle.model.proofs.Lists.{clash}
use Rattle.model.proofs.Log.{begins_cut}
use Rattle.model.proofs.Rows.{bundle_elim}
use Rattle.model.proofs.Run.{vote-kept}
use Rattle.state.specs.Reading.{many_votes, brief, rows_of_votes}
use Rattle.state.specs.Sound.{Typed, Sound, sound?}
use Rattle.state.specs.State.{model_of, store_all, stored}
use Rattle.state.specs.declared.Witness.{Witness}
use Rattle.state.proofs.Kept.{changes-kept, store_both}
use Rattle.state.proofs.Sound.{sound_true, true_sound}
use Rattle.witness.specs.Calls.{event_call}
use Rattle.comparison.specs.Compare.{of_readings}
use Rattle.guarantee.specs.Bundles.{IsRefused, by_row, BundlesAreVotes, RefusedWhole, BundlesRefusedWhole, on_votes, singles}
use Rattle.guarantee.specs.Bundles.{in_singles, as_single, apart, lines_apart, RunInSingles, RunsAreSingles}
use Rattle.guarantee.specs.Demand3.{witness_after, told_of}
use Rattle.guarantee.proofs.Demand.{holds, decided-is, decided-here, step-holds}
use Rattle.guarantee.proofs.FedRuns.{calls-keep}
use Rattle.guarantee.proofs.FirstRecords.{after_both}

module _ (s : List ℕ) (long : 89 ≤ length s) where
  -- what a vote leaves is sound
  vote-sound : (w : Witness) → Sound w → (id : ℕ) → Sound (stored w (vote s long (model_of w) id))
  vote-sound w sound id =
      let kept = changes-kept w sound.typed (vote s long (model_of w) id).changes (vote-fits (model_of w) id _ _ _ _) in
      record { typed = kept.typed; good = subst WellFormed (sym kept.model) (vote-kept (model_of w) sound.good id _ _ _ _) }

  vote-model : (w : Witness) → Sound w → (id : ℕ) → model_of (stored w (vote s long (model_of w) id)) ≡ decided (model_of w) (vote s long (model_of w) id)
  vote-model w sound id = (changes-kept w sound.typed (vote s long (model_of w) id).changes (vote-fits (model_of w) id _ _ _ _)).model

  -- the votes' changes stored at once, and what their calls tell
  record Runs (w : Witness) (ids : List ℕ) : Type 0 where
    pub left : stored w (together (votes s long (model_of w) ids)) ≡ witness_after w (events s long ids)
    pub tells : outcomes (model_of w) (events s long ids) ≡ told_of w (events s long ids)

  votes-run : (w : Witness) → Sound w → (ids : List ℕ) → Narrows s long ids → Runs w ids
  unfolding decide_each together flat_map store_all witness_after outcomes told_of
  votes-run w sound [] none = record { left = refl; tells = refl }
  votes-run w sound (id ∷ ids) (each h hs) =
      let m = model_of w in
      let d = vote s long m id in
      let e : Event = reading (Rattle.model.specs.Bundle.vote_of_bundle s id) in
      let called : event_call w e ≡ d = decided-is w m (holds w sound) e ∙ vote-read s long m id h in
      let then = vote-model w sound id in
      let later = votes-run (stored w d) (vote-sound w sound id) ids hs in
      record {
        left =
            store_both w d.changes (together (votes s long (decided m d) ids)).changes
            ∙ ap (λ (n : Model). stored (stored w d) (together (votes s long n ids))) (sym then)
            ∙ later.left
            ∙ ap (λ (x : Decision). witness_after (stored w x) (events s long ids)) (sym called);
        tells =
            ap (λ (x : Decision). x.told ∷ outcomes (decided m x) (events s long ids)) (vote-read s long m id h)
            ∙ ap (λ (n : Model). d.told ∷ outcomes n (events s long ids)) (sym then)
            ∙ ap (◌∷◌ d.told) later.tells
            ∙ ap (λ (x : Decision). x.told ∷ told_of (stored w x) (events s long ids)) (sym called);
      }

-- ---- refusals change nothing

refused-run : (w : Witness) (es : List Event) → All IsRefused (told_of w es) → witness_after w es ≡ w
unfolding witness_after told_of
refused-run w [] none = refl
refused-run w (e ∷ es) (each h hs) = refused-run (stored w (event_call w e)) es hs ∙ (calls-keep w).refused-keeps e h.number h.is

-- ---- the rows tell what is told

by_rows : (os : List (Answer Told)) → All OfVote os → map by_row (map row_of (map one_vote os)) ≡ os
unfolding one_vote row_of
by_rows [] none = refl
by_rows (o ∷ os) (each is-taken h) = ap (◌∷◌ (answer taken)) (by_rows os h)
by_rows (o ∷ os) (each (is-refused n low high) h) =
    let is_row = ne_eqb n 0 (λ e. omega (arith, e, low)) in
    ap₂ ◌∷◌ (ap (λ (b : Bool). cond b (answer taken) (refused n)) is_row) (by_rows os h)

pub bundles_are_votes : BundlesAreVotes
unfolding votes_of witness_after brief rows_of_votes
bundles_are_votes w typed is-sound s b =
    let sound = sound_true w typed is-sound in
    let m = model_of w in
    let book = bundle_is_votes m sound.good s b in
    let run = votes-run s b.size w sound (bundle_ids m (part 1 16 s)) (narrow m sound.good s b) in
    let called : event_call w (reading s) ≡ decide_event m (reading s) = decided-is w m (holds w sound) (reading s) in
    let os : List (Answer Told) = told_of w (votes_of m s) in
    let of-votes : All OfVote os = subst (λ (x : List (Answer Told)). All OfVote x) run.tells book.of-votes in
    let same = ap (λ (d : Decision). d.told) called in
    let told = same ∙ book.told ∙ ap (λ (x : List (Answer Told)). answer (bundled (map one_vote x))) run.tells in
    let left = ap (stored w) (called ∙ bundle-read m sound.good s b) ∙ run.left in
    record {
      book = book;
      witness = left;
      outcomes-agree = sym run.tells;
      told = told;
      number =
          ap brief told
          ∙ ap (λ (n : ℕ). answer (many_votes n)) (length-map os one_vote ∙ ap length (sym run.tells) ∙ book.number);
      rows = ap (λ (t : Answer Told). map by_row (rows_of_votes t)) told ∙ by_rows os of-votes;
      lines = λ k. ap (outcome_line k) same ∙ book.lines k ∙ ap (flat_map (outcome_line k)) run.tells;
      kept = λ all. left ∙ refused-run w (votes_of m s) all;
    }

-- ---- refused whole

none_without : (f : ℕ → Bool) (ps : List ℕ) → eqb (length ps) 0 ≡ true → any f ps ≡ false
unfolding any
none_without f [] e = refl
none_without f (p ∷ ps) e = absurd (omega (arith, eqb-true (length (p ∷ ps)) 0 e))

module _ (m : Model) (s : List ℕ) (kind : get_or s 0 0 ≡ 5) (long : 89 ≤ length s) where
  abbrev bits : List ℕ
  bits = part 1 16 s

  -- what is told of a bundle that stands at the start of s
  bundle-decided : (decide m s).told ≡ (whole (decide_bundle m bits (part 17 32 s) (part 49 32 s) (field 81 4 s) (field 85 4 s))).told
  unfolding decide decide_record
  bundle-decided = ap (λ (r : Record). (decide_record m r).told) (decode-bundle s kind long)

  told_61 : bit_without_member m bits ≡ true → (decide m s).told ≡ refused 61
  unfolding decide_bundle whole single row
  told_61 e = bundle-decided ∙ rw e

  told_62 : no_bit_set bits ≡ true → (decide m s).told ≡ refused 62
  unfolding decide_bundle whole single row bit_without_member no_bit_set
  told_62 e = bundle-decided ∙ rw (none_without (λ p. leb (length m.members) p) (set_places bits) e, e)

pub bundles_refused_whole : BundlesRefusedWhole
unfolding witness_after
bundles_refused_whole w typed is-sound s kind long =
    record {
      row_61 = λ e. by 61 (omega arith) (told_61 (model_of w) s kind long e);
      row_62 = λ e. by 62 (omega arith) (told_62 (model_of w) s kind long e);
    }
  where
    by : (n : ℕ) → 30 ≤ n → (decide (model_of w) s).told ≡ refused n → RefusedWhole w s n
    by n low e =
        let told = ap (λ (d : Decision). d.told) (decided-here w (sound_true w typed is-sound) s) ∙ e in
        record {
          told = told;
          witness = (calls-keep w).refused-keeps (reading s) n told;
          line = λ k. ap (outcome_line k) told ∙ refused-line k n low;
        }

-- ---- the whole run

-- no votes are told
abbrev Plain : Answer Told → Type 0
Plain (refused n) = Unit {0}
Plain (answer nothing_left) = Unit {0}
Plain (answer taken) = Unit {0}
Plain (answer (bundled os)) = ⊥

single-plain : (a : Answer Change) → Plain (single a).told
unfolding single
single-plain (refused n) = tt
single-plain (answer c) = tt

-- votes are told of a bundle that rows 61 and 62 pass, and of nothing else
module _ (m : Model) (b : ℕ) (s : List ℕ) where
  abbrev all : List ℕ
  all = b ∷ s

  abbrev Either : Type 0
  Either = Plain (decide m all).told ⊎ GoodBundle m all

  abbrev ByKind : Kind → Type 0
  ByKind k = Plain (decide_record m (cond (ltb (length all) (size_of k)) cut_record (decode_as k all))).told

  if_whole : (k : Kind) → Plain (decide_record m (decode_as k all)).told → ByKind k
  unfolding decide_record single
  if_whole k h = on (ltb (length all) (size_of k))
    where
      on : (c : Bool) → Plain (decide_record m (cond c cut_record (decode_as k all))).told
      on true = tt
      on false = h

  others : (one two three four five : Bool) → five ≡ false
      → ByKind
      (cond one member_kind
      (cond two checkpoint_kind (cond three vote_kind (cond four quorum_kind (cond five bundle_kind other_kind)))))
  unfolding decide_record decode_as single
  others true two three four five e =
      if_whole member_kind (single-plain (decide_member m (record { id = field 1 2 all; bond = field 3 8 all })))
  others false true three four five e =
      if_whole checkpoint_kind (single-plain (decide_checkpoint m (part 1 32 all) (part 33 32 all)))
  others false false true four five e =
      if_whole vote_kind
      (single-plain (decide_vote m (field 1 2 all) (part 3 32 all) (part 35 32 all) (field 67 4 all) (field 71 4 all)))
  others false false false true five e =
      if_whole quorum_kind (single-plain (decide_quorum m (record { p = field 1 2 all; q = field 3 2 all })))
  others false false false false true e = absurd (clash refl e)
  others false false false false false e = if_whole other_kind tt

  no-bundle : eqb b 5 ≡ false → Plain (decide m all).told
  unfolding decide decode record_size kind_of
  no-bundle e = others (eqb b 1) (eqb b 2) (eqb b 3) (eqb b 4) (eqb b 5) e

  module _ (kind : b ≡ 5) where
    cut-bundle : length all < 89 → Plain (decide m all).told
    unfolding decide decide_record record_size size_of kind_of single
    cut-bundle short =
        let size : record_size b ≡ 89 = ap record_size kind in
        subst (λ (r : Record). Plain (decide_record m r).told) (sym (begins_cut b s (omega (arith, size, short))).decoded) tt

    whole-bundle : 89 ≤ length all → Either
    unfolding whole single
    whole-bundle long =
        subst (λ (t : Answer Told). Plain t ⊎ GoodBundle m all) (sym (bundle-decided m all kind long))
        (bundle_elim m (λ (a : Answer (List Decision)). Plain (whole a).told ⊎ GoodBundle m all) _ _ _ _ _
        (each (inl tt) (each (inl tt) none))
        (λ p. inr (record { kind = kind; size = long; row_61 = p.members; row_62 = p.some })))

  by_first_byte : (five short : Bool) → eqb b 5 ≡ five → ltb (length all) 89 ≡ short → Either
  by_first_byte false short e f = inl (no-bundle e)
  by_first_byte true true e f = inl (cut-bundle (eqb-true b 5 e) (ltb-true _ _ f))
  by_first_byte true false e f = whole-bundle (eqb-true b 5 e) (ltb-false _ _ f)

told-cases : (m : Model) (s : List ℕ) → Plain (decide m s).told ⊎ GoodBundle m s
unfolding decide decide_record decode
told-cases m [] = inl tt
told-cases m (b ∷ s) = by_first_byte m b s (eqb b 5) (ltb (length (b ∷ s)) 89) refl refl

as_told : (os : List (Answer Told)) → All OfVote os → map as_single (map one_vote os) ≡ os
unfolding as_single one_vote
as_told [] none = refl
as_told (o ∷ os) (each is-taken h) = ap (◌∷◌ (answer taken)) (as_told os h)
as_told (o ∷ os) (each (is-refused n low high) h) = ap (◌∷◌ (refused n)) (as_told os h)

told-both : (w : Witness) (es fs : List Event) → told_of w (es ++ fs) ≡ told_of w es ++ told_of (witness_after w es) fs
unfolding told_of witness_after
told-both w [] fs = refl
told-both w (e ∷ es) fs = ap (◌∷◌ (event_call w e).told) (told-both (stored w (event_call w e)) es fs)

book-both : (m : Model) (es fs : List Event) → after m (es ++ fs) ≡ after (after m es) fs
unfolding after
book-both m [] fs = refl
book-both m (e ∷ es) fs = book-both (decided m (decide_event m e)) es fs

-- the lines of the readings, with those of one event more
lines_more : (e : Event) (es : List Event) (t : Answer Told) (ts : List (Answer Told))
    → ((k : ℕ) → outcome_line k t ≡ flat_map (outcome_line k) (apart t))
    → ((k : ℕ) → outcome_lines k (of_readings es ts) ≡ lines_apart k (of_readings es ts))
    → (k : ℕ) → outcome_lines k (of_readings (e ∷ es) (t ∷ ts)) ≡ lines_apart k (of_readings (e ∷ es) (t ∷ ts))
unfolding of_readings outcome_lines lines_apart
lines_more (reading s) es t ts one later k = ap₂ ◌++◌ (one k) (later (suc k))
lines_more (moving r) es t ts one later k = later k

-- one event: the votes leave and tell what it does, and have its lines
record OneInSingles (w : Witness) (e : Event) : Type 0 where
  left : witness_after w (e ∷ []) ≡ witness_after w (singles (model_of w) e)
  book : after (model_of w) (e ∷ []) ≡ after (model_of w) (singles (model_of w) e)
  tells : apart (event_call w e).told ≡ told_of w (singles (model_of w) e)
  lines : (k : ℕ) → outcome_line k (event_call w e).told ≡ flat_map (outcome_line k) (apart (event_call w e).told)

-- an event of which no votes are told stands for itself
alone : (w : Witness) (e : Event) → Plain (event_call w e).told → singles (model_of w) e ≡ e ∷ [] → OneInSingles w e
unfolding apart told_of flat_map
alone w e plain itself =
    let one = on (event_call w e).told plain in
    record {
      left = ap (witness_after w) (sym itself);
      book = ap (after (model_of w)) (sym itself);
      tells = one ∙ ap (told_of w) (sym itself);
      lines = λ k. sym (append-nil (outcome_line k (event_call w e).told)) ∙ ap (flat_map (outcome_line k)) (sym one);
    }
  where
    on : (t : Answer Told) → Plain t → apart t ≡ t ∷ []
    on (refused n) h = refl
    on (answer nothing_left) h = refl
    on (answer taken) h = refl
    on (answer (bundled _)) h = elim h [ ]

one_in_singles : (w : Witness) → Typed w → sound? w ≡ true → (e : Event) → OneInSingles w e
unfolding singles apart told_of decide_event flat_map
one_in_singles w typed is-sound (moving r) =
    let sound = sound_true w typed is-sound in
    let here = ap (λ (d : Decision). d.told) (decided-is w (model_of w) (holds w sound) (moving r)) in
    alone w (moving r) (subst Plain (sym here) (single-plain (decide_move (model_of w) r))) refl
one_in_singles w typed is-sound (reading s) = ⊎_elim plain good (told-cases m s)
  where
    m : Model
    m = model_of w

    here : (event_call w (reading s)).told ≡ (decide m s).told
    here = ap (λ (d : Decision). d.told) (decided-here w (sound_true w typed is-sound) s)

    itself : (t : Answer Told) → Plain t → (votes else : List Event) → on_votes t votes else ≡ else
    itself (refused n) h votes else = refl
    itself (answer nothing_left) h votes else = refl
    itself (answer taken) h votes else = refl
    itself (answer (bundled _)) h votes else = elim h [ ]

    plain : Plain (decide m s).told → OneInSingles w (reading s)
    plain h =
        alone w (reading s) (subst Plain (sym here) h) (itself (decide m s).told h (votes_of m s) (reading s ∷ []))

    good : GoodBundle m s → OneInSingles w (reading s)
    good b =
        let run = bundles_are_votes w typed is-sound s b in
        let votes : List Event = votes_of m s in
        let are = ap (λ (t : Answer Told). on_votes t votes (reading s ∷ [])) (sym here ∙ run.told) in
        let of-votes = subst (λ (os : List (Answer Told)). All OfVote os) (sym run.outcomes-agree) run.book.of-votes in
        let each-vote = ap apart run.told ∙ as_told (told_of w votes) of-votes in
        record {
          left = run.witness ∙ ap (witness_after w) (sym are);
          book = run.book.model ∙ ap (after m) (sym are);
          tells = each-vote ∙ ap (told_of w) (sym are);
          lines = λ k. run.lines k ∙ ap (flat_map (outcome_line k)) (sym each-vote);
        }

pub runs_are_singles : RunsAreSingles
unfolding witness_after after told_of in_singles flat_map outcome_lines lines_apart of_readings
runs_are_singles w typed is-sound es bytes = go w (sound_true w typed is-sound) es bytes
  where
    go : (w : Witness) → Sound w → (es : List Event) → All OfBytes es → RunInSingles w es
    go w sound [] none = record { witness = refl; book = refl; told = refl; lines = λ k. refl }
    go w sound (e ∷ es) (each b bs) =
        let one = one_in_singles w sound.typed (true_sound w sound) e in
        let v : Witness = stored w (event_call w e) in
        let then = step-holds w (model_of w) (holds w sound) e b in
        let later = go v then.sound es bs in
        let m = model_of w in
        let front : List Event = singles m e in
        let rest : List Event = in_singles (decided m (decide_event m e)) es in
        let next : in_singles (model_of v) es ≡ rest = ap (λ (m : Model). in_singles m es) then.model in
        record {
          witness =
              later.witness ∙ ap (witness_after v) next ∙ ap (λ (x : Witness). witness_after x rest) one.left
              ∙ sym (after_both w front rest);
          book =
              subst (λ (n : Model). after n es ≡ after n (in_singles n es)) then.model later.book
              ∙ ap (λ (n : Model). after n rest) one.book
              ∙ sym (book-both m front rest);
          told =
              ap₂ ◌++◌ one.tells (later.told ∙ ap (told_of v) next ∙ ap (λ (x : Witness). told_of x rest) one.left)
              ∙ sym (told-both w front rest);
          lines = lines_more e es (event_call w e).told (told_of v es) one.lines later.lines;
        }
