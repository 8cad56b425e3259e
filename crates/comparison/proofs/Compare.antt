-- The comparison of request K7, over every run of readings and moves.
use Prim.Native.Nat.{ℕ}
use native.Mathlib.Omega.{arith}
use mathlib.Core.Path.{◌≡◌, refl, sym, ap, ap₂, ◌∙◌, subst, subst₂, fun_ext}
use mathlib.Core.Logic.{◌⊎◌, inl, inr, ⊎_elim}
use mathlib.Core.List.{List, [], ◌∷◌, ◌++◌, map, flat_map}
use mathlib.Core.Bool.{Bool, true}
use lib.ListN.{length}
use lib.Dec.{leb}
use Rattle.model.specs.Answer.{Answer, refused, answer, row_of}
use Rattle.model.specs.Bits.{set_places}
use Rattle.model.specs.Change.{Change, add_checkpoint, Told, bundled, Decision, append, append_all, single, one_vote}
use Rattle.model.specs.Change.{together, whole, decided}
use Rattle.model.specs.Decide.{decide_vote, decide_each, bundle_ids, bit_without_member, decide_bundle, decide_record, decide}
use Rattle.model.specs.Evidence.{Charge, Conduct, clear, broken, charge_of, conduct, charges, by_id, broken?, violator?}
use Rattle.model.specs.Lists.{any, All, none, each}
use Rattle.model.specs.Log.{Record, no_record, unknown_kind, cut_record, member_record, checkpoint_record, vote_record}
use Rattle.model.specs.Log.{bundle_record, quorum_record, decode}
use Rattle.model.specs.Model.{Model, Member, Checkpoint, start, member_at, checkpoint_at, place_of, name_held, no_checkpoint}
use Rattle.model.specs.Run.{Event, reading, moving, OfBytes, decide_event, after, outcomes}
use Rattle.model.specs.Support.{sum}
use Rattle.model.specs.WellFormed.{WellFormed}
use Rattle.model.proofs.Fits.{append-both}
use Rattle.model.proofs.Growth.{grown-length}
use Rattle.model.proofs.Lists.{decided as either}
use Rattle.model.proofs.Run.{start-good, checkpoint-old, checkpoint-new, name-held, name-at, unfixed-votes}
use Rattle.model.proofs.Run.{unfixed-alone, vote-kept, read_kept}
use Rattle.moves.proofs.Part.{support-same}
use Rattle.comparison.specs.Compare.{readings_only, of_readings, Name, Names, DroppedBy, NamesNone, rows_told}
use Rattle.comparison.specs.Compare.{NoLimit, renumbered, renumber, SameAnswers, Comparison}
use Rattle.comparison.proofs.Extended.{up_to, vote-bound, checkpoint-bound, other-tied}
use Rattle.comparison.proofs.Moving.{move_bound}
use Rattle.comparison.proofs.Pairs.{conduct-same}
use Rattle.comparison.proofs.Reading.{Alike, refuse, adds_member, gives_quota, adds_checkpoint, adds_vote, row_alike}
use Rattle.comparison.proofs.Reading.{holds, NotDropped, member_alike, quorum_alike, checkpoint_alike}
use Rattle.comparison.proofs.Reading.{vote_alike}
use Rattle.comparison.proofs.Standing.{status-same, justified-same, conflicting_same}
use Rattle.comparison.proofs.Tied.{Tied, Bound, tied_itself}

-- ---- what a tie says

module _ {b w : Model} {place number : ℕ → ℕ} (tied : Tied b w place number) where
  conducts : (id : ℕ) → conduct w id ≡ renumbered number (conduct b id)
  conducts = conduct-same tied.within tied.shown

  charge-renumbered : (id : ℕ) (c : Conduct) → charge_of id (renumbered number c) ≡ map (renumber number) (charge_of id c)
  unfolding charge_of renumbered
  charge-renumbered id clear = refl
  charge-renumbered id (broken i j) = refl

  map-append : (xs ys : List Charge)
      → map (renumber number) (xs ++ ys) ≡ map (renumber number) xs ++ map (renumber number) ys
  map-append [] ys = refl
  map-append (x ∷ xs) ys = ap (λ (zs : List Charge). renumber number x ∷ zs) (map-append xs ys)

  abbrev charges_of : Model → Member → List Charge
  charges_of m x = charge_of x.id (conduct m x.id)

  charges-of : (ms : List Member) → flat_map (charges_of w) ms ≡ map (renumber number) (flat_map (charges_of b) ms)
  unfolding flat_map
  charges-of [] = refl
  charges-of (x ∷ xs) =
      ap₂ (λ (ys zs : List Charge). ys ++ zs)
      (ap (charge_of x.id) (conducts x.id) ∙ charge-renumbered x.id (conduct b x.id))
      (charges-of xs)
      ∙ sym (map-append (charges_of b x) (flat_map (charges_of b) xs))

  charges-same : charges w ≡ map (renumber number) (charges b)
  unfolding charges
  charges-same =
      ap (λ (ms : List Member). flat_map (charges_of w) (by_id ms)) (sym tied.within.part.members)
      ∙ charges-of (by_id b.members)

  broken-renumbered : (c : Conduct) → broken? (renumbered number c) ≡ broken? c
  unfolding broken? renumbered
  broken-renumbered clear = refl
  broken-renumbered (broken i j) = refl

  named-same : sum (violator? b) b.members ≡ sum (violator? w) w.members
  unfolding violator?
  named-same =
      ap₂ (λ (p : Member → Bool) (ms : List Member). sum p ms)
      (fun_ext (λ x. sym (ap broken? (conducts x.id) ∙ broken-renumbered (conduct b x.id))))
      tied.within.part.members

  same-answers : SameAnswers b w place number
  same-answers =
      record {
        part = tied.within.part;
        standing = status-same tied.within tied.final tied.low;
        justified = justified-same tied.within tied.final tied.low;
        backing = support-same tied.within;
        conflict = conflicting_same tied.within tied.final tied.low tied.frozen;
        shown = conducts;
        charged = charges-same;
        named = named-same;
      }

-- ---- names that were dropped

-- every name that w holds and b doesn't was dropped
abbrev Accounted : Model → Model → (Name → Type 0) → Type 0
Accounted b w dropped = (n : Name) → name_held w n ≡ true → (name_held b n ≡ true) ⊎ dropped n

move_accounted : (b w : Model) (dropped : Name → Type 0) → Accounted b w dropped → (r : ℕ)
    → Accounted (decided b (decide_event b (moving r))) w (DroppedBy b r dropped)
move_accounted b w dropped known r n e =
    ⊎_elim
    (λ h. ⊎_elim (λ t. inl t) (λ f. inr (inr (h, f))) (either (name_held (decided b (decide_event b (moving r))) n)))
    (λ d. inr (inl d))
    (known n e)

-- a new checkpoint has the same name in both
module _ (b w : Model) (dropped : Name → Type 0) (known : Accounted b w dropped) (c d : Checkpoint)
    (same : c.name ≡ d.name) where
  abbrev b' : Model
  b' = append b (add_checkpoint c)

  abbrev w' : Model
  w' = append w (add_checkpoint d)

  abbrev name_of : Checkpoint → Name
  name_of x = x.name

  still-held : (n : Name) → name_held b n ≡ true → name_held b' n ≡ true
  unfolding append
  still-held n h =
      let l = name-held b n h in
      holds b' n (place_of b.checkpoints n) (omega (arith, l, grown-length no_checkpoint b.checkpoints c))
      (ap name_of (checkpoint-old b.checkpoints c (place_of b.checkpoints n) l) ∙ name-at b n h)

  now_held : (n : Name) → c.name ≡ n → name_held b' n ≡ true
  unfolding append
  now_held n q =
      holds b' n (length b.checkpoints) (omega (arith, grown-length no_checkpoint b.checkpoints c))
      (ap name_of (checkpoint-new b.checkpoints c) ∙ q)

  checkpoint_accounted : Accounted b' w' dropped
  unfolding append
  checkpoint_accounted n e =
      let wc = w.checkpoints in
      up_to (λ i. (checkpoint_at (wc ++ d ∷ []) i).name ≡ n → (name_held b' n ≡ true) ⊎ dropped n) (length wc)
      (λ i l q. ⊎_elim (λ h. inl (still-held n h)) (λ z. inr z)
      (known n (holds w n i l (sym (ap name_of (checkpoint-old wc d i l)) ∙ q))))
      (λ q. inl (now_held n (same ∙ sym (ap name_of (checkpoint-new wc d)) ∙ q)))
      (place_of (wc ++ d ∷ []) n) (omega (arith, name-held w' n e, grown-length no_checkpoint wc d)) (name-at w' n e)

-- ---- a reading

-- tied, and what b doesn't hold is accounted for
record Along (b w : Model) (dropped : Name → Type 0) : Type 0 where
  bound : Bound b w
  known : Accounted b w dropped

-- what is decided on a reading is told alike, and leaves the two tied
record Read (b w : Model) (dropped : Name → Type 0) (d e : Decision) : Type 0 where
  along : Along (decided b d) (decided w e) dropped
  told : d.told ≡ e.told

-- a name that isn't dropped
spared : {b w : Model} {dropped : Name → Type 0} → Along b w dropped → (n : Name) → (dropped n → ⊥) → NotDropped b w n
spared a n fresh e = ⊎_elim (λ h. h) (λ d. absurd (fresh d)) (a.known n e)

module _ {b w : Model} {dropped : Name → Type 0} (a : Along b w dropped) where
  abbrev tied : Tied b w a.bound.place a.bound.number
  tied = a.bound.tied

  single-read : (x y : Answer Change) → Alike b w a.bound.place x y → WellFormed (decided w (single y))
      → Read b w dropped (single x) (single y)
  unfolding single append_all append name_held
  single-read x y (refuse n) good = record { along = a; told = refl }
  single-read x y (adds_member m e) good =
      let members = ap (λ (ms : List Member). ms ++ m ∷ []) tied.within.part.members in
      let t = other-tied tied (unfixed-votes w e) (unfixed-alone w e) _ _ _ _ good tied.within.part.rule members in
      record {
        along = record { bound = record { place = _; number = _; tied = t }; known = a.known };
        told = refl;
      }
  single-read x y (gives_quota k e) good =
      let t = other-tied tied (unfixed-votes w e) (unfixed-alone w e) _ _ _ _ good refl tied.within.part.members in
      record {
        along = record { bound = record { place = _; number = _; tied = t }; known = a.known };
        told = refl;
      }
  single-read x y (adds_checkpoint c d h n g p) good =
      record {
        along = record {
          bound = checkpoint-bound tied c d h n g p good;
          known = checkpoint_accounted b w dropped a.known c d n;
        };
        told = refl;
      }
  single-read x y (adds_vote v hs ht) good =
      record { along = record { bound = vote-bound tied v hs ht good; known = a.known }; told = refl }

  vote-read : (id : ℕ) (source target : List ℕ) (h k : ℕ) → (dropped source → ⊥) → (dropped target → ⊥)
      → NoLimit (single (decide_vote w id source target h k)).told
      → Read b w dropped (single (decide_vote b id source target h k)) (single (decide_vote w id source target h k))
  vote-read id source target h k from to limit =
      single-read _ _
      (vote_alike tied.within id source target h k (spared a source from) (spared a target to) limit)
      (vote-kept w tied.within.good id source target h k)

-- what is told of a bundle's single votes
abbrev told_of : List Decision → List (Answer (Unit {0}))
told_of ds = map (λ (d : Decision). one_vote d.told) ds

-- neither of the two limits
abbrev Free : ℕ → Type 0
Free n = (n ≡ 22 → ⊥) × (n ≡ 36 → ⊥)

free-vote : (x : Answer Change) → Free (row_of (one_vote (single x).told)) → NoLimit (single x).told
unfolding single one_vote row_of rows_told
free-vote (refused n) p = each p none
free-vote (answer c) p = none

-- a bundle's single votes, each meeting what the last one left
module _ (dropped : Name → Type 0) (source target : List ℕ) (h k : ℕ) (from : dropped source → ⊥)
    (to : dropped target → ⊥) where
  abbrev votes : Model → List ℕ → List Decision
  votes m ids = decide_each m ids source target h k

  each_read : (b w : Model) → Along b w dropped → (ids : List ℕ) → All Free (map row_of (told_of (votes w ids)))
      → Along (decided b (together (votes b ids))) (decided w (together (votes w ids))) dropped
      × (told_of (votes b ids) ≡ told_of (votes w ids))
  unfolding decide_each together append_all flat_map
  each_read b w a [] none = (a, refl)
  each_read b w a (id ∷ ids) (each p ps) =
      let d = single (decide_vote b id source target h k) in
      let e = single (decide_vote w id source target h k) in
      let r = vote-read a id source target h k from to (free-vote (decide_vote w id source target h k) p) in
      let later = each_read (decided b d) (decided w e) r.along ids ps in (
        subst₂ (λ (x y : Model). Along x y dropped)
            (sym (append-both b d.changes (together (votes (decided b d) ids)).changes))
            (sym (append-both w e.changes (together (votes (decided w e) ids)).changes))
            later.0,
        ap₂ (λ (t : Answer Told) (ts : List (Answer (Unit {0}))). one_vote t ∷ ts) r.told later.1,
      )

module _ {b w : Model} {dropped : Name → Type 0} (a : Along b w dropped) where
  abbrev same-members : b.members ≡ w.members
  same-members = a.bound.tied.within.part.members

  abbrev WholeRead : Answer (List Decision) → Answer (List Decision) → Type 0
  WholeRead x y = NoLimit (whole y).told → Read b w dropped (whole x) (whole y)

  bits-same : (bits : List ℕ) → bit_without_member b bits ≡ bit_without_member w bits
  unfolding bit_without_member
  bits-same bits = ap (λ (ms : List Member). any (λ p. leb (length ms) p) (set_places bits)) same-members

  ids-same : (bits : List ℕ) → bundle_ids b bits ≡ bundle_ids w bits
  unfolding bundle_ids
  ids-same bits = ap (λ (ms : List Member). map (λ p. (member_at ms p).id) (set_places bits)) same-members

  bundle-read : (bits source target : List ℕ) (h k : ℕ) → (dropped source → ⊥) → (dropped target → ⊥)
      → WholeRead (decide_bundle b bits source target h k) (decide_bundle w bits source target h k)
  unfolding decide_bundle whole single append_all together rows_told
  bundle-read bits source target h k from to =
      let met : (n : ℕ) → WholeRead (refused n) (refused n) = λ n limit. record { along = a; told = refl } in
      row_alike WholeRead 61 _ _ _ _ (bits-same bits) (met 61) λ p q.
      row_alike WholeRead 62 _ _ _ _ refl (met 62) λ p q.
      subst (λ (ids : List ℕ). WholeRead (answer (decide_each b (bundle_ids b bits) source target h k))
      (answer (decide_each w ids source target h k))) (ids-same bits) λ limit.
      let r = each_read dropped source target h k from to b w a (bundle_ids b bits) limit in
      record { along = r.0; told = ap (λ (ts : List (Answer (Unit {0}))). answer (bundled ts)) r.1 }

  record_read : (r : Record) → ((n : Name) → Names r n → dropped n → ⊥) → WellFormed (decided w (decide_record w r))
      → NoLimit (decide_record w r).told → Read b w dropped (decide_record b r) (decide_record w r)
  unfolding decide_record Names single append_all
  record_read no_record names good limit = record { along = a; told = refl }
  record_read unknown_kind names good limit = record { along = a; told = refl }
  record_read cut_record names good limit = record { along = a; told = refl }
  record_read (member_record id bond) names good limit =
      single-read a _ _ (member_alike a.bound.tied.within (record { id = id; bond = bond }) limit) good
  record_read (checkpoint_record name parent) names good limit =
      let free = spared a name (names name (inl refl)) in
      let known = spared a parent (names parent (inr refl)) in
      single-read a _ _ (checkpoint_alike a.bound.tied.within name parent free known limit) good
  record_read (vote_record id source target h k) names good limit =
      vote-read a id source target h k (names source (inl refl)) (names target (inr refl)) limit
  record_read (bundle_record bits source target h k) names good limit =
      bundle-read bits source target h k (names source (inl refl)) (names target (inr refl)) limit
  record_read (quorum_record p q) names good limit =
      single-read a _ _ (quorum_alike a.bound.tied.within (record { p = p; q = q }) limit) good

-- ---- every run

run_along : (b w : Model) (dropped : Name → Type 0) → Along b w dropped → (es : List Event) → All OfBytes es
    → NamesNone b dropped es → All NoLimit (outcomes w (readings_only es))
    → Bound (after b es) (after w (readings_only es)) × (of_readings es (outcomes b es) ≡ outcomes w (readings_only es))
unfolding after outcomes readings_only of_readings NamesNone decide_event decide
run_along b w dropped a [] none names limits = (a.bound, refl)
run_along b w dropped a (moving r ∷ es) (each byte bytes) names limits =
    let next : Along (decided b (decide_event b (moving r))) w (DroppedBy b r dropped) =
    record { bound = move_bound a.bound r; known = move_accounted b w dropped a.known r } in
    run_along (decided b (decide_event b (moving r))) w (DroppedBy b r dropped) next es bytes names limits
run_along b w dropped a (reading s ∷ es) (each byte bytes) (names, later) (each limit limits) =
    let good = read_kept w a.bound.tied.within.good s byte in
    let r = record_read a (decode s) names good limit in
    let rest = run_along (decided b (decide b s)) (decided w (decide w s)) dropped r.along es bytes later limits in
    (rest.0, ap₂ ◌∷◌ r.told rest.1)

pub comparison : Comparison
comparison name es bytes names limits =
    let m = start name in
    let itself : Bound m m = record { place = λ i. i; number = λ k. k; tied = tied_itself m (start-good name) } in
    let r = run_along m m (λ n. ⊥) (record { bound = itself; known = λ n e. inl e }) es bytes names limits in
    let t = r.0 in
    record {
      answers = record { place = t.place; number = t.number; same = same-answers t.tied };
      told_alike = r.1;
    }
