-- A record with one change meets the same rows in both, and what it changes in the one it changes in the other.
use Prim.Native.Nat.{ℕ, ◌<◌, ◌≤◌}
use native.Mathlib.Omega.{arith}
use mathlib.Core.Path.{◌≡◌, refl, sym, ap, ap₂, ◌∙◌, subst, subst₂}
use mathlib.Core.Logic.{inl, inr, ⊎_elim}
use mathlib.Core.List.{List}
use mathlib.Core.Bool.{Bool, true, false, ◌||◌, ◌&&◌, not}
use borrow.Author.Tests.{ltb-false, le-leb, le-ltb, leb-true, not-false}
use lib.ListN.{length}
use lib.Dec.{eqb, ltb, leb}
use Rattle.model.specs.Answer.{Answer, refused, answer, row, and_then}
use Rattle.model.specs.Change.{Change, add_member, add_checkpoint, add_vote, give_quota, single}
use Rattle.model.specs.Decide.{members_fixed, decide_member, decide_checkpoint, heights_agree, link_between, link_of, cast}
use Rattle.model.specs.Decide.{vote_of, room, decide_vote, bad_quorum, decide_quorum}
use Rattle.model.specs.Limits.{member_limit, checkpoint_limit, vote_limit}
use Rattle.model.specs.Lists.{none, each}
use Rattle.model.specs.Model.{Model, Member, Checkpoint, Vote, Link, link, checkpoint_at, height_of, place_of, id_held}
use Rattle.model.specs.Model.{name_held, member_index, vote_for}
use Rattle.model.specs.Rule.{Rule, given?, permitted?}
use Rattle.model.specs.WellFormed.{WellFormed}
use Rattle.model.specs.declared.Quota.{Quota}
use Rattle.model.proofs.Lists.{lt_or_ge, decided, clash, or_false_right}
use Rattle.model.proofs.Run.{name_not_held, name-held, name-at, unfixed-votes, unfixed-alone}
use Rattle.model.proofs.Support.{held_true, true_held}
use Rattle.model.proofs.Tree.{ancestor-lower}
use Rattle.moves.specs.Part.{Kept, Part, shifted}
use Rattle.moves.proofs.Part.{Within, same_test, ancestor-same, held_up, held_down, places-fit, votes-fit}
use Rattle.comparison.specs.Compare.{rows_told, NoLimit}
use Rattle.comparison.proofs.Tied.{all-kept}

-- two answers that are alike: one refusal, or the same change of both
pub data Alike (b w : Model) (place : ℕ → ℕ) : Answer Change → Answer Change → Type 0 where
  refuse : (n : ℕ) → Alike b w place (refused n) (refused n)
  adds_member : (x : Member) → members_fixed w ≡ false → Alike b w place (answer (add_member x)) (answer (add_member x))
  gives_quota : (k : Quota) → members_fixed w ≡ false → Alike b w place (answer (give_quota k)) (answer (give_quota k))
  adds_checkpoint : (c d : Checkpoint) → c.parent < length b.checkpoints → c.name ≡ d.name → c.height ≡ d.height
      → place c.parent ≡ d.parent → Alike b w place (answer (add_checkpoint c)) (answer (add_checkpoint d))
  adds_vote : (v : Vote) → v.source < length b.checkpoints → v.target < length b.checkpoints
      → Alike b w place (answer (add_vote v)) (answer (add_vote (shifted place v)))

-- ---- rows side by side

module _ {A : Type 0} (R : Answer A → Answer A → Type 0) (n : ℕ) where
  -- two rows with the same test
  pub row_alike : (x y : Bool) (s t : Answer A) → x ≡ y → R (refused n) (refused n)
      → (x ≡ false → y ≡ false → R s t) → R (row n x s) (row n y t)
  unfolding row
  row_alike true true s t e met later = met
  row_alike true false s t e met later = clash refl e
  row_alike false true s t e met later = clash refl (sym e)
  row_alike false false s t e met later = later refl refl

  -- a limit that the first meets no sooner than the second
  row_limit : (x y : Bool) (s t : Answer A) → (x ≡ true → y ≡ true) → ((a : Answer A) → R a (refused n))
      → R s t → R (row n x s) (row n y t)
  unfolding row
  row_limit true true s t h met later = met (refused n)
  row_limit true false s t h met later = clash (h refl) refl
  row_limit false true s t h met later = met s
  row_limit false false s t h met later = later

-- ---- names

-- a name that stands at a place is held
pub holds : (m : Model) (name : List ℕ) (i : ℕ) → i < length m.checkpoints
    → (checkpoint_at m.checkpoints i).name ≡ name → name_held m name ≡ true
holds m name i h e = ⊎_elim (λ t. t) (λ f. absurd (name_not_held m name f i h e)) (decided (name_held m name))

-- a name that w holds, b holds: it isn't a dropped one
abbrev pub NotDropped : Model → Model → List ℕ → Type 0
NotDropped b w name = name_held w name ≡ true → name_held b name ≡ true

-- ---- while the members are not fixed

unfixed-low : (m : Model) → members_fixed m ≡ false → height_of m.checkpoints 0 ≤ 0
unfolding members_fixed
unfixed-low m e =
    ltb-false 0 (height_of m.checkpoints 0)
    (or_false_right (ltb 0 (length m.votes) || ltb 1 (length m.checkpoints)) _ e)

unfixed : (m : Model) → length m.votes ≤ 0 → length m.checkpoints ≤ 1 → height_of m.checkpoints 0 ≤ 0
    → members_fixed m ≡ false
unfolding members_fixed
unfixed m votes alone low = ap₂ ◌||◌ (ap₂ ◌||◌ (le-ltb _ _ votes) (le-ltb _ _ alone)) (le-ltb _ _ low)

module _ {b w : Model} {place number : ℕ → ℕ} (within : Within b w place number) where
  abbrev good : WellFormed w
  good = within.good

  abbrev part : Part b w place number
  part = within.part

  abbrev bc : List Checkpoint
  bc = b.checkpoints

  abbrev wc : List Checkpoint
  wc = w.checkpoints

  unfixed-down : members_fixed w ≡ false → members_fixed b ≡ false
  unfixed-down e =
      let votes = unfixed-votes w e in
      let alone = unfixed-alone w e in
      let at-root : place 0 ≡ 0 = omega (arith, part.inside 0 part.rooted, alone) in
      unfixed b
      (omega (arith, votes-fit within, votes))
      (omega (arith, places-fit within, alone))
      (omega (arith, part.height 0 part.rooted, ap (height_of wc) at-root, unfixed-low w e))

  -- a root that was moved up is above height 0; else everything is kept
  unfixed-up : members_fixed b ≡ false → members_fixed w ≡ false
  unfixed-up e = go (all-kept w good (place 0) (part.inside 0 part.rooted))
    where
      low : height_of wc (place 0) ≤ 0
      low = omega (arith, part.height 0 part.rooted, unfixed-low b e)

      go : Kept wc 0 (place 0) → members_fixed w ≡ false
      go (inr up) = absurd (omega (arith, ancestor-lower wc good.tree up, low))
      go (inl q) = unfixed w votes alone (omega (arith, ap (height_of wc) q, low))
        where
          kept : (p : ℕ) → p < length wc → Kept wc (place 0) p
          kept p h = subst (λ (r : ℕ). Kept wc r p) (sym q) (all-kept w good p h)

          votes : length w.votes ≤ 0
          votes =
              ⊎_elim
              (λ h.
              let a = part.vote-whole 0 h (kept _ (good.votes 0 h).source) in
              absurd (omega (arith, a.inside, unfixed-votes b e)))
              (λ h. h)
              (lt_or_ge 0 (length w.votes))

          alone : length wc ≤ 1
          alone =
              ⊎_elim
              (λ h.
              let a = part.whole 1 (kept 1 h) h in
              let first : a.at ≡ 0 = omega (arith, a.inside, unfixed-alone b e) in
              absurd (omega (arith, a.is, ap place first, q)))
              (λ h. h)
              (lt_or_ge 1 (length wc))

  fixed_same : members_fixed b ≡ members_fixed w
  fixed_same =
      same_test
      (λ e. ⊎_elim (λ t. t) (λ f. clash e (unfixed-down f)) (decided (members_fixed w)))
      (λ e. ⊎_elim (λ t. t) (λ f. clash e (unfixed-up f)) (decided (members_fixed b)))

  -- ---- ids and names

  id_held_same : (id : ℕ) → id_held b id ≡ id_held w id
  unfolding id_held
  id_held_same id = ap (λ (ms : List Member). ltb (member_index ms id) (length ms)) part.members

  name-same : (name : List ℕ) → NotDropped b w name → name_held b name ≡ name_held w name
  name-same name kept =
      same_test
      (λ e.
      let p = place_of bc name in
      let h = name-held b name e in
      holds w name (place p) (part.inside p h) (sym (part.name p h) ∙ name-at b name e))
      kept

  place-of : (name : List ℕ) → name_held b name ≡ true → place (place_of bc name) ≡ place_of wc name
  place-of name e =
      let p = place_of bc name in
      let h = name-held b name e in
      let there : (checkpoint_at wc (place p)).name ≡ name = sym (part.name p h) ∙ name-at b name e in
      let held = holds w name (place p) (part.inside p h) there in
      one_place (place p) (place_of wc name) (part.inside p h) (name-held w name held)
      (there ∙ sym (name-at w name held))
    where
      one_place : (i j : ℕ) → i < length wc → j < length wc → (checkpoint_at wc i).name ≡ (checkpoint_at wc j).name → i ≡ j
      one_place i j hi hj q =
          ⊎_elim
          (λ l. absurd (good.tree.distinct i j l hj q))
          (λ l. ⊎_elim (λ g. absurd (good.tree.distinct j i g hi (sym q))) (λ g. omega arith) (lt_or_ge j i))
          (lt_or_ge i j)

  -- ---- each kind of record

  -- alike, where the second meets no limit
  abbrev pub Like : Answer Change → Answer Change → Type 0
  Like x y = NoLimit (single y).told → Alike b w place x y

  no_22 : (a : Answer Change) → Like a (refused 22)
  unfolding single rows_told
  no_22 a (each p none) = absurd (p.0 refl)

  no_36 : (a : Answer Change) → Like a (refused 36)
  unfolding single rows_told
  no_36 a (each p none) = absurd (p.1 refl)

  pub member_alike : (x : Member) → Like (decide_member b x) (decide_member w x)
  unfolding decide_member
  member_alike x =
      let few = ap (λ (ms : List Member). leb member_limit (length ms)) part.members in
      row_alike Like 10 _ _ _ _ fixed_same (λ n. refuse 10) λ p fixed.
      row_alike Like 11 _ _ _ _ refl (λ n. refuse 11) λ p q.
      row_alike Like 12 _ _ _ _ (id_held_same x.id) (λ n. refuse 12) λ p q.
      row_alike Like 13 _ _ _ _ few (λ n. refuse 13) λ p q n.
      adds_member x fixed

  pub quorum_alike : (k : Quota) → Like (decide_quorum b k) (decide_quorum w k)
  unfolding decide_quorum bad_quorum
  quorum_alike k =
      let right = ap (λ (r : Rule). not (permitted? k) || given? r) part.rule in
      row_alike Like 63 _ _ _ _ fixed_same (λ n. refuse 63) λ p fixed.
      row_alike Like 64 _ _ _ _ right (λ n. refuse 64) λ p q n.
      gives_quota k fixed

  pub checkpoint_alike : (name parent : List ℕ) → NotDropped b w name → NotDropped b w parent
      → Like (decide_checkpoint b name parent) (decide_checkpoint w name parent)
  unfolding decide_checkpoint
  checkpoint_alike name parent free known =
      row_alike Like 20 _ _ _ _ (name-same name free) (λ n. refuse 20) λ p q.
      row_alike Like 21 _ _ _ _ (ap not (name-same parent known)) (λ n. refuse 21) λ p q.
      row_limit Like 22 _ _ _ _ (λ e. le-leb checkpoint_limit (length wc)
      (omega (arith, leb-true checkpoint_limit (length bc) e, places-fit within))) no_22 λ n.
      let held = not-false (name_held b parent) p in
      let h = name-held b parent held in
      adds_checkpoint _ _ h refl
      (omega (arith, part.height (place_of bc parent) h, ap (height_of wc) (place-of parent held)))
      (place-of parent held)

  -- alike as votes that rows 30 to 35 pass
  abbrev LikeVotes : Answer Vote → Answer Vote → Type 0
  LikeVotes x y = Like (and_then x (room b)) (and_then y (room w))

  -- alike as links of the member's vote
  abbrev LikeLinks : ℕ → Answer Link → Answer Link → Type 0
  LikeLinks id x y = LikeVotes (and_then x (cast b id)) (and_then y (cast w id))

  link_alike : (id s t source_height target_height : ℕ) → s < length bc → t < length bc
      → LikeLinks id (link_between b (link s t) source_height target_height)
      (link_between w (link (place s) (place t)) source_height target_height)
  unfolding link_between heights_agree cast room and_then
  link_alike id s t sh th hs ht =
      let v = vote_for id s t in
      let heights = ap₂ (λ (x y : ℕ). not (eqb sh x && eqb th y)) (part.height s hs) (part.height t ht) in
      let again = same_test
      (λ e. true_held w.votes (shifted place v) (held_up within id s t (held_true b.votes v e)))
      (λ e. true_held b.votes v (held_down within id s t hs ht (held_true w.votes (shifted place v) e))) in
      row_alike (LikeLinks id) 33 _ _ _ _ heights (λ n. refuse 33) λ p q.
      row_alike (LikeLinks id) 34 _ _ _ _ (ap not (ancestor-same within s t hs ht)) (λ n. refuse 34) λ p q.
      row_alike LikeVotes 35 _ _ _ _ again (λ n. refuse 35) λ p q.
      row_limit Like 36 _ _ _ _ (λ e. le-leb vote_limit (length w.votes)
      (omega (arith, leb-true vote_limit (length b.votes) e, votes-fit within))) no_36 λ n.
      adds_vote v hs ht

  pub vote_alike : (id : ℕ) (source target : List ℕ) (source_height target_height : ℕ)
      → NotDropped b w source → NotDropped b w target
      → Like (decide_vote b id source target source_height target_height)
      (decide_vote w id source target source_height target_height)
  unfolding decide_vote vote_of link_of and_then
  vote_alike id source target sh th from to =
      row_alike LikeVotes 30 _ _ _ _ (ap not (id_held_same id)) (λ n. refuse 30) λ p q.
      row_alike (LikeLinks id) 31 _ _ _ _ (ap not (name-same source from)) (λ n. refuse 31) λ s q.
      row_alike (LikeLinks id) 32 _ _ _ _ (ap not (name-same target to)) (λ n. refuse 32) λ t q.
      let hs = not-false (name_held b source) s in
      let ht = not-false (name_held b target) t in
      let x = place_of bc source in
      let y = place_of bc target in
      subst₂ (λ (i j : ℕ). LikeLinks id (link_between b (link x y) sh th) (link_between w (link i j) sh th))
      (place-of source hs) (place-of target ht)
      (link_alike id x y sh th (name-held b source hs) (name-held b target ht))
