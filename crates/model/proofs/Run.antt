-- What every reading keeps: the model stays well formed, whatever is read. That a move of the root keeps it, and so
-- every run, is in crate `moves`.
use Prim.Native.Nat.{ℕ, zero, suc, ◌+◌, ◌<◌, ◌≤◌, ◌^◌}
use native.Mathlib.Omega.{arith}
use mathlib.Core.Path.{◌≡◌, refl, sym, ap, ◌∙◌, subst}
use mathlib.Core.List.{List, [], ◌∷◌, ◌++◌, flat_map}
use mathlib.Core.Bool.{Bool, true, false, ◌||◌}
use borrow.Author.Tests.{eq-eqb, ltb-true, ltb-false, leb-false, lt-ltb, not-false}
use lib.ListN.{length, get_or}
use lib.Dec.{eqb, ltb}
use Rattle.model.specs.Answer.{Answer, refused, answer}
use Rattle.model.specs.Bytes.{AreBytes}
use Rattle.model.specs.Change.{Change, add_vote, append, append_all, Decision, single, decided, together, whole}
use Rattle.model.specs.Decide.{members_fixed, bond_out_of_range, decide_member, new_checkpoint, decide_checkpoint, decide_vote}
use Rattle.model.specs.Decide.{decide_each, decide_quorum, decide_record, decide}
use Rattle.model.specs.Limits.{member_limit, checkpoint_limit, vote_limit, bond_limit}
use Rattle.model.specs.Lists.{same_bytes}
use Rattle.model.specs.Log.{Record}
use Rattle.model.specs.Model.{Model, Member, Checkpoint, Vote, start, id_held, name_held}
use Rattle.model.specs.Model.{member_at, checkpoint_at, vote_at, height_of, parent_of, member_index, place_of, same_vote, vote_held, no_member, no_checkpoint, no_vote}
use Rattle.model.specs.Rule.{quota_of}
use Rattle.model.specs.declared.Quota.{Quota}
use Rattle.model.specs.Tree.{Child, Ancestor, near, far, ancestor?}
use Rattle.model.specs.WellFormed.{GoodMembers, GoodTree, GoodVote, WellFormed}
use Rattle.model.proofs.Bytes.{field_below}
use Rattle.model.proofs.Growth.{grown-length, grown-old, grown-new, grown-all, grown_pairs}
use Rattle.model.proofs.Lists.{all_of, any-first, first_passes, none_any, or_false_left, or_false_right}
use Rattle.model.proofs.Lists.{clash, not_so, same_eq, eq-same}
use Rattle.model.proofs.Log.{decode_elim}
use Rattle.model.proofs.Fits.{append-both}
use Rattle.model.proofs.Rule.{standard-permitted, quorum-permitted}
use Rattle.model.proofs.Rows.{member_rows, checkpoint_rows, vote_rows, bundle_rows, quorum_rows, member_elim}
use Rattle.model.proofs.Rows.{checkpoint_elim, new_vote, vote_elim, bundle_elim, quorum_elim}
use Rattle.model.proofs.Tree.{ancestor_true}

-- ---- what held and not held mean

pub id_not_held : (m : Model) (id : ℕ) → id_held m id ≡ false → (i : ℕ) → i < length m.members → (member_at m.members i).id ≡ id → ⊥
unfolding id_held member_index member_at
id_not_held m id e i h q =
    clash (eq-eqb (get_or m.members i no_member).id id q) (none_any (λ x. eqb x.id id) no_member m.members
    (not_so (λ t. clash (lt-ltb _ _ (any-first (λ x. eqb x.id id) no_member m.members t)) e)) i h)

pub name_not_held : (m : Model) (name : List ℕ) → name_held m name ≡ false → (i : ℕ) → i < length m.checkpoints → (checkpoint_at m.checkpoints i).name ≡ name → ⊥
unfolding name_held place_of checkpoint_at
name_not_held m name e i h q =
    clash (eq-same (get_or m.checkpoints i no_checkpoint).name name q) (none_any (λ c. same_bytes c.name name) no_checkpoint m.checkpoints
    (not_so (λ t. clash (lt-ltb _ _ (any-first (λ c. same_bytes c.name name) no_checkpoint m.checkpoints t)) e)) i h)

pub id-held : (m : Model) (id : ℕ) → id_held m id ≡ true → member_index m.members id < length m.members
unfolding id_held
id-held m id e = ltb-true _ _ e

pub name-held : (m : Model) (name : List ℕ) → name_held m name ≡ true → place_of m.checkpoints name < length m.checkpoints
unfolding name_held
name-held m name e = ltb-true _ _ e

-- a held name stands at its place
pub name-at : (m : Model) (name : List ℕ) → name_held m name ≡ true → (checkpoint_at m.checkpoints (place_of m.checkpoints name)).name ≡ name
unfolding checkpoint_at place_of
name-at m name e = same_eq _ _ (first_passes (λ c. same_bytes c.name name) no_checkpoint m.checkpoints (name-held m name e))

-- ---- one member more

members_grow : (ms : List Member) (x : Member) → GoodMembers ms → length ms < member_limit → x.id < 2 ^ 16 → 0 < x.bond → x.bond ≤ bond_limit
    → ((i : ℕ) → i < length ms → (member_at ms i).id ≡ x.id → ⊥) → GoodMembers (ms ++ x ∷ [])
unfolding member_at
members_grow ms x good room id16 low high fresh =
    record {
      fit = omega (arith, grown-length no_member ms x);
      id = grown-all no_member ms x (λ i y. y.id < 2 ^ 16) good.id id16;
      bond-low = grown-all no_member ms x (λ i y. 0 < y.bond) good.bond-low low;
      bond-high = grown-all no_member ms x (λ i y. y.bond ≤ bond_limit) good.bond-high high;
      distinct = grown_pairs no_member ms x (λ y z. y.id ≡ z.id → ⊥) good.distinct fresh;
    }

-- ---- one checkpoint more

module _ (cs : List Checkpoint) (c : Checkpoint) where
  pub checkpoint-old : (i : ℕ) → i < length cs → checkpoint_at (cs ++ c ∷ []) i ≡ checkpoint_at cs i
  unfolding checkpoint_at
  checkpoint-old i h = grown-old no_checkpoint cs c i h

  pub checkpoint-new : checkpoint_at (cs ++ c ∷ []) (length cs) ≡ c
  unfolding checkpoint_at
  checkpoint-new = grown-new no_checkpoint cs c

  child_grows : {a b : ℕ} → Child cs a b → Child (cs ++ c ∷ []) a b
  child_grows {a} {b} k =
      record { later = k.later; inside = omega (arith, grown-length no_checkpoint cs c, k.inside); from = ap (λ (y : Checkpoint). y.parent) (checkpoint-old b k.inside) ∙ k.from }

  pub ancestor_grows : {a b : ℕ} → Ancestor cs a b → Ancestor (cs ++ c ∷ []) a b
  ancestor_grows (near k) = near (child_grows k)
  ancestor_grows (far up k) = far (ancestor_grows up) (child_grows k)

  tree_grows : GoodTree cs → length cs < checkpoint_limit → c.parent < length cs → c.height ≡ height_of cs c.parent + 1
      → ((i : ℕ) → i < length cs → (checkpoint_at cs i).name ≡ c.name → ⊥) → GoodTree (cs ++ c ∷ [])
  unfolding checkpoint_at
  tree_grows good room inside higher fresh =
      record {
        fit = omega (arith, grown-length no_checkpoint cs c);
        rooted = omega (arith, grown-length no_checkpoint cs c);
        root-height = omega (arith, ap (λ (y : Checkpoint). y.height) (checkpoint-old 0 good.rooted), good.root-height);
        parent = λ i l h. grown-all no_checkpoint cs c (λ k y. 0 < k → y.parent < k) (λ k lk pk. good.parent k pk lk) (λ pk. inside) i h l;
        height = λ i l h. grown-all no_checkpoint cs c (λ k y. 0 < k → y.height ≡ height_of (cs ++ c ∷ []) y.parent + 1)
            (λ k lk pk. good.height k pk lk ∙ ap (λ (y : Checkpoint). y.height + 1) (sym (checkpoint-old (parent_of cs k) (omega (arith, good.parent k pk lk)))))
            (λ pk. higher ∙ ap (λ (y : Checkpoint). y.height + 1) (sym (checkpoint-old c.parent inside)))
            i h l;
        distinct = grown_pairs no_checkpoint cs c (λ y z. y.name ≡ z.name → ⊥) good.distinct fresh;
      }

-- ---- while the members are not fixed

module _ (m : Model) (free : members_fixed m ≡ false) where
  abbrev voted : Bool
  voted = ltb 0 (length m.votes)

  abbrev grown : Bool
  grown = ltb 1 (length m.checkpoints)

  unfixed-first : (voted || grown) ≡ false
  unfolding members_fixed
  unfixed-first = or_false_left (voted || grown) (ltb 0 (height_of m.checkpoints 0)) free

  pub unfixed-votes : length m.votes ≤ 0
  unfixed-votes = ltb-false 0 (length m.votes) (or_false_left voted grown unfixed-first)

  pub unfixed-alone : length m.checkpoints ≤ 1
  unfixed-alone = ltb-false 1 (length m.checkpoints) (or_false_right voted grown unfixed-first)

-- ---- each kind of record

module _ (m : Model) (good : WellFormed m) where
  -- the model after an answer is well formed
  abbrev pub Kept : Answer Change → Type 0
  Kept a = WellFormed (decided m (single a))

  pub stays : (n : ℕ) → Kept (refused n)
  unfolding single append_all
  stays n = good

  member-kept : (x : Member) → x.id < 2 ^ 16 → Kept (decide_member m x)
  unfolding bond_out_of_range members_fixed single append_all append
  member-kept x id16 =
      member_elim m Kept x (all_of stays member_rows) λ p.
      let no-vote : length m.votes ≤ 0 = unfixed-votes m p.unfixed in
      let low : 0 < x.bond = positive x.bond (or_false_left (eqb x.bond 0) (ltb bond_limit x.bond) p.bond) in
      let high : x.bond ≤ bond_limit = ltb-false bond_limit x.bond (or_false_right (eqb x.bond 0) (ltb bond_limit x.bond) p.bond) in
      record {
        rule = good.rule;
        members = members_grow m.members x good.members (leb-false member_limit (length m.members) p.fits) id16 low high (id_not_held m x.id p.fresh);
        tree = good.tree;
        votes-fit = good.votes-fit;
        votes = λ k h. absurd (omega arith);
        distinct = good.distinct;
      }
    where
      positive : (n : ℕ) → eqb n 0 ≡ false → 0 < n
      positive zero e = clash (eq-eqb 0 0 refl) e
      positive (suc n) e = omega arith

  checkpoint-kept : (name parent : List ℕ) → Kept (decide_checkpoint m name parent)
  unfolding single append_all append
  checkpoint-kept name parent =
      checkpoint_elim m Kept name parent (all_of stays checkpoint_rows) λ p.
      let c = new_checkpoint m name parent in
      record {
        rule = good.rule;
        members = good.members;
        tree = tree_grows m.checkpoints c good.tree (leb-false checkpoint_limit (length m.checkpoints) p.fits)
            (name-held m parent (not-false (name_held m parent) p.held)) refl (name_not_held m name p.fresh);
        votes-fit = good.votes-fit;
        votes = λ k h. let v = good.votes k h in
            record {
              voter = v.voter;
              source = omega (arith, grown-length no_checkpoint m.checkpoints c, v.source);
              target = omega (arith, grown-length no_checkpoint m.checkpoints c, v.target);
              climbs = ancestor_grows m.checkpoints c v.climbs;
            };
        distinct = good.distinct;
      }

  quorum-kept : (k : Quota) → Kept (decide_quorum m k)
  unfolding single append_all append quota_of
  quorum-kept k =
      quorum_elim m Kept k (all_of stays quorum_rows) λ p.
      record {
        rule = quorum-permitted m k p.right;
        members = good.members;
        tree = good.tree;
        votes-fit = good.votes-fit;
        votes = good.votes;
        distinct = good.distinct;
      }

  -- a vote whose rows are passed, and which there is room for
  vote-added : (v : Vote) → GoodVote m.members m.checkpoints v → vote_held m.votes v ≡ false → length m.votes < vote_limit → Kept (answer (add_vote v))
  unfolding single append_all append vote_at vote_held
  vote-added v vote fresh fits =
      record {
        rule = good.rule;
        members = good.members;
        tree = good.tree;
        votes-fit = omega (arith, grown-length no_vote m.votes v);
        votes = grown-all no_vote m.votes v (λ k w. GoodVote m.members m.checkpoints w) good.votes vote;
        distinct = grown_pairs no_vote m.votes v (λ a b. same_vote a b ≡ false) good.distinct (none_any (λ w. same_vote w v) no_vote m.votes fresh);
      }

  pub vote-kept : (id : ℕ) (source target : List ℕ) (source_height target_height : ℕ) → Kept (decide_vote m id source target source_height target_height)
  vote-kept id source target source_height target_height =
      let v = new_vote m id source target in
      vote_elim m Kept id source target source_height target_height (all_of stays vote_rows) λ p fits.
      vote-added v
      (record {
        voter = id-held m id (not-false (id_held m id) p.member);
        source = name-held m source (not-false (name_held m source) p.from);
        target = name-held m target (not-false (name_held m target) p.to);
        climbs = ancestor_true m.checkpoints good.tree v.source v.target (not-false (ancestor? m.checkpoints v.source v.target) p.climbs);
      })
      p.fresh
      (leb-false vote_limit (length m.votes) fits)

-- a bundle's single votes
each-kept : (m : Model) → WellFormed m → (ids source target : List ℕ) (h k : ℕ)
    → WellFormed (decided m (together (decide_each m ids source target h k)))
unfolding decide_each together append_all flat_map
each-kept m good [] source target h k = good
each-kept m good (id ∷ ids) source target h k =
    let d = single (decide_vote m id source target h k) in
    subst WellFormed (sym (append-both m d.changes (together (decide_each (decided m d) ids source target h k)).changes))
    (each-kept (decided m d) (vote-kept m good id source target h k) ids source target h k)

module _ (m : Model) (good : WellFormed m) where
  abbrev WholeKept : Answer (List Decision) → Type 0
  WholeKept a = WellFormed (decided m (whole a))

  whole-stays : (n : ℕ) → WholeKept (refused n)
  unfolding whole
  whole-stays n = stays m good n

  -- a field of two bytes is of 16 bits
  pub read_kept : (s : List ℕ) → AreBytes s → WellFormed (decided m (decide m s))
  unfolding decide decide_record single append_all whole
  read_kept s bytes =
      decode_elim (λ (r : Record) (n : ℕ). WellFormed (decided m (decide_record m r))) s
      (record {
        nothing = good;
        unknown = good;
        cut = good;
        member = λ _. member-kept m good _ (field_below 1 2 s bytes);
        checkpoint = λ _. checkpoint-kept m good _ _;
        vote = λ _. vote-kept m good _ _ _ _ _;
        bundle = λ _. bundle_elim m WholeKept _ _ _ _ _ (all_of whole-stays bundle_rows) (λ _. each-kept m good _ _ _ _ _);
        quorum = λ _. quorum-kept m good _;
      })

-- ---- where every run starts

pub start-good : (name : List ℕ) → WellFormed (start name)
unfolding start checkpoint_at
start-good name =
    record {
      rule = standard-permitted;
      members =
          record { fit = omega arith; id = λ i h. absurd (omega arith); bond-low = λ i h. absurd (omega arith); bond-high = λ i h. absurd (omega arith); distinct = λ i j h l. absurd (omega arith) };
      tree =
          record { fit = omega arith; rooted = omega arith; root-height = omega arith; parent = λ i h l. absurd (omega arith); height = λ i h l. absurd (omega arith); distinct = λ i j h l. absurd (omega arith) };
      votes-fit = omega arith;
      votes = λ k h. absurd (omega arith);
      distinct = λ i j h l. absurd (omega arith);
    }
