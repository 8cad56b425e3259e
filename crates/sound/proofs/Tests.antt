-- Row 40's parts of the model are its parts of the arrays and numbers that hold it, and all together are the row.
use Prim.Native.Nat.{ℕ, ◌+◌, ◌<◌, ◌≤◌}
use native.Mathlib.Omega.{arith}
use mathlib.Core.Path.{◌≡◌, refl, sym, ap, ap₂, ◌∙◌}
use mathlib.Core.List.{List}
use mathlib.Core.Bool.{Bool, true, false, ◌&&◌, ◌||◌, not}
use borrow.Author.Tests.{ltb-true, leb-true}
use lib.ListN.{length, take}
use lib.Seq.{length-take-le}
use lib.Dec.{eqb, ltb, leb}
use Rattle.model.specs.Limits.{bond_limit, member_limit, checkpoint_limit, vote_limit, root_height_limit}
use Rattle.model.specs.Lists.{all_below, pair_below, same_bytes}
use Rattle.model.specs.Model.{Checkpoint, Vote, quota, height_of, parent_of, same_vote}
use Rattle.model.specs.Rule.{Rule, quota_of, permitted?}
use Rattle.model.specs.WellFormed.{counts?, members?, tree?, vote?, votes?, well_formed?}
use Rattle.model.specs.WellFormed.{bonds?, id_twice?, steps?, name_twice?, vote_twice?}
use Rattle.model.proofs.Lists.{and_left, and_right}
use Rattle.tables.specs.Places.{Falling, place_at, height_at, is_step, is_sound}
use Rattle.tables.proofs.Steps.{sound-falls}
use Rattle.tables.proofs.Taken.{falling-taken}
use Rattle.search.proofs.Pointwise.{all_same, pair_same}
use Rattle.state.specs.Sound.{Typed, sound?}
use Rattle.state.specs.State.{rule_of, quota_in, model_of, vote_in}
use Rattle.state.specs.declared.Witness.{Witness}
use Rattle.state.proofs.Held.{held-id, members-held, rule-held, ancestors_held}
use Rattle.state.proofs.Entries.{count-members, count-checkpoints, count-votes, member_is, checkpoint-is, vote-is}
use Rattle.sound.proofs.Lent.{members-lent, tree-lent, votes-lent}
use Rattle.sound.specs.Parts.{counts_pass, members_pass, tree_passes, votes_pass}

-- a test of the entries of a list is the test of what they are
module _ {A : Type 0} {at f : ℕ → A} {m n : ℕ} (count : m ≡ n) (is : (i : ℕ) → i < n → at i ≡ f i) where
  all_are : (p : ℕ → A → Bool) → all_below m (λ i. p i (at i)) ≡ all_below n (λ i. p i (f i))
  all_are p = ap (λ (k : ℕ). all_below k (λ i. p i (at i))) count ∙ all_same n _ _ (λ i h. ap (p i) (is i h))

  pairs_are : (p : A → A → Bool) → pair_below m (λ i j. p (at i) (at j)) ≡ pair_below n (λ i j. p (f i) (f j))
  pairs_are p =
      ap (λ (k : ℕ). pair_below k (λ i j. p (at i) (at j))) count
      ∙ pair_same n _ _ (λ i j h l. ap₂ p (is i (omega arith)) (is j l))

-- what stands behind a test that fails does not matter
guarded : (p i : ℕ) {x y : Bool} → (p < i → x ≡ y) → (ltb p i && x) ≡ (ltb p i && y)
guarded p i {x} {y} same = go (ltb p i) refl
  where
    go : (b : Bool) → ltb p i ≡ b → (ltb p i && x) ≡ (ltb p i && y)
    go true e = ap (λ (z : Bool). ltb p i && z) (same (ltb-true p i e))
    go false e = rw e

-- counts that pass
pub record Few (w : Witness) : Type 0 where
  pub rooted : 0 < w.checkpoint_count
  pub members : w.member_count ≤ member_limit
  pub checkpoints : w.checkpoint_count ≤ checkpoint_limit
  pub votes : w.vote_count ≤ vote_limit

pub few : (w : Witness) → counts_pass w.member_count w.checkpoint_count w.vote_count ≡ true → Few w
few w e =
    let first = ltb 0 w.checkpoint_count in
    let second = leb w.member_count member_limit in
    let third = leb w.checkpoint_count checkpoint_limit in
    let three = and_left (first && second && third) _ e in
    let two = and_left (first && second) third three in
    record {
      rooted = ltb-true _ _ (and_left first second two);
      members = leb-true _ _ (and_right first second two);
      checkpoints = leb-true _ _ (and_right (first && second) third three);
      votes = leb-true _ _ (and_right (first && second && third) _ e);
    }

module _ (w : Witness) where
  -- the row is its parts
  pub parts : {k a b c d : Bool}
      → permitted? (quota (model_of w)) ≡ k
      → counts? (model_of w) ≡ a
      → members? (model_of w).members ≡ b
      → tree? (model_of w).checkpoints ≡ c
      → votes? (model_of w) ≡ d
      → (k && a && b && c && d) ≡ sound? w
  unfolding sound? well_formed?
  parts e₀ e₁ e₂ e₃ e₄ = sym (rw (e₀, e₁, e₂, e₃, e₄))

  pub rule-is : permitted? (quota (model_of w)) ≡ permitted? (quota_of (rule_of (quota_in w.numbers)))
  rule-is = ap (λ (r : Rule). permitted? (quota_of r)) (rule-held w)

  pub counts_are : counts? (model_of w) ≡ counts_pass w.member_count w.checkpoint_count w.vote_count
  unfolding counts?
  counts_are = rw (count-members w, count-checkpoints w, count-votes w)

  pub members_are : members? (model_of w).members ≡ members_pass w.ids w.bonds w.member_count
  unfolding members? bonds? id_twice?
  members_are =
      ap₂ (λ (a b : Bool). a && not b)
      (all_are (count-members w) (member_is w) (λ i x. ltb 0 x.bond && leb x.bond bond_limit))
      (pairs_are (count-members w) (member_is w) (λ x y. eqb x.id y.id))

  -- ---- the tree

  abbrev cs : List Checkpoint
  cs = (model_of w).checkpoints

  -- the step from a checkpoint to its parent, whose height is asked only where its place is smaller
  step_is : (i : ℕ) → i < w.checkpoint_count
      → (ltb (parent_of cs i) i && eqb (height_of cs i) (height_of cs (parent_of cs i) + 1))
      ≡ (ltb (place_at w.parents i) i
      && eqb (height_at w.heights i) (height_at w.heights (place_at w.parents i) + 1))
  step_is i h =
      let p = place_at w.parents i in
      ap (λ (c : Checkpoint). ltb c.parent i && eqb c.height (height_of cs c.parent + 1)) (checkpoint-is w i h)
      ∙ guarded p i
      (λ l. ap (λ (c : Checkpoint). eqb (height_at w.heights i) (c.height + 1)) (checkpoint-is w p (omega arith)))

  pub tree_is : 0 < w.checkpoint_count
      → tree? (model_of w).checkpoints ≡ tree_passes w.names w.parents w.heights w.checkpoint_count
  unfolding tree? steps? name_twice?
  tree_is rooted =
      ap₂ ◌&&◌
      (ap₂ ◌&&◌
      (ap (λ (c : Checkpoint). leb c.height root_height_limit) (checkpoint-is w 0 rooted))
      (all_are (count-checkpoints w) step_is (λ i b. eqb i 0 || b)))
      (ap not (pairs_are (count-checkpoints w) (checkpoint-is w) (λ x y. same_bytes x.name y.name)))

  -- in a tree that passes every parent is at a smaller place
  pub falls : tree_passes w.names w.parents w.heights w.checkpoint_count ≡ true
      → Falling w.checkpoint_count w.parents
  falls e =
      let low = leb (height_at w.heights 0) root_height_limit in
      let steps = all_below w.checkpoint_count (λ i. is_step w.parents w.heights i) in
      sound-falls w.parents w.heights _ (sym (and_right low steps (and_left (low && steps) _ e)))

  -- ---- the votes

  vote-sound : w.member_count ≤ length w.ids
      → (v : Vote)
      → vote? (model_of w) v
      ≡ is_sound w.member_count w.ids w.checkpoint_count w.parents v.voter v.source v.target
  unfolding vote?
  vote-sound fits v =
      ap₂ ◌&&◌
      (ap₂ (λ (a : Bool) (n : ℕ). a && ltb v.source n && ltb v.target n)
      (held-id v.voter (members-held w fits) refl)
      (count-checkpoints w))
      ((ancestors_held w).ancestor v.source v.target)

  pub votes_are : w.member_count ≤ length w.ids
      → votes? (model_of w)
      ≡ votes_pass w.ids w.member_count w.parents w.checkpoint_count
      w.voters w.sources w.targets w.vote_count
  unfolding votes? vote_twice?
  votes_are fits =
      ap₂ (λ (a b : Bool). a && not b)
      (all_are (count-votes w) (vote-is w) (λ k v. vote? (model_of w) v)
      ∙ all_same w.vote_count _ _ (λ k h. vote-sound fits (vote_in w k)))
      (pairs_are (count-votes w) (vote-is w) same_vote)

  -- ---- the parts in their order, asked of the entries that are lent

  abbrev pub first_two : Bool
  first_two = permitted? (quota (model_of w)) && counts? (model_of w)

  abbrev pub first-three : Bool
  first-three = first_two && members? (model_of w).members

  abbrev pub first_four : Bool
  first_four = first-three && tree? (model_of w).checkpoints

  pub few-held : first_two ≡ true → Few w
  few-held e = few w (sym counts_are ∙ and_right (permitted? (quota (model_of w))) (counts? (model_of w)) e)

  module _ (typed : Typed w) (held : Few w) where
    members-fit : w.member_count ≤ length w.ids
    members-fit = omega (arith, held.members, typed.members.ids)

    checkpoints-fit : w.checkpoint_count ≤ length w.parents
    checkpoints-fit = omega (arith, held.checkpoints, typed.tree.parents)

    votes-fit : w.vote_count ≤ length w.voters
    votes-fit = omega (arith, held.votes, typed.votes.voters)

    pub members-asked : members_pass (take w.member_count w.ids) (take w.member_count w.bonds) (length (take w.member_count w.ids))
        ≡ members? (model_of w).members
    members-asked = members-lent w.member_count w.ids w.bonds members-fit ∙ sym members_are

    pub tree-asked : tree_passes w.names (take w.checkpoint_count w.parents) (take w.checkpoint_count w.heights)
        (length (take w.checkpoint_count w.parents))
        ≡ tree? (model_of w).checkpoints
    tree-asked =
        tree-lent w.checkpoint_count w.names w.parents w.heights held.rooted checkpoints-fit ∙ sym (tree_is held.rooted)

    pub votes-asked : votes_pass (take w.member_count w.ids) (length (take w.member_count w.ids))
        (take w.checkpoint_count w.parents) (length (take w.checkpoint_count w.parents))
        (take w.vote_count w.voters) (take w.vote_count w.sources) (take w.vote_count w.targets)
        (length (take w.vote_count w.voters))
        ≡ votes? (model_of w)
    votes-asked =
        votes-lent w.member_count w.ids w.checkpoint_count w.parents w.vote_count w.voters w.sources w.targets
        members-fit checkpoints-fit votes-fit
        ∙ sym (votes_are members-fit)

    -- what the votes' part counts on
    pub votes-counted : tree? (model_of w).checkpoints ≡ true
        → Falling (length (take w.checkpoint_count w.parents)) (take w.checkpoint_count w.parents)
        × (length (take w.vote_count w.voters) ≤ length (take w.vote_count w.sources))
        × (length (take w.vote_count w.voters) ≤ length (take w.vote_count w.targets))
        × (length (take w.vote_count w.voters) ≤ vote_limit)
    votes-counted e =
        let sources = length-take-le w.vote_count w.sources (omega (arith, votes-fit, typed.votes)) in
        let targets = length-take-le w.vote_count w.targets (omega (arith, votes-fit, typed.votes)) in
        let voters = length-take-le w.vote_count w.voters votes-fit in (
          rw (length-take-le w.checkpoint_count w.parents checkpoints-fit)
              (falling-taken w.checkpoint_count w.parents (falls (sym (tree_is held.rooted) ∙ e))),
          omega arith,
          omega arith,
          omega (arith, held.votes),
        )
