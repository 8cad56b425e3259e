-- A state pruned by what a move of the root keeps is the state with the root moved up.
use Prim.Native.Nat.{ℕ, zero, suc, ◌*◌, ◌<◌, ◌≤◌}
use native.Mathlib.Omega.{arith}
use mathlib.Core.Path.{◌≡◌, refl, sym, ap, ap₂, ◌∙◌, subst}
use mathlib.Core.Logic.{⊎_elim}
use mathlib.Core.List.{List, [], ◌∷◌, ◌++◌, map, flat_map}
use mathlib.Core.Bool.{Bool, true, false, cond, ◌&&◌}
use borrow.Author.Tests.{eqb-false}
use lib.Dec.{eqb}
use lib.ListN.{length, get_or, length-map}
use Rattle.model.specs.Bytes.{part}
use Rattle.model.specs.Lists.{picked, All, none, each}
use Rattle.model.specs.Model.{Checkpoint, Vote, parent_of, vote_at}
use Rattle.model.specs.Move.{kept?, kept_vote?, anew, moved_checkpoint, moved_vote, moved}
use Rattle.model.proofs.Lists.{all_append, decided, lt_or_ge}
use Rattle.model.proofs.Picked.{picked-yes, picked-no}
use Rattle.moves.proofs.Moved.{kept_true, kept-later}
use Rattle.state.specs.Sound.{Sound, SizedVotes}
use Rattle.state.specs.State.{place, height, front, model_of, witness_of, member_part, tree_part, vote_part}
use Rattle.state.specs.State.{with_tree_part, with_vote_part, with_root}
use Rattle.state.specs.declared.Witness.{Witness}
use Rattle.state.proofs.Entries.{count-checkpoints, count-votes, checkpoint-is, vote-is}
use Rattle.state.proofs.Sound.{few-checkpoints, few-votes, falling, source-held, target-held}
use Rattle.pruning.specs.Kept.{IsKept}
use Rattle.pruning.specs.Pruned.{stays_at, place_then, parent_in, vote_stays, TreeFits, VotesFit}
use Rattle.pruning.specs.Pruned.{pruned_tree, pruned_votes}
use Rattle.pruning.specs.declared.Kept.{Kept}
use Rattle.pruning.proofs.Stays.{none_before, parent_is}

-- ---- lists made of the numbers that pass a test

picked_all : (p : ℕ → Bool) (P : ℕ → Type 0) (n : ℕ) → ((i : ℕ) → i < n → p i ≡ true → P i) → All P (picked p n)
unfolding picked
picked_all p P zero so = none
picked_all p P (suc n) so =
    let old = picked_all p P n (λ i h e. so i (omega arith) e) in
    ⊎_elim
    (λ e. subst (All P) (sym (picked-yes p n e)) (all_append old (each (so n (omega arith) e) none)))
    (λ e. subst (All P) (sym (picked-no p n e)) old)
    (decided (p n))

picked_same : (p q : ℕ → Bool) (n : ℕ) → ((i : ℕ) → i < n → p i ≡ q i) → picked p n ≡ picked q n
unfolding picked
picked_same p q zero so = refl
picked_same p q (suc n) so =
    ap₂ (λ (b : Bool) (ks : List ℕ). cond b (ks ++ n ∷ []) ks) (so n (omega arith))
    (picked_same p q n (λ i h. so i (omega arith)))

map_same : {A B : Type 0} (h : ℕ → A) (g : ℕ → B) (f : A → B) {ks : List ℕ} → All (λ k. g k ≡ f (h k)) ks
    → map g ks ≡ map f (map h ks)
map_same h g f none = refl
map_same h g f (each e es) = ap₂ ◌∷◌ e (map_same h g f es)

flat_same : {A B : Type 0} (h : ℕ → A) (g : ℕ → List B) (f : A → List B) {ks : List ℕ} → All (λ k. g k ≡ f (h k)) ks
    → flat_map g ks ≡ flat_map f (map h ks)
unfolding flat_map
flat_same h g f none = refl
flat_same h g f (each e es) = ap₂ ◌++◌ e (flat_same h g f es)

-- entries made straight from the numbers, in front, are those of what is made of the numbers first
module _ {A : Type 0} (p : ℕ → Bool) (n : ℕ) (h : ℕ → A) {made : List A} (is : map h (picked p n) ≡ made) where
  front-map : {B : Type 0} (g : ℕ → B) (f : A → B) (array : List B) → ((i : ℕ) → i < n → p i ≡ true → g i ≡ f (h i))
      → front (map g (picked p n)) array ≡ front (map f made) array
  front-map {B} g f array so =
      ap (λ (ys : List B). front ys array)
      (map_same h g f (picked_all p (λ i. g i ≡ f (h i)) n so) ∙ ap (map f) is)

  front_flat : {B : Type 0} (g : ℕ → List B) (f : A → List B) (array : List B)
      → ((i : ℕ) → i < n → p i ≡ true → g i ≡ f (h i))
      → front (flat_map g (picked p n)) array ≡ front (flat_map f made) array
  front_flat {B} g f array so =
      ap (λ (ys : List B). front ys array)
      (flat_same h g f (picked_all p (λ i. g i ≡ f (h i)) n so) ∙ ap (flat_map f) is)

  as_many : length (picked p n) ≡ length made
  as_many = sym (length-map (picked p n) h) ∙ ap length is

-- ---- what is kept, as the model says it

module _ (w : Witness) (s : Sound w) (r : ℕ) (held : r < w.checkpoint_count) (k : Kept) (is : IsKept w r k) where
  abbrev cs : List Checkpoint
  cs = (model_of w).checkpoints

  abbrev vs : List Vote
  vs = (model_of w).votes

  -- a parent that is looked up is held: r stands for its own, and the parent of another that stays is before it
  parent-held : (p : ℕ) → p < w.checkpoint_count → stays_at k p ≡ true → parent_in w r p < w.checkpoint_count
  parent-held p h e = go (eqb p r) refl
    where
      after : r ≤ p
      after = kept-later cs s.good.tree r p (kept_true cs s.good.tree r p (sym (is.stays p h) ∙ e))

      go : (b : Bool) → eqb p r ≡ b → cond b r (get_or w.parents p (place 0)).0 < w.checkpoint_count
      go true q = held
      go false q =
          let later : r < p = ne_lt (eqb-false p r q) in
          omega (arith, falling w s p (omega arith) h)
        where
          ne_lt : (p ≡ r → ⊥) → r < p
          ne_lt ne = ⊎_elim (λ l. l) (λ l. absurd (ne (omega (arith, after)))) (lt_or_ge r p)

  pub tree-fits : TreeFits w r k
  tree-fits =
      record {
        few = few-checkpoints w s;
        parents = λ p h e. omega (arith, parent-held p h e, few-checkpoints w s);
      }

  parent-then : (p : ℕ) → p < w.checkpoint_count → stays_at k p ≡ true
      → place_then k (parent_in w r p) ≡ place (moved_checkpoint cs r p).parent
  parent-then p h e i = record { 0 = (is.anew (parent_in w r p) (parent-held p h e) ∙ go (eqb p r)) i }
    where
      go : (b : Bool) → anew cs r (cond b r (get_or w.parents p (place 0)).0) ≡ cond b 0 (anew cs r (parent_of cs p))
      go true = none_before cs s.good.tree r r (omega arith)
      go false = ap (anew cs r) (sym (parent_is w s r p h))

  checkpoints_are : map (moved_checkpoint cs r) (picked (stays_at k) w.checkpoint_count)
      ≡ (moved (model_of w) r).checkpoints
  unfolding moved
  checkpoints_are =
      ap (map (moved_checkpoint cs r))
      (picked_same (stays_at k) (kept? cs r) w.checkpoint_count is.stays
      ∙ ap (picked (kept? cs r)) (sym (count-checkpoints w)))

  tree_is : pruned_tree w r k w.checkpoint_count ≡ tree_part (with_root w r)
  unfolding pruned_tree with_root
  tree_is j =
      record {
        names = front_flat p n h checkpoints_are (λ p. part (p * 32) 32 w.names) (λ (c : Checkpoint). c.name)
            w.names (λ p l e. sym (ap (λ (c : Checkpoint). c.name) (checkpoint-is w p l))) j;
        parents = front-map p n h checkpoints_are (λ p. place_then k (parent_in w r p))
            (λ (c : Checkpoint). place c.parent) w.parents parent-then j;
        heights = front-map p n h checkpoints_are (λ p. get_or w.heights p (height 0))
            (λ (c : Checkpoint). height c.height) w.heights
            (λ p l e. sym (ap (λ (c : Checkpoint). height c.height) (checkpoint-is w p l))) j;
        count = as_many p n h checkpoints_are j;
      }
    where
      n : ℕ
      n = w.checkpoint_count

      p : ℕ → Bool
      p = stays_at k

      h : ℕ → Checkpoint
      h = moved_checkpoint cs r

  -- ---- the votes

  place-then : (p : ℕ) → p < w.checkpoint_count → place_then k p ≡ place (anew cs r p)
  place-then p h i = record { 0 = is.anew p h i }

  vote-stays : (j : ℕ) → j < w.vote_count → vote_stays w k j ≡ kept_vote? cs r (vote_at vs j)
  unfolding kept_vote?
  vote-stays j h =
      ap₂ ◌&&◌ (is.stays _ (source-held w s j h)) (is.stays _ (target-held w s j h))
      ∙ sym (ap (λ (v : Vote). kept? cs r v.source && kept? cs r v.target) (vote-is w j h))

  votes_are : map (λ j. moved_vote cs r (vote_at vs j)) (picked (vote_stays w k) w.vote_count)
      ≡ (moved (model_of w) r).votes
  unfolding moved
  votes_are =
      ap (map (λ j. moved_vote cs r (vote_at vs j)))
      (picked_same (vote_stays w k) (λ j. kept_vote? cs r (vote_at vs j)) w.vote_count vote-stays
      ∙ ap (picked (λ j. kept_vote? cs r (vote_at vs j))) (sym (count-votes w)))

  votes-is : pruned_votes w k w.vote_count ≡ vote_part (with_root w r)
  unfolding pruned_votes with_root
  votes-is j =
      record {
        voters = front-map p n h votes_are (λ j. get_or w.voters j 0) (λ (v : Vote). v.voter) w.voters
            (λ i l e. sym (ap (λ (v : Vote). v.voter) (vote-is w i l))) j;
        sources = front-map p n h votes_are (λ j. place_then k (get_or w.sources j (place 0)).0)
            (λ (v : Vote). place v.source) w.sources
            (λ i l e.
            place-then _ (source-held w s i l)
            ∙ sym (ap (λ (v : Vote). place (anew cs r v.source)) (vote-is w i l))) j;
        targets = front-map p n h votes_are (λ j. place_then k (get_or w.targets j (place 0)).0)
            (λ (v : Vote). place v.target) w.targets
            (λ i l e.
            place-then _ (target-held w s i l)
            ∙ sym (ap (λ (v : Vote). place (anew cs r v.target)) (vote-is w i l))) j;
        count = as_many p n h votes_are j;
      }
    where
      n : ℕ
      n = w.vote_count

      p : ℕ → Bool
      p = vote_stays w k

      h : ℕ → Vote
      h j = moved_vote cs r (vote_at vs j)

  -- ---- the state once the tree is pruned, and the votes too

  module _ {next : Witness} (tree : next ≡ with_tree_part w (pruned_tree w r k w.checkpoint_count)) where
    pub votes-fit : VotesFit next
    votes-fit =
        subst VotesFit (sym tree)
        (record {
          few = few-votes w s;
          sources = λ j h. omega (arith, source-held w s j h, few-checkpoints w s);
          targets = λ j h. omega (arith, target-held w s j h, few-checkpoints w s);
        })

    pub votes-sized : SizedVotes (vote_part next)
    votes-sized = subst (λ (v : Witness). SizedVotes (vote_part v)) (sym tree) s.typed.votes

    pub pruned_root : {last : Witness} → last ≡ with_vote_part next (pruned_votes next k next.vote_count)
        → last ≡ with_root w r
    unfolding pruned_votes with_root
    pruned_root votes =
        votes
        ∙ ap (λ (v : Witness). with_vote_part v (pruned_votes v k v.vote_count)) tree
        ∙ λ j. witness_of (member_part w) (tree_is j) (votes-is j) w.numbers
