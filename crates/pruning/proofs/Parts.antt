-- The parts of a state, as the code prunes them: a turn of the loop over the checkpoints, and of that over the votes.
use Prim.Native.Nat.{ℕ, ◌+◌, ◌*◌, ◌<◌, ◌≤◌}
use native.Mathlib.Omega.{arith}
use native.Mathlib.Nat.{le_antisymm}
use native.Mathlib.Numerals.{add-one}
use mathlib.Core.Path.{◌≡◌, refl, sym, ap, ap₂, ◌∙◌}
use mathlib.Core.List.{List, flat_map}
use mathlib.Core.Bool.{Bool, true, false, cond, ◌&&◌}
use lib.Dec.{eqb}
use lib.ListN.{get_or, set, drop}
use lib.Seq.{paste}
use Rattle.model.specs.Limits.{checkpoint_limit, vote_limit}
use Rattle.model.specs.Lists.{picked}
use Rattle.model.specs.declared.Place.{Place}
use Rattle.model.specs.declared.Height.{Height}
use Rattle.model.proofs.Picked.{rank, rank-yes, rank-no}
use Rattle.state.specs.Sound.{SizedTree, SizedVotes}
use Rattle.state.specs.State.{place, height, tree_part, vote_part, with_tree_part, with_vote_part}
use Rattle.state.specs.declared.Witness.{Witness}
use Rattle.pruning.specs.Pruned.{stays_at, place_then, parent_in, vote_stays, pruned_tree, pruned_votes}
use Rattle.pruning.specs.declared.Kept.{Kept}
use Rattle.pruning.proofs.Fronts.{compacted-keep, compacted-drop, compacted-unread, names-keep}
use Rattle.pruning.proofs.Fronts.{names-drop}

-- the rank of the next number, after one that passes and after one that does not

rank-kept : (p : ℕ → Bool) (i n : ℕ) → n ≡ rank p i → p i ≡ true → n + 1 ≡ rank p (i + 1)
rank-kept p i n is e = omega (arith, is, rank-yes p i e, ap (rank p) (add-one i))

rank-passed : (p : ℕ → Bool) (i : ℕ) → p i ≡ false → rank p i ≡ rank p (i + 1)
rank-passed p i e = omega (arith, rank-no p i e, ap (rank p) (add-one i))

-- ---- the tree

-- a state with n checkpoints counted
abbrev pub with_places : Witness → ℕ → Witness
with_places w n = with_tree_part w (record { names = w.names; parents = w.parents; heights = w.heights; count = n })

-- the first i checkpoints of w are looked at: next holds the n of them that stay in front
pub record TreeTo (w : Witness) (r : ℕ) (k : Kept) (next : Witness) (n i : ℕ) : Type 0 where
  pub is : with_places next n ≡ with_tree_part w (pruned_tree w r k i)
  pub few : n ≤ i

module _ (w : Witness) (r : ℕ) (k : Kept) where
  abbrev parent_then : ℕ → Place
  parent_then p = place_then k (parent_in w r p)

  abbrev height_in : ℕ → Height
  height_in p = get_or w.heights p (height 0)

  pub tree-none : TreeTo w r k w 0 0
  unfolding pruned_tree picked flat_map
  tree-none = record { is = refl; few = omega arith }

  pub tree_all : {next : Witness} {n i count : ℕ} → i ≤ count → count ≤ i → TreeTo w r k next n i
      → with_places next n ≡ with_tree_part w (pruned_tree w r k count)
  tree_all low high so = so.is ∙ ap (λ (j : ℕ). with_tree_part w (pruned_tree w r k j)) (le_antisymm low high)

  module _ {next : Witness} {n i : ℕ} (so : TreeTo w r k next n i) where
    places_are : n ≡ rank (stays_at k) i
    unfolding pruned_tree
    places_are = ap (λ (v : Witness). v.checkpoint_count) so.is

    -- the parent that is looked up is as it was
    pub tree-parent : {q : ℕ} → q ≡ cond (eqb i r) r (get_or next.parents i (place 0)).0 → q ≡ parent_in w r i
    unfolding pruned_tree
    tree-parent e =
        e
        ∙ ap (λ (x : Place). cond (eqb i r) r x.0)
        (ap (λ (v : Witness). get_or v.parents i (place 0)) so.is
        ∙ compacted-unread (stays_at k) parent_then w.parents i (place 0))

    -- a turn: the checkpoint at i is moved to the front, or passed over; `last` and `m` are the state and the number
    -- then
    module _ {last : Witness} {m : ℕ} where
      pub tree-keep : (sized : SizedTree (tree_part w)) {names : List ℕ} {q : ℕ}
          → i < checkpoint_limit
          → stays_at k i ≡ true
          → names ≡ paste next.names (n * 32) (drop (i * 32) next.names) 32
          → q ≡ cond (eqb i r) r (get_or next.parents i (place 0)).0
          → last
          ≡ with_tree_part next
          (record {
            names = names;
            parents = set next.parents n (place_then k q);
            heights = set next.heights n (get_or next.heights i (height 0));
            count = next.checkpoint_count;
          })
          → m ≡ n + 1
          → TreeTo w r k last m (i + 1)
      unfolding pruned_tree
      tree-keep sized {names} {q} room e moved above to more =
          record {
            is =
                ap₂ with_places to more
                ∙ λ j.
                with_tree_part (so.is j)
                (record {
                  names = names_are j;
                  parents = parents_are j;
                  heights = heights_are j;
                  count = rank-kept (stays_at k) i n places_are e j;
                });
            few = omega (arith, so.few);
          }
        where
          names_are : names ≡ (pruned_tree w r k (i + 1)).names
          names_are =
              moved
              ∙ ap (λ (v : Witness). paste v.names (n * 32) (drop (i * 32) v.names) 32) so.is
              ∙ names-keep (stays_at k) w.names i n places_are (omega (arith, sized.names)) e

          parents_are : set next.parents n (place_then k q) ≡ (pruned_tree w r k (i + 1)).parents
          parents_are =
              ap₂ (λ (v : Witness) (x : ℕ). set v.parents n (place_then k x)) so.is (tree-parent above)
              ∙ compacted-keep (stays_at k) parent_then w.parents i n places_are (omega (arith, sized.parents)) e

          heights_are : set next.heights n (get_or next.heights i (height 0)) ≡ (pruned_tree w r k (i + 1)).heights
          heights_are =
              ap (λ (v : Witness). set v.heights n (get_or v.heights i (height 0))) so.is
              ∙ ap (set (pruned_tree w r k i).heights n)
              (compacted-unread (stays_at k) height_in w.heights i (height 0))
              ∙ compacted-keep (stays_at k) height_in w.heights i n places_are (omega (arith, sized.heights)) e

      pub tree-drop : stays_at k i ≡ false → last ≡ next → m ≡ n → TreeTo w r k last m (i + 1)
      unfolding pruned_tree
      tree-drop e to more =
          record {
            is =
                ap₂ with_places to more
                ∙ so.is
                ∙ λ j.
                with_tree_part w
                (record {
                  names = names-drop (stays_at k) w.names i e j;
                  parents = compacted-drop (stays_at k) parent_then w.parents i e j;
                  heights = compacted-drop (stays_at k) height_in w.heights i e j;
                  count = rank-passed (stays_at k) i e j;
                });
            few = omega (arith, so.few);
          }

-- ---- the votes

-- a state with n votes counted
abbrev pub with_votes : Witness → ℕ → Witness
with_votes w n = with_vote_part w (record { voters = w.voters; sources = w.sources; targets = w.targets; count = n })

-- the first i votes of w are looked at: next holds the n of them that stay in front
pub record VotesTo (w : Witness) (k : Kept) (next : Witness) (n i : ℕ) : Type 0 where
  pub is : with_votes next n ≡ with_vote_part w (pruned_votes w k i)
  pub few : n ≤ i

module _ (w : Witness) (k : Kept) where
  abbrev voter_in : ℕ → ℕ
  voter_in j = get_or w.voters j 0

  -- an entry of sources or of targets, as it is then
  abbrev entry_then : List Place → ℕ → Place
  entry_then ps j = place_then k (get_or ps j (place 0)).0

  pub votes-none : VotesTo w k w 0 0
  unfolding pruned_votes picked
  votes-none = record { is = refl; few = omega arith }

  pub votes-all : {next : Witness} {n i count : ℕ} → i ≤ count → count ≤ i → VotesTo w k next n i
      → with_votes next n ≡ with_vote_part w (pruned_votes w k count)
  votes-all low high so = so.is ∙ ap (λ (j : ℕ). with_vote_part w (pruned_votes w k j)) (le_antisymm low high)

  module _ {next : Witness} {n i : ℕ} (so : VotesTo w k next n i) where
    votes_are : n ≡ rank (vote_stays w k) i
    unfolding pruned_votes
    votes_are = ap (λ (v : Witness). v.vote_count) so.is

    -- the vote that is looked at is as it was

    pub vote-source : get_or next.sources i (place 0) ≡ get_or w.sources i (place 0)
    unfolding pruned_votes
    vote-source =
        ap (λ (v : Witness). get_or v.sources i (place 0)) so.is
        ∙ compacted-unread (vote_stays w k) (entry_then w.sources) w.sources i (place 0)

    pub vote-target : get_or next.targets i (place 0) ≡ get_or w.targets i (place 0)
    unfolding pruned_votes
    vote-target =
        ap (λ (v : Witness). get_or v.targets i (place 0)) so.is
        ∙ compacted-unread (vote_stays w k) (entry_then w.targets) w.targets i (place 0)

    tested : (b : Bool) → vote_stays next k i ≡ b → vote_stays w k i ≡ b
    tested b e = sym (ap₂ (λ (s t : Place). stays_at k s.0 && stays_at k t.0) vote-source vote-target) ∙ e

    -- a turn, as above
    module _ {last : Witness} {m : ℕ} where
      pub votes-keep : (sized : SizedVotes (vote_part w)) → i < vote_limit → vote_stays next k i ≡ true
          → last
          ≡ with_vote_part next
          (record {
            voters = set next.voters n (get_or next.voters i 0);
            sources = set next.sources n (entry_then next.sources i);
            targets = set next.targets n (entry_then next.targets i);
            count = next.vote_count;
          })
          → m ≡ n + 1
          → VotesTo w k last m (i + 1)
      unfolding pruned_votes
      votes-keep sized room stays to more =
          record {
            is =
                ap₂ with_votes to more
                ∙ λ j.
                with_vote_part (so.is j)
                (record {
                  voters = voters_are j;
                  sources = sources_are j;
                  targets = targets_are j;
                  count = rank-kept (vote_stays w k) i n votes_are e j;
                });
            few = omega (arith, so.few);
          }
        where
          e : vote_stays w k i ≡ true
          e = tested true stays

          voters_are : set next.voters n (get_or next.voters i 0) ≡ (pruned_votes w k (i + 1)).voters
          voters_are =
              ap (λ (v : Witness). set v.voters n (get_or v.voters i 0)) so.is
              ∙ ap (set (pruned_votes w k i).voters n) (compacted-unread (vote_stays w k) voter_in w.voters i 0)
              ∙ compacted-keep (vote_stays w k) voter_in w.voters i n votes_are (omega (arith, sized.voters)) e

          sources_are : set next.sources n (entry_then next.sources i) ≡ (pruned_votes w k (i + 1)).sources
          sources_are =
              ap₂ (λ (v : Witness) (x : Place). set v.sources n (place_then k x.0)) so.is vote-source
              ∙ compacted-keep (vote_stays w k) (entry_then w.sources) w.sources i n votes_are
              (omega (arith, sized.sources)) e

          targets_are : set next.targets n (entry_then next.targets i) ≡ (pruned_votes w k (i + 1)).targets
          targets_are =
              ap₂ (λ (v : Witness) (x : Place). set v.targets n (place_then k x.0)) so.is vote-target
              ∙ compacted-keep (vote_stays w k) (entry_then w.targets) w.targets i n votes_are
              (omega (arith, sized.targets)) e

      pub votes-drop : vote_stays next k i ≡ false → last ≡ next → m ≡ n → VotesTo w k last m (i + 1)
      unfolding pruned_votes
      votes-drop drops to more =
          let e = tested false drops in
          record {
            is =
                ap₂ with_votes to more
                ∙ so.is
                ∙ λ j.
                with_vote_part w
                (record {
                  voters = compacted-drop (vote_stays w k) voter_in w.voters i e j;
                  sources = compacted-drop (vote_stays w k) (entry_then w.sources) w.sources i e j;
                  targets = compacted-drop (vote_stays w k) (entry_then w.targets) w.targets i e j;
                  count = rank-passed (vote_stays w k) i e j;
                });
            few = omega (arith, so.few);
          }
