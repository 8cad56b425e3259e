-- The arrays of a state of which only some entries stay, as far as they are looked at: what stays stands in front, in
-- order, with the places that are counted anew.
use Rattle.std.specs.Prelude.{ℕ, ◌*◌, ◌<◌, ◌≤◌, ◌≡◌, Bool, true, false, cond, ◌&&◌, eqb, length, get_or}
use mathlib.Core.List.{map, flat_map}
use Rattle.model.specs.Bytes.{part}
use Rattle.model.specs.Limits.{checkpoint_limit, vote_limit}
use Rattle.model.specs.Lists.{picked}
use Rattle.model.specs.declared.Place.{Place}
use Rattle.state.specs.State.{TreePart, VotePart, place, height, front}
use Rattle.state.specs.declared.Witness.{Witness}
use Rattle.pruning.specs.declared.Kept.{Kept}

-- whether a place stays, and the place it is then

abbrev pub stays_at : Kept → ℕ → Bool
stays_at k p = get_or k.stays p false

abbrev pub place_then : Kept → ℕ → Place
place_then k p = get_or k.anew p (place 0)

-- the place of p's parent; r has none, and stands for it: counted anew it is 0
abbrev pub parent_in : Witness → ℕ → ℕ → ℕ
parent_in w r p = cond (eqb p r) r (get_or w.parents p (place 0)).0

-- a vote stays if both its places do
abbrev pub vote_stays : Witness → Kept → ℕ → Bool
vote_stays w k j =
    stays_at k (get_or w.sources j (place 0)).0 && stays_at k (get_or w.targets j (place 0)).0

-- what pruning counts on: no more are held than fit, and each place that is looked up is one of the first 512

pub record TreeFits (w : Witness) (r : ℕ) (k : Kept) : Type 0 where
  pub few : w.checkpoint_count ≤ checkpoint_limit
  pub parents : (p : ℕ) → p < w.checkpoint_count → stays_at k p ≡ true → parent_in w r p < checkpoint_limit

pub record VotesFit (w : Witness) : Type 0 where
  pub few : w.vote_count ≤ vote_limit
  pub sources : (j : ℕ) → j < w.vote_count → (get_or w.sources j (place 0)).0 < checkpoint_limit
  pub targets : (j : ℕ) → j < w.vote_count → (get_or w.targets j (place 0)).0 < checkpoint_limit

-- of the first i checkpoints, and of the first i votes

unfoldable pub pruned_tree : Witness → ℕ → Kept → ℕ → TreePart
pruned_tree w r k i =
    let ps = picked (stays_at k) i in
    record {
      names = front (flat_map (λ p. part (p * 32) 32 w.names) ps) w.names;
      parents = front (map (λ p. place_then k (parent_in w r p)) ps) w.parents;
      heights = front (map (λ p. get_or w.heights p (height 0)) ps) w.heights;
      count = length ps;
    }

unfoldable pub pruned_votes : Witness → Kept → ℕ → VotePart
pruned_votes w k i =
    let js = picked (vote_stays w k) i in
    record {
      voters = front (map (λ j. get_or w.voters j 0) js) w.voters;
      sources = front (map (λ j. place_then k (get_or w.sources j (place 0)).0) js) w.sources;
      targets = front (map (λ j. place_then k (get_or w.targets j (place 0)).0) js) w.targets;
      count = length js;
    }
