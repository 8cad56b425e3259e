-- Row 40's parts, asked of the arrays of a state and of its counts; what it asks of the rule is `permitted?`.
use Rattle.std.specs.Prelude.{ℕ, ◌*◌, List, Bool, ◌&&◌, not, get_or, eqb, ltb, leb}
use Rattle.model.specs.Bytes.{part}
use Rattle.model.specs.Limits.{member_limit, checkpoint_limit, vote_limit, bond_limit, root_height_limit}
use Rattle.model.specs.Lists.{all_below, pair_below, same_bytes}
use Rattle.model.specs.declared.Height.{Height}
use Rattle.model.specs.declared.Place.{Place}
use Rattle.tables.specs.Places.{place_at, height_at, is_step, is_vote, is_sound}

-- how many members, checkpoints and votes
abbrev pub counts_pass : (members checkpoints votes : ℕ) → Bool
counts_pass members checkpoints votes =
    ltb 0 checkpoints && leb members member_limit && leb checkpoints checkpoint_limit && leb votes vote_limit

-- the bonds in range, no id twice
abbrev pub members_pass : (ids bonds : List ℕ) (count : ℕ) → Bool
members_pass ids bonds count =
    all_below count (λ i. ltb 0 (get_or bonds i 0) && leb (get_or bonds i 0) bond_limit)
    && not (pair_below count (λ i j. eqb (get_or ids i 0) (get_or ids j 0)))

-- the root's height, each step to a parent, no name twice
abbrev pub tree_passes : (names : List ℕ) (parents : List Place) (heights : List Height) (count : ℕ) → Bool
tree_passes names parents heights count =
    leb (height_at heights 0) root_height_limit
    && all_below count (λ i. is_step parents heights i)
    && not (pair_below count (λ i j. same_bytes (part (i * 32) 32 names) (part (j * 32) 32 names)))

-- each vote, none twice
abbrev pub votes_pass : (ids : List ℕ) (members : ℕ) (parents : List Place) (checkpoints : ℕ)
    → (voters : List ℕ) (sources targets : List Place) (count : ℕ)
    → Bool
votes_pass ids members parents checkpoints voters sources targets count =
    all_below count
    (λ k. is_sound members ids checkpoints parents (get_or voters k 0) (place_at sources k) (place_at targets k))
    && not
    (pair_below count
    (λ i j. is_vote voters sources targets (get_or voters j 0) (place_at sources j) (place_at targets j) i))
