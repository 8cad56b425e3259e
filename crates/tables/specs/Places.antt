-- The held places and heights, arrays of `Place` and of `Height`, read at an index; and what they hold of tree and votes.
use Rattle.std.specs.Prelude.{ℕ, ◌+◌, ◌<◌, List, [], Bool, ◌&&◌, ◌||◌, eqb, ltb, get_or, take}
use Rattle.model.specs.declared.Place.{Place}
use Rattle.model.specs.declared.Height.{Height}
use Rattle.model.specs.Lists.{tabulate, first_index}
use Rattle.model.specs.Model.{Checkpoint}
use Rattle.model.specs.Tree.{ancestor?}

-- the place at an index; 0 past the end
abbrev pub place_at : List Place → ℕ → ℕ
place_at ps i = (get_or ps i (record { 0 = 0 })).0

-- the height at an index; 0 past the end
abbrev pub height_at : List Height → ℕ → ℕ
height_at hs i = (get_or hs i (record { 0 = 0 })).0

-- each of the first `count` checkpoints but the root has its parent at a smaller place
abbrev pub Falling : ℕ → List Place → Type 0
Falling count parents = (i : ℕ) → 0 < i → i < count → place_at parents i < i

-- the tree of `count` checkpoints with these parents, with neither names nor heights: ancestors depend on no more
unfoldable pub tree_of : ℕ → List Place → List Checkpoint
tree_of count parents = tabulate count (λ i. record { name = []; parent = place_at parents i; height = 0 })

-- whether the i-th checkpoint is the root, or stands one higher than its parent, which is at a smaller place
abbrev pub is_step : List Place → List Height → ℕ → Bool
is_step parents heights i = eqb i 0 || (ltb (place_at parents i) i && eqb (height_at heights i) (height_at heights (place_at parents i) + 1))

-- whether the k-th vote is the vote s → t of the member `id`
abbrev pub is_vote : List ℕ → List Place → List Place → ℕ → ℕ → ℕ → ℕ → Bool
is_vote voters sources targets id s t k = eqb (get_or voters k 0) id && eqb (place_at sources k) s && eqb (place_at targets k) t

-- whether the vote s → t of the member `id` is of a held member, between held places, from an ancestor
abbrev pub is_sound : ℕ → List ℕ → ℕ → List Place → ℕ → ℕ → ℕ → Bool
is_sound members ids checkpoints parents id s t =
    ltb (first_index (λ x. eqb x id) (take members ids)) members
    && ltb s checkpoints
    && ltb t checkpoints
    && ancestor? (tree_of checkpoints parents) s t
