-- What the rows' leaves rely on: each checkpoint has a name, a parent and a height, there is a root, parents stand at
-- smaller places, a child's height fits, and the votes' numbers are in chains. The tables of a sound witness, with its
-- votes' numbers, are so.
use Rattle.std.specs.Prelude.{ℕ, ◌*◌, ◌<◌, ◌≤◌, ◌≡◌, List, length}
use Rattle.model.specs.Limits.{checkpoint_limit, vote_limit}
use Rattle.model.specs.Model.{Model}
use Rattle.search.specs.Chains.{Indexed}
use Rattle.search.specs.declared.Links.{Links}
use Rattle.tables.specs.Places.{Falling}
use Rattle.state.specs.Tables.{Low, Held}
use Rattle.ballots.specs.declared.view.View.{View}

-- what is asked of the checkpoints by whoever looks for a name
pub record FitNames (names : List ℕ) (n : ℕ) : Type 0 where
  pub names-long : 32 * n ≤ length names
  pub checkpoints-fit : n ≤ checkpoint_limit

-- by whoever looks for a link
pub record FitLink (v : View) : Type 0 where
  pub named : FitNames v.names.now (length v.parents.now)
  pub heights-long : length v.heights.now ≡ length v.parents.now
  pub falling : Falling (length v.parents.now) v.parents.now

-- and of the tree that they are
pub record FitTree (v : View) : Type 0 where
  pub rooted : 0 < length v.parents.now
  pub linked : FitLink v
  pub low : Low (length v.parents.now) v.heights.now

-- what is asked of the votes' numbers
pub record FitVotes (votes : ℕ) (links : Links) : Type 0 where
  pub votes-fit : votes ≤ vote_limit
  pub indexed : Indexed votes links.numbers links.heads links.nexts

pub record Fit (v : View) (links : Links) : Type 0 where
  pub tree : FitTree v
  pub votes : FitVotes v.votes links

-- the tables, and the votes' numbers, hold a model
abbrev pub HeldIn : Model → View → Links → Type 0
HeldIn m v links =
    Held m (length v.ids.now) (length v.parents.now) v.votes v.ids.now v.names.now v.parents.now v.heights.now
    links.numbers
