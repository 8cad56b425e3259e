-- What is held while a log is read on: the witness, and beside it its votes' numbers in chains.
use Rattle.std.specs.Prelude.{ℕ, ◌<◌, ◌≡◌, List, take, ◌++◌}
use Rattle.model.specs.Answer.{Answer}
use Rattle.model.specs.Change.{Decision, together}
use Rattle.model.specs.Decide.{bundle_ids}
use Rattle.model.specs.Model.{Link}
use Rattle.search.specs.Chains.{Indexed}
use Rattle.search.specs.declared.Links.{Links}
use Rattle.state.specs.State.{model_of, stored}
use Rattle.state.specs.Tables.{KeysHeld}
use Rattle.state.specs.declared.Witness.{Witness}
use Rattle.ballots.specs.declared.view.View.{View}
use Rattle.registry.specs.Decision.{cast_each}
use Rattle.entries.specs.Entries.{entries_of, Written}

-- a view of what is held: the front of each table, but all of the names
pub record IsView (w : Witness) (v : View) : Type 0 where
  pub ids : v.ids.now ≡ take w.member_count w.ids
  pub names : v.names.now ≡ w.names
  pub parents : v.parents.now ≡ take w.checkpoint_count w.parents
  pub heights : v.heights.now ≡ take w.checkpoint_count w.heights
  pub numbers : v.numbers ≡ w.numbers
  pub votes : v.votes ≡ w.vote_count

-- the numbers are those of the votes held
pub record Searched (w : Witness) (links : Links) : Type 0 where
  pub indexed : Indexed w.vote_count links.numbers links.heads links.nexts
  pub votes : KeysHeld (model_of w) links.numbers w.vote_count

-- what is decided on the votes of a bundle with these bits
abbrev pub bundle_cast : Witness → Answer Link → List ℕ → Decision
bundle_cast w l bits = together (cast_each (model_of w) l (bundle_ids (model_of w) bits))

-- what was decided is held, and the entries of what is told stand from `used` on
pub record Stores (w : Witness) (d : Decision) (before : List ℕ) (used : ℕ) (rows : List ℕ) (held : Witness) (links : Links) (end : ℕ) : Type 0 where
  pub all-stored : held ≡ stored w d
  pub searched : Searched held links
  pub all-written : Written (take used before ++ entries_of d.told) before rows end
  pub past : used < end
