-- The model that a witness holds, and the witness with something more, or with its root moved up.
use Rattle.std.specs.Prelude.{ℕ, ◌+◌, ◌*◌, cond, ◌&&◌, eqb, length, get_or, set, drop, replicate}
use mathlib.Core.List.{List, [], ◌∷◌, ◌++◌, map, flat_map}
use Rattle.std.proofs.Math.Seq.{paste}
use Rattle.model.specs.Bytes.{part}
use Rattle.model.specs.Change.{Change, add_member, add_checkpoint, add_vote, give_quota, move_root, Decision}
use Rattle.model.specs.Limits.{member_limit, checkpoint_limit, vote_limit}
use Rattle.model.specs.Lists.{tabulate}
use Rattle.model.specs.Model.{Member, Checkpoint, Vote, Model}
use Rattle.model.specs.Move.{moved}
use Rattle.model.specs.Rule.{Rule, standard, given}
use Rattle.model.specs.declared.Quota.{Quota}
use Rattle.model.specs.declared.Place.{Place}
use Rattle.model.specs.declared.Height.{Height}
use Rattle.state.specs.declared.Numbers.{Numbers}
use Rattle.state.specs.declared.Witness.{Witness}

abbrev pub place : ℕ → Place
place n = record { 0 = n }

abbrev pub height : ℕ → Height
height n = record { 0 = n }

-- the i-th entries

abbrev pub member_in : Witness → ℕ → Member
member_in w i = record { id = get_or w.ids i 0; bond = get_or w.bonds i 0 }

abbrev pub checkpoint_in : Witness → ℕ → Checkpoint
checkpoint_in w i = record { name = part (i * 32) 32 w.names; parent = (get_or w.parents i (place 0)).0; height = (get_or w.heights i (height 0)).0 }

abbrev pub vote_in : Witness → ℕ → Vote
vote_in w i = record { voter = get_or w.voters i 0; source = (get_or w.sources i (place 0)).0; target = (get_or w.targets i (place 0)).0 }

-- the rule by p and q: where both are 0, none was given
unfoldable pub rule_of : Quota → Rule
rule_of k = cond (eqb k.p 0 && eqb k.q 0) standard (given k)

abbrev pub quota_in : Numbers → Quota
quota_in n = record { p = n.p; q = n.q }

-- the model: the rule, and of each array the first so many entries as its count says
unfoldable pub model_of : Witness → Model
model_of w =
    record {
      rule = rule_of (quota_in w.numbers);
      members = tabulate w.member_count (member_in w);
      checkpoints = tabulate w.checkpoint_count (checkpoint_in w);
      votes = tabulate w.vote_count (vote_in w);
    }

-- three parts of a state, each with the count of what it holds; beside them stand the numbers

pub record MemberPart : Type 0 where
  pub ids : List ℕ
  pub bonds : List ℕ
  pub count : ℕ

pub record TreePart : Type 0 where
  pub names : List ℕ
  pub parents : List Place
  pub heights : List Height
  pub count : ℕ

pub record VotePart : Type 0 where
  pub voters : List ℕ
  pub sources : List Place
  pub targets : List Place
  pub count : ℕ

abbrev pub member_part : Witness → MemberPart
member_part w = record { ids = w.ids; bonds = w.bonds; count = w.member_count }

abbrev pub tree_part : Witness → TreePart
tree_part w = record { names = w.names; parents = w.parents; heights = w.heights; count = w.checkpoint_count }

abbrev pub vote_part : Witness → VotePart
vote_part w = record { voters = w.voters; sources = w.sources; targets = w.targets; count = w.vote_count }

abbrev pub witness_of : MemberPart → TreePart → VotePart → Numbers → Witness
witness_of m t v n =
    record {
      ids = m.ids;
      bonds = m.bonds;
      names = t.names;
      parents = t.parents;
      heights = t.heights;
      voters = v.voters;
      sources = v.sources;
      targets = v.targets;
      member_count = m.count;
      checkpoint_count = t.count;
      vote_count = v.count;
      numbers = n;
    }

-- a state with another part, or other numbers

abbrev pub with_member_part : Witness → MemberPart → Witness
with_member_part w p = witness_of p (tree_part w) (vote_part w) w.numbers

abbrev pub with_tree_part : Witness → TreePart → Witness
with_tree_part w p = witness_of (member_part w) p (vote_part w) w.numbers

abbrev pub with_vote_part : Witness → VotePart → Witness
with_vote_part w p = witness_of (member_part w) (tree_part w) p w.numbers

abbrev pub with_numbers : Witness → Numbers → Witness
with_numbers w n = witness_of (member_part w) (tree_part w) (vote_part w) n

-- one more of each, at the end; the array's later entries stay as they are

unfoldable pub with_member : Witness → Member → Witness
with_member w x =
    let n = w.member_count in
    with_member_part w (record { ids = set w.ids n x.id; bonds = set w.bonds n x.bond; count = n + 1 })

unfoldable pub with_checkpoint : Witness → Checkpoint → Witness
with_checkpoint w c =
    let n = w.checkpoint_count in
    with_tree_part w
    (record {
      names = paste w.names (n * 32) c.name 32;
      parents = set w.parents n (place c.parent);
      heights = set w.heights n (height c.height);
      count = n + 1;
    })

unfoldable pub with_vote : Witness → Vote → Witness
with_vote w v =
    let n = w.vote_count in
    with_vote_part w
    (record {
      voters = set w.voters n v.voter;
      sources = set w.sources n (place v.source);
      targets = set w.targets n (place v.target);
      count = n + 1;
    })

-- the quota that a record gave
unfoldable pub with_quota : Witness → Quota → Witness
with_quota w k = with_numbers w (record { p = k.p; q = k.q })

-- a list at the front of an array; what stands past it is as it was
abbrev pub front : {A : Type 0} → List A → List A → List A
front xs array = xs ++ drop (length xs) array

-- a root that was moved up: the checkpoints and votes that stay, in front
unfoldable pub with_root : Witness → ℕ → Witness
with_root w r =
    let m = moved (model_of w) r in
    witness_of (member_part w)
    (record {
      names = front (flat_map (λ (c : Checkpoint). c.name) m.checkpoints) w.names;
      parents = front (map (λ (c : Checkpoint). place c.parent) m.checkpoints) w.parents;
      heights = front (map (λ (c : Checkpoint). height c.height) m.checkpoints) w.heights;
      count = length m.checkpoints;
    })
    (record {
      voters = front (map (λ (v : Vote). v.voter) m.votes) w.voters;
      sources = front (map (λ (v : Vote). place v.source) m.votes) w.sources;
      targets = front (map (λ (v : Vote). place v.target) m.votes) w.targets;
      count = length m.votes;
    })
    w.numbers

-- a change, stored
unfoldable pub store : Witness → Change → Witness
store w (add_member x) = with_member w x
store w (add_checkpoint c) = with_checkpoint w c
store w (add_vote v) = with_vote w v
store w (give_quota k) = with_quota w k
store w (move_root r) = with_root w r

unfoldable pub store_all : Witness → List Change → Witness
store_all w [] = w
store_all w (c ∷ cs) = store_all (store w c) cs

-- what was decided, stored
abbrev pub stored : Witness → Decision → Witness
stored w d = store_all w d.changes

-- "A right header begins an empty witness with that root."
unfoldable pub empty_witness : List ℕ → Witness
empty_witness name =
    witness_of (record { ids = replicate member_limit 0; bonds = replicate member_limit 0; count = 0 })
    (record {
      names = paste (replicate (32 * checkpoint_limit) 0) 0 name 32;
      parents = replicate checkpoint_limit (place 0);
      heights = replicate checkpoint_limit (height 0);
      count = 1;
    })
    (record {
      voters = replicate vote_limit 0;
      sources = replicate vote_limit (place 0);
      targets = replicate vote_limit (place 0);
      count = 0;
    })
    (record { p = 0; q = 0 })
