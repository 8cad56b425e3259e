-- A root that was moved up: the arrays, with what stays in front, hold the moved model.
use Prim.Native.Nat.{ℕ, zero, suc, ◌+◌, ◌*◌, ◌<◌, ◌≤◌}
use native.Mathlib.Omega.{arith}
use mathlib.Core.Path.{◌≡◌, refl, ap, ap₂, ◌∙◌}
use mathlib.Core.List.{List, [], ◌∷◌, ◌++◌, map, flat_map, append_assoc}
use lib.ListN.{length, get_or, drop, take, length-map, length-append, length-take, length-drop, get_or-append}
use lib.ListN.{get_or-map}
use lib.Seq.{take_at, drop-append-add}
use Rattle.model.specs.Bytes.{part}
use Rattle.model.specs.Change.{append, move_root}
use Rattle.model.specs.Limits.{checkpoint_limit, vote_limit}
use Rattle.model.specs.Lists.{tabulate, All, none, each}
use Rattle.model.specs.Model.{Model, Checkpoint, Vote, checkpoint_at, no_checkpoint, no_vote, with_checkpoints, with_votes}
use Rattle.model.specs.Move.{kept?, kept_places, moved_checkpoint, moved}
use Rattle.model.proofs.Fits.{fewer_votes}
use Rattle.model.proofs.Lists.{all_map, all_mapped, tabulate-list}
use Rattle.model.proofs.Picked.{picked-below, rank_le}
use Rattle.state.specs.declared.Witness.{Witness}
use Rattle.state.specs.Sound.{Typed}
use Rattle.state.specs.State.{place, height, front, model_of, checkpoint_in, vote_in, with_root}
use Rattle.state.proofs.Entries.{count-checkpoints, checkpoint-is}

-- ---- names of 32 bytes, one after another

abbrev Named : Checkpoint → Type 0
Named c = length c.name ≡ 32

abbrev name_of : Checkpoint → List ℕ
name_of c = c.name

names-long : (cs : List Checkpoint) → All Named cs → length (flat_map name_of cs) ≡ 32 * length cs
unfolding flat_map
names-long [] none = refl
names-long (c ∷ cs) (each h hs) = length-append c.name (flat_map name_of cs) ∙ omega (arith, names-long cs hs)

name-at : (cs : List Checkpoint) (rest : List ℕ) → All Named cs → (i : ℕ) → i < length cs
    → part (i * 32) 32 (flat_map name_of cs ++ rest) ≡ (get_or cs i no_checkpoint).name
unfolding flat_map
name-at [] rest none i l = absurd (omega arith)
name-at (c ∷ cs) rest (each h hs) zero l =
    ap (take 32) (append_assoc c.name (flat_map name_of cs) rest) ∙ take_at c.name (flat_map name_of cs ++ rest) 32 h
name-at (c ∷ cs) rest (each h hs) (suc i) l =
    let at : suc i * 32 ≡ length c.name + i * 32 = omega arith in
    ap₂ (λ (k : ℕ) (l : List ℕ). part k 32 l) at (append_assoc c.name (flat_map name_of cs) rest)
    ∙ ap (take 32) (drop-append-add c.name (flat_map name_of cs ++ rest) (i * 32))
    ∙ name-at cs rest hs i (omega arith)

-- ---- an array with a list in front

front_long : {A : Type 0} (xs array : List A) → length xs ≤ length array → length (front xs array) ≡ length array
front_long xs array fits = length-append xs (drop (length xs) array) ∙ omega (arith, length-drop (length xs) array)

module _ {A B : Type 0} (f : A → B) (xs : List A) (array : List B) where
  mapped_long : length xs ≤ length array → length (front (map f xs) array) ≡ length array
  mapped_long fits = front_long (map f xs) array (omega (arith, length-map xs f))

  mapped_at : (d : A) (i : ℕ) → i < length xs → get_or (front (map f xs) array) i (f d) ≡ f (get_or xs i d)
  mapped_at d i h =
      get_or-append (map f xs) (drop (length (map f xs)) array) (f d) i (omega (arith, length-map xs f))
      ∙ get_or-map f xs i d

module _ (w : Witness) (typed : Typed w) (r : ℕ) where
  abbrev m : Model
  m = model_of w

  abbrev b : Model
  b = moved (model_of w) r

  module _ (few : length (model_of w).checkpoints ≤ checkpoint_limit) where
    held-named : (p : ℕ) → p < length (model_of w).checkpoints → Named (checkpoint_at (model_of w).checkpoints p)
    held-named p h =
        let inside : p < w.checkpoint_count = omega (arith, count-checkpoints w) in
        ap (λ (c : Checkpoint). length c.name) (checkpoint-is w p inside)
        ∙ length-take 32 (drop (p * 32) w.names)
        ∙ omega (arith, length-drop (p * 32) w.names, typed.tree.names, count-checkpoints w)

    moved_named : All Named b.checkpoints
    unfolding moved
    moved_named =
        all_mapped Named (moved_checkpoint m.checkpoints r)
        (all_map (λ p h. held-named p h) (picked-below (kept? m.checkpoints r) (length m.checkpoints)))

    fewer_checkpoints : length b.checkpoints ≤ checkpoint_limit
    unfolding moved
    fewer_checkpoints =
        omega (
          arith,
          length-map (kept_places m r) (moved_checkpoint m.checkpoints r),
          rank_le (kept? m.checkpoints r) (length m.checkpoints),
        )

    checkpoints-moved : tabulate (length b.checkpoints) (checkpoint_in (with_root w r)) ≡ b.checkpoints
    unfolding with_root
    checkpoints-moved =
        tabulate-list (checkpoint_in (with_root w r)) no_checkpoint b.checkpoints λ i h j.
        let cs = b.checkpoints in
        record {
          name = name-at cs (drop (length (flat_map name_of cs)) w.names) moved_named i h j;
          parent = (mapped_at (λ (c : Checkpoint). place c.parent) cs w.parents no_checkpoint i h j).0;
          height = (mapped_at (λ (c : Checkpoint). height c.height) cs w.heights no_checkpoint i h j).0;
        }

  votes-moved : tabulate (length b.votes) (vote_in (with_root w r)) ≡ b.votes
  unfolding with_root
  votes-moved =
      tabulate-list (vote_in (with_root w r)) no_vote b.votes λ i h j.
      record {
        voter = mapped_at (λ (v : Vote). v.voter) b.votes w.voters no_vote i h j;
        source = (mapped_at (λ (v : Vote). place v.source) b.votes w.sources no_vote i h j).0;
        target = (mapped_at (λ (v : Vote). place v.target) b.votes w.targets no_vote i h j).0;
      }

  module _ (few : length (model_of w).checkpoints ≤ checkpoint_limit)
      (few-votes : length (model_of w).votes ≤ vote_limit) where
    pub store-root : model_of (with_root w r) ≡ append (model_of w) (move_root r)
    unfolding model_of with_root moved append
    store-root i = with_votes (with_checkpoints (model_of w) (checkpoints-moved few i)) (votes-moved i)

    pub root-typed : Typed (with_root w r)
    unfolding with_root
    root-typed =
        let fit : length b.checkpoints ≤ checkpoint_limit = fewer_checkpoints few in
        let votes-fit : length b.votes ≤ vote_limit = omega (arith, fewer_votes (model_of w) r) in
        let t = typed.tree in
        let v = typed.votes in
        record {
          members = typed.members;
          tree =
              record {
                names =
                    front_long (flat_map name_of b.checkpoints) w.names
                    (omega (arith, names-long b.checkpoints (moved_named few), fit, t.names))
                    ∙ t.names;
                parents =
                    mapped_long (λ (c : Checkpoint). place c.parent) b.checkpoints w.parents
                    (omega (arith, fit, t.parents))
                    ∙ t.parents;
                heights =
                    mapped_long (λ (c : Checkpoint). height c.height) b.checkpoints w.heights
                    (omega (arith, fit, t.heights))
                    ∙ t.heights;
              };
          votes =
              record {
                voters =
                    mapped_long (λ (x : Vote). x.voter) b.votes w.voters (omega (arith, votes-fit, v.voters))
                    ∙ v.voters;
                sources =
                    mapped_long (λ (x : Vote). place x.source) b.votes w.sources
                    (omega (arith, votes-fit, v.sources))
                    ∙ v.sources;
                targets =
                    mapped_long (λ (x : Vote). place x.target) b.votes w.targets
                    (omega (arith, votes-fit, v.targets))
                    ∙ v.targets;
              };
          ids = typed.ids;
        }
