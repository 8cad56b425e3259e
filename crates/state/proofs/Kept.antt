-- What storing changes leaves: the model with the changes made, and arrays of their types' lengths and ranges.
use Prim.Native.Nat.{ℕ, zero, suc, ◌*◌, ◌<◌, ◌^◌}
use native.Mathlib.Omega.{arith}
use mathlib.Core.Path.{◌≡◌, refl, sym, ap, ◌∙◌, subst}
use mathlib.Core.List.{List, [], ◌∷◌, ◌++◌}
use lib.ListN.{get_or, set, length-set}
use lib.Seq.{length-paste}
use Rattle.model.specs.Bytes.{AreBytes}
use Rattle.model.specs.Change.{Change, add_member, add_checkpoint, add_vote, give_quota, move_root, append}
use Rattle.model.specs.Change.{append_all}
use Rattle.model.specs.Decide.{decide}
use Rattle.model.specs.Model.{Model}
use Rattle.model.specs.Run.{Event, reading, OfBytes, decide_event}
use Rattle.model.specs.WellFormed.{WellFormed}
use Rattle.model.proofs.Fits.{Fits, FitAll, one_change, changes-fit, event-fits}
use Rattle.moves.proofs.Run.{event-good}
use Rattle.state.specs.declared.Witness.{Witness}
use Rattle.state.specs.Sound.{Typed, Sound}
use Rattle.state.specs.State.{model_of, with_member, with_checkpoint, with_vote, with_quota, store, store_all}
use Rattle.state.specs.State.{stored}
use Rattle.state.proofs.Entries.{count-members, count-checkpoints, count-votes}
use Rattle.state.proofs.Moved.{store-root, root-typed}
use Rattle.state.proofs.Store.{store-member, store-checkpoint, store-vote, store-quota}

pub record Kept (w : Witness) (cs : List Change) : Type 0 where
  pub model : model_of (store_all w cs) ≡ append_all (model_of w) cs
  pub typed : Typed (store_all w cs)

-- a bound on every element, past the end too, is kept by a store
set_below : (l : List ℕ) (k v n : ℕ) → v < n → ((i : ℕ) → get_or l i 0 < n) → (i : ℕ) → get_or (set l k v) i 0 < n
set_below [] k v n h old i = old i
set_below (x ∷ xs) zero v n h old zero = h
set_below (x ∷ xs) zero v n h old (suc i) = old (suc i)
set_below (x ∷ xs) (suc k) v n h old zero = old 0
set_below (x ∷ xs) (suc k) v n h old (suc i) = set_below xs k v n h (λ j. old (suc j)) i

-- one change that fits
module _ (w : Witness) (typed : Typed w) where
  store-model : (c : Change) → Fits (model_of w) c → model_of (store w c) ≡ append (model_of w) c
  unfolding store
  store-model (add_member x) (room, narrow) = store-member w typed.members x (omega (arith, count-members w))
  store-model (add_checkpoint c) (room, long) = store-checkpoint w typed.tree c (omega (arith, count-checkpoints w)) long
  store-model (add_vote v) room = store-vote w typed.votes v (omega (arith, count-votes w))
  store-model (give_quota k) ok = store-quota w k ok
  store-model (move_root r) (few, few-votes) = store-root w typed r few few-votes

  store-typed : (c : Change) → Fits (model_of w) c → Typed (store w c)
  unfolding store with_member with_checkpoint with_vote with_quota
  store-typed (add_member x) (room, narrow) =
      record {
        members = record { ids = length-set w.ids _ _ ∙ typed.members.ids; bonds = length-set w.bonds _ _ ∙ typed.members.bonds };
        tree = typed.tree;
        votes = typed.votes;
        ids = set_below w.ids w.member_count x.id (2 ^ 16) narrow typed.ids;
      }
  store-typed (add_checkpoint c) (room, long) =
      let n = w.checkpoint_count in
      let names = typed.tree.names in
      record {
        members = typed.members;
        tree =
            record {
              names = length-paste w.names (n * 32) c.name 32 (omega (arith, names, count-checkpoints w)) (omega arith) ∙ names;
              parents = length-set w.parents _ _ ∙ typed.tree.parents;
              heights = length-set w.heights _ _ ∙ typed.tree.heights;
            };
        votes = typed.votes;
        ids = typed.ids;
      }
  store-typed (add_vote v) room =
      record {
        members = typed.members;
        tree = typed.tree;
        votes =
            record {
              voters = length-set w.voters _ _ ∙ typed.votes.voters;
              sources = length-set w.sources _ _ ∙ typed.votes.sources;
              targets = length-set w.targets _ _ ∙ typed.votes.targets;
            };
        ids = typed.ids;
      }
  store-typed (give_quota k) ok =
      record { members = typed.members; tree = typed.tree; votes = typed.votes; ids = typed.ids }
  store-typed (move_root r) (few, few-votes) = root-typed w typed r few few-votes

-- and changes that fit one after the other
pub changes-kept : (w : Witness) → Typed w → (cs : List Change) → FitAll (model_of w) cs → Kept w cs
unfolding store_all append_all
changes-kept w typed [] fit = record { model = refl; typed = typed }
changes-kept w typed (c ∷ cs) (one_change fits later) =
    let same = store-model w typed c fits in
    let rest = changes-kept (store w c) (store-typed w typed c fits) cs (subst (λ (m : Model). FitAll m cs) (sym same) later) in
    record { model = rest.model ∙ ap (λ (m : Model). append_all m cs) same; typed = rest.typed }

-- changes stored one after another
pub store_both : (w : Witness) (xs ys : List Change) → store_all w (xs ++ ys) ≡ store_all (store_all w xs) ys
unfolding store_all
store_both w [] ys = refl
store_both w (x ∷ xs) ys = store_both (store w x) xs ys

-- what is read consists of bytes, and is added to what is held
pub reading-kept : (w : Witness) → Typed w → (s : List ℕ) → AreBytes s → Kept w (decide (model_of w) s).changes
reading-kept w typed s bytes = changes-kept w typed _ (changes-fit (model_of w) s bytes)

pub event-kept : (w : Witness) → Sound w → (e : Event) → OfBytes e → Kept w (decide_event (model_of w) e).changes
event-kept w sound e bytes = changes-kept w sound.typed _ (event-fits (model_of w) sound.good e bytes)

-- and a sound witness stays sound
pub event-sound : (w : Witness) → Sound w → (e : Event) → OfBytes e → Sound (stored w (decide_event (model_of w) e))
event-sound w sound e bytes =
    let kept = event-kept w sound e bytes in
    record { typed = kept.typed; good = subst (λ (m : Model). WellFormed m) (sym kept.model) (event-good (model_of w) sound.good e bytes) }

pub reading-sound : (w : Witness) → Sound w → (s : List ℕ) → AreBytes s → Sound (stored w (decide (model_of w) s))
unfolding decide_event
reading-sound w sound s bytes = event-sound w sound (reading s) bytes
