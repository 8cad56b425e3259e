-- Storing what was decided adds exactly that to the model.
use Prim.Native.Nat.{ℕ, ◌+◌, ◌*◌, ◌<◌, ◌≤◌}
use native.Mathlib.Omega.{arith}
use native.Mathlib.Numerals.{add-one}
use mathlib.Core.Path.{◌≡◌, sym, ap, ap₂, ◌∙◌}
use mathlib.Core.List.{List, [], ◌∷◌, ◌++◌, map, append_assoc}
use lib.ListN.{length, get_or, set, take, drop, length-map, length-drop, take-append-drop}
use lib.Seq.{paste, get_or-set_same, get_or-set_other, take_at, drop_at, take_all, length-take-le, take-append-le, drop-append-le}
use Rattle.model.specs.Bytes.{part}
use Rattle.model.specs.Change.{add_member, add_checkpoint, add_vote, give_quota, append}
use Rattle.model.specs.Lists.{tabulate}
use Rattle.model.specs.Model.{Member, Checkpoint, Vote, with_rule, with_members, with_checkpoints, with_votes}
use Rattle.model.specs.Rule.{Permitted}
use Rattle.model.specs.declared.Quota.{Quota}
use Rattle.model.proofs.Lists.{tabulate-same}
use Rattle.state.specs.declared.Witness.{Witness}
use Rattle.state.specs.Sound.{SizedMembers, SizedTree, SizedVotes}
use Rattle.state.specs.State.{member_part, tree_part, vote_part, place, height, member_in, checkpoint_in, vote_in}
use Rattle.state.specs.State.{model_of}
use Rattle.state.specs.State.{with_member, with_checkpoint, with_vote, with_quota}
use Rattle.state.proofs.Rules.{rule-given}

-- an array's length, from that of the list of its elements' values
pub length-any : (X Y : Type 0) (f : X → Y) (l : List X) (n : ℕ) → length (map f l) ≡ n → length l ≡ n
length-any X Y f l n e = sym (length-map l f) ∙ e

-- one more entry of a table
one_more : {A : Type 0} (n : ℕ) (f g : ℕ → A) (x : A) → ((i : ℕ) → i < n → g i ≡ f i) → g n ≡ x → tabulate (n + 1) g ≡ tabulate n f ++ x ∷ []
unfolding tabulate
one_more {A} n f g x old new = rw add-one (ap₂ (λ (xs : List A) (y : A). xs ++ y ∷ []) (tabulate-same n g f old) new)

module _ {A : Type 0} (l : List A) (n : ℕ) (v d : A) where
  set_new : n < length l → get_or (set l n v) n d ≡ v
  set_new h = get_or-set_same l n v d h

  set-old : (i : ℕ) → i < n → get_or (set l n v) i d ≡ get_or l i d
  set-old i h = get_or-set_other l n i v d (λ e. omega arith)

-- what stands in front is read from there, whatever follows
front : (p r : List ℕ) (k m : ℕ) → k + m ≤ length p → part k m (p ++ r) ≡ part k m p
front p r k m h = ap (take m) (drop-append-le k p r (omega arith)) ∙ take-append-le m (drop k p) r (omega (arith, length-drop k p))

-- names pasted into the flat table
module _ (d : List ℕ) (n : ℕ) (name : List ℕ) (fits : n * 32 + 32 ≤ length d) (long : length name ≡ 32) where
  pub paste_new : part (n * 32) 32 (paste d (n * 32) name 32) ≡ name
  paste_new =
      ap (part (n * 32) 32) (append_assoc (take (n * 32) d) (take 32 name) (drop (n * 32 + 32) d))
      ∙ ap (take 32) (drop_at (take (n * 32) d) (take 32 name ++ drop (n * 32 + 32) d) (n * 32) (length-take-le (n * 32) d (omega arith)))
      ∙ take_at (take 32 name) (drop (n * 32 + 32) d) 32 (length-take-le 32 name (omega arith))
      ∙ take_all 32 name (omega arith)

  paste_old : (i : ℕ) → i < n → part (i * 32) 32 (paste d (n * 32) name 32) ≡ part (i * 32) 32 d
  paste_old i h =
      let inside : i * 32 + 32 ≤ length (take (n * 32) d) = omega (arith, length-take-le (n * 32) d (omega arith)) in
      ap (part (i * 32) 32) (append_assoc (take (n * 32) d) (take 32 name) (drop (n * 32 + 32) d))
      ∙ front (take (n * 32) d) (take 32 name ++ drop (n * 32 + 32) d) (i * 32) 32 inside
      ∙ sym (front (take (n * 32) d) (drop (n * 32) d) (i * 32) 32 inside)
      ∙ ap (part (i * 32) 32) (take-append-drop (n * 32) d)

module _ (w : Witness) where
  pub store-member : SizedMembers (member_part w) → (x : Member) → w.member_count < 128 → model_of (with_member w x) ≡ append (model_of w) (add_member x)
  unfolding model_of with_member append
  store-member sized x room =
      let n = w.member_count in
      ap (with_members (model_of w))
      (one_more n (member_in w) (member_in (with_member w x)) x
      (λ i h. λ j. record { id = set-old w.ids n x.id 0 i h j; bond = set-old w.bonds n x.bond 0 i h j })
      (λ j. record { id = set_new w.ids n x.id 0 (omega (arith, sized.ids)) j; bond = set_new w.bonds n x.bond 0 (omega (arith, sized.bonds)) j }))

  pub store-checkpoint : SizedTree (tree_part w) → (c : Checkpoint) → w.checkpoint_count < 512 → length c.name ≡ 32 → model_of (with_checkpoint w c) ≡ append (model_of w) (add_checkpoint c)
  unfolding model_of with_checkpoint append
  store-checkpoint sized c room long =
      let n = w.checkpoint_count in
      let fits : n * 32 + 32 ≤ length w.names = omega (arith, sized.names) in
      ap (with_checkpoints (model_of w))
      (one_more n (checkpoint_in w) (checkpoint_in (with_checkpoint w c)) c
      (λ i h. λ j.
      record {
        name = paste_old w.names n c.name fits long i h j;
        parent = (set-old w.parents n (place c.parent) (place 0) i h j).0;
        height = (set-old w.heights n (height c.height) (height 0) i h j).0;
      })
      (λ j.
      record {
        name = paste_new w.names n c.name fits long j;
        parent = (set_new w.parents n (place c.parent) (place 0) (omega (arith, sized.parents)) j).0;
        height = (set_new w.heights n (height c.height) (height 0) (omega (arith, sized.heights)) j).0;
      }))

  pub store-quota : (k : Quota) → Permitted k → model_of (with_quota w k) ≡ append (model_of w) (give_quota k)
  unfolding model_of with_quota append
  store-quota k ok = ap (with_rule (model_of w)) (rule-given k ok)

  pub store-vote : SizedVotes (vote_part w) → (v : Vote) → w.vote_count < 4096 → model_of (with_vote w v) ≡ append (model_of w) (add_vote v)
  unfolding model_of with_vote append
  store-vote sized v room =
      let n = w.vote_count in
      ap (with_votes (model_of w))
      (one_more n (vote_in w) (vote_in (with_vote w v)) v
      (λ i h. λ j.
      record {
        voter = set-old w.voters n v.voter 0 i h j;
        source = (set-old w.sources n (place v.source) (place 0) i h j).0;
        target = (set-old w.targets n (place v.target) (place 0) i h j).0;
      })
      (λ j.
      record {
        voter = set_new w.voters n v.voter 0 (omega (arith, sized.voters)) j;
        source = (set_new w.sources n (place v.source) (place 0) (omega (arith, sized.sources)) j).0;
        target = (set_new w.targets n (place v.target) (place 0) (omega (arith, sized.targets)) j).0;
      }))
