-- The arrays of a witness hold its model.
use Prim.Native.Nat.{ℕ, ◌+◌, ◌<◌, ◌≤◌}
use native.Mathlib.Omega.{arith}
use mathlib.Core.Path.{◌≡◌, refl, sym, ap, ap₂, ◌∙◌, subst}
use mathlib.Core.List.{List, [], ◌∷◌}
use mathlib.Core.Bool.{Bool, true, false, ◌||◌}
use borrow.Author.Tests.{lt-ltb, le-ltb}
use lib.ListN.{length, get_or, set, take, length-append}
use lib.Seq.{length-take-le, get_or-take, get_or-set_same, get_or-set_other}
use lib.Dec.{eqb, ltb}
use Rattle.std.specs.Prelude.{Option, Some, None, MatchOption}
use Rattle.std.specs.Option.{is_some}
use Rattle.model.specs.Change.{append}
use Rattle.model.specs.Lists.{tabulate, first_index, same_bytes}
use Rattle.model.specs.Model.{Model, Member, Checkpoint, Vote, no_member, no_checkpoint, member_index, place_of, checkpoint_at, id_held, vote_held, same_vote}
use Rattle.model.proofs.Lists.{first-same, length-tabulate, tabulate-at, any-tabulate, any_append}
use Rattle.tables.specs.Keys.{Packed}
use Rattle.names.specs.Rows.{rows}
use Rattle.tables.proofs.Keys.{same-pack, packed_is}
use Rattle.search.proofs.Below.{any-more}
use Rattle.search.proofs.Pointwise.{any_same}
use Rattle.tables.proofs.Ancestry.{tree-tabulate}
use Rattle.names.proofs.Rows.{rows-length, rows_at}
use Rattle.state.specs.declared.Witness.{Witness}
use Rattle.state.specs.Sound.{SizedVotes}
use Rattle.state.specs.State.{vote_part, rule_of, quota_in, model_of, member_in, checkpoint_in, vote_in, with_vote}
use Rattle.state.specs.Tables.{MembersHeld, NamesHeld, HeightsHeld, AncestorsHeld, key_of, KeysHeld, Held}
use Rattle.state.proofs.Store.{store-vote}

module _ (w : Witness) where
  pub members-held : w.member_count ≤ length w.ids → MembersHeld (model_of w) w.ids w.member_count
  unfolding model_of member_index
  members-held fits =
      let n = w.member_count in
      record {
        count = length-tabulate n (member_in w);
        index = λ id.
            first-same (λ x. eqb x.id id) (λ x. eqb x id) no_member 0 (tabulate n (member_in w)) (take n w.ids)
            (length-tabulate n (member_in w) ∙ sym (length-take-le n w.ids fits))
            (λ i h.
            let below : i < n = omega (arith, length-tabulate n (member_in w)) in
            ap₂ eqb (ap (λ (x : Member). x.id) (tabulate-at n (member_in w) no_member i below) ∙ sym (get_or-take n w.ids i 0 below)) refl);
      }

  pub names-held : NamesHeld (model_of w) w.names w.checkpoint_count
  unfolding model_of place_of
  names-held =
      let n = w.checkpoint_count in
      record {
        count = length-tabulate n (checkpoint_in w);
        place = λ name.
            first-same (λ c. same_bytes c.name name) (λ x. same_bytes x name) no_checkpoint [] (tabulate n (checkpoint_in w)) (rows n w.names)
            (length-tabulate n (checkpoint_in w) ∙ sym (rows-length n w.names))
            (λ i h.
            let below : i < n = omega (arith, length-tabulate n (checkpoint_in w)) in
            ap₂ same_bytes (ap (λ (c : Checkpoint). c.name) (tabulate-at n (checkpoint_in w) no_checkpoint i below) ∙ sym (rows_at n i w.names below).here) refl);
      }

  pub rule-held : (model_of w).rule ≡ rule_of (quota_in w.numbers)
  unfolding model_of
  rule-held = refl

  pub heights-held : HeightsHeld (model_of w) w.heights w.checkpoint_count
  unfolding model_of checkpoint_at
  heights-held = record { height = λ i h. ap (λ (c : Checkpoint). c.height) (tabulate-at w.checkpoint_count (checkpoint_in w) no_checkpoint i h) }

  pub ancestors_held : AncestorsHeld (model_of w) w.parents w.checkpoint_count
  unfolding model_of
  ancestors_held = record { ancestor = λ a b. sym (tree-tabulate w.checkpoint_count w.parents (checkpoint_in w) (λ i h. refl) a b) }

  -- the votes' numbers hold the votes
  pub keys_held : {keys : List ℕ} → Packed w.voters w.sources w.targets w.vote_count keys → KeysHeld (model_of w) keys w.vote_count
  unfolding model_of vote_held
  keys_held {keys} packed =
      let n = w.vote_count in
      record {
        count = length-tabulate n (vote_in w);
        held = λ v hs ht.
            any-tabulate (λ u. same_vote u v) n (vote_in w)
            ∙ any_same n (λ k. same_vote (vote_in w k) v) (λ k. eqb (get_or keys k 0) (key_of v)) (λ k h. sym (packed_is w.voters w.sources w.targets packed k v.voter v.source v.target h hs ht));
      }

  pub all_held : {keys : List ℕ} → w.member_count ≤ length w.ids → KeysHeld (model_of w) keys w.vote_count
      → Held (model_of w) w.member_count w.checkpoint_count w.vote_count w.ids w.names w.parents w.heights keys
  all_held fits votes = record { members-held = members-held fits; names-held = names-held; heights-held = heights-held; ancestors_held = ancestors_held; keys_held = votes }

-- whether a member is held, by the search in the table
pub held-id : {m : Model} {ids : List ℕ} {n : ℕ} (id : ℕ) {r : ℕ} → MembersHeld m ids n → r ≡ first_index (λ x. eqb x id) (take n ids) → id_held m id ≡ ltb r n
unfolding id_held
held-id {n = n} id {r} h e = ap₂ ltb (h.index id ∙ sym e) h.count

-- the same, by what the search among the n ids in front gave
module _ {m : Model} {ids : List ℕ} {n : ℕ} (id : ℕ) (h : MembersHeld m ids n) (fit : n ≤ length ids) where
  pub id-none : first_index (λ x. eqb x id) (take n ids) ≡ length (take n ids) → id_held m id ≡ false
  id-none e = held-id id h refl ∙ le-ltb _ n (omega (arith, e, length-take-le n ids fit))

  pub id-some : {i : ℕ}
      → (i ≡ first_index (λ x. eqb x id) (take n ids)) × (i < length (take n ids))
      → id_held m id ≡ true
  id-some so = held-id id h so.0 ∙ lt-ltb _ n (omega (arith, so.1, length-take-le n ids fit))

  pub id-found : (r : Option ℕ)
      → MatchOption r (first_index (λ x. eqb x id) (take n ids) ≡ length (take n ids))
      (λ i. (i ≡ first_index (λ x. eqb x id) (take n ids)) × (i < length (take n ids)))
      → id_held m id ≡ is_some r
  id-found None e = id-none e
  id-found (Some i) so = id-some so

-- ---- the votes' numbers, once more is held

module _ (w : Witness) {keys : List ℕ} (held : KeysHeld (model_of w) keys w.vote_count) where
  -- where the votes are as they were
  pub votes-kept : (m : Model) → m.votes ≡ (model_of w).votes → KeysHeld m keys w.vote_count
  votes-kept m same =
      record { count = ap length same ∙ held.count; held = λ v s t. ap (λ (vs : List Vote). vote_held vs v) same ∙ held.held v s t }

  pub vote-more : SizedVotes (vote_part w) → (v : Vote) → w.vote_count < 4096 → length keys ≡ 4096 → v.source < 65536 → v.target < 65536 → KeysHeld (model_of (with_vote w v)) (set keys w.vote_count (key_of v)) (w.vote_count + 1)
  unfolding append vote_held
  vote-more sized v room long vs vt =
      subst (λ (m : Model). KeysHeld m (set keys w.vote_count (key_of v)) (w.vote_count + 1)) (sym (store-vote w sized v room))
      (record {
        count = length-append (model_of w).votes (v ∷ []) ∙ omega (arith, held.count);
        held = λ u us ut.
            any_append (λ x. same_vote x u) v (model_of w).votes v
            ∙ ap₂ ◌||◌ (held.held u us ut ∙ any_same n (λ k. eqb (get_or keys k 0) (key_of u)) (new u) (λ k h. ap (λ (x : ℕ). eqb x (key_of u)) (sym (get_or-set_other keys n k (key_of v) 0 (λ q. omega arith)))))
            (sym (same-pack v.voter v.source v.target u.voter u.source u.target vs vt us ut) ∙ ap (λ (x : ℕ). eqb x (key_of u)) (sym (get_or-set_same keys n (key_of v) 0 (omega (arith, long)))))
            ∙ any-more false n (new u) refl;
      })
    where
      n : ℕ
      n = w.vote_count

      new : Vote → ℕ → Bool
      new u k = eqb (get_or (set keys n (key_of v)) k 0) (key_of u)
