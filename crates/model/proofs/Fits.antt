-- What is added fits: there is room for it, an id is of 16 bits, and a name has 32 bytes. A move of the root fits where
-- no more is held than the limits say.
use Prim.Native.Nat.{ℕ, ◌<◌, ◌≤◌, ◌^◌}
use native.Mathlib.Omega.{arith}
use mathlib.Core.Path.{◌≡◌, refl, ◌∙◌}
use mathlib.Core.List.{List, [], ◌∷◌, ◌++◌, flat_map}
use borrow.Author.Tests.{leb-false}
use lib.ListN.{length, drop, length-take, length-drop, length-append, length-map}
use Rattle.model.specs.Answer.{Answer, refused}
use Rattle.model.specs.Bytes.{AreBytes}
use Rattle.model.specs.Change.{Change, add_member, add_checkpoint, add_vote, give_quota, move_root, append}
use Rattle.model.specs.Change.{append_all, Decision, single, decided, together, whole}
use Rattle.model.specs.Decide.{decide_vote, decide_each, decide_record, decide}
use Rattle.model.specs.Limits.{member_limit, checkpoint_limit, vote_limit}
use Rattle.model.specs.Log.{Record}
use Rattle.model.specs.Model.{Model, vote_at}
use Rattle.model.specs.Move.{kept_vote?, kept_votes, moved_vote, moved}
use Rattle.model.specs.Rule.{Permitted}
use Rattle.model.specs.Run.{Event, reading, moving, decide_event, OfBytes}
use Rattle.model.specs.WellFormed.{WellFormed}
use Rattle.model.proofs.Bytes.{field_below}
use Rattle.model.proofs.Lists.{all_of}
use Rattle.model.proofs.Log.{decode_elim}
use Rattle.model.proofs.Picked.{rank_le}
use Rattle.model.proofs.Rule.{quorum-permitted}
use Rattle.model.proofs.Rows.{member_rows, checkpoint_rows, vote_rows, bundle_rows, quorum_rows, move_rows}
use Rattle.model.proofs.Rows.{member_elim, checkpoint_elim, vote_elim, bundle_elim, quorum_elim, move_elim}

abbrev pub Fits : Model → Change → Type 0
Fits m (add_member x) = (length m.members < member_limit) × (x.id < 2 ^ 16)
Fits m (add_checkpoint c) = (length m.checkpoints < checkpoint_limit) × (length c.name ≡ 32)
Fits m (add_vote v) = length m.votes < vote_limit
Fits m (give_quota k) = Permitted k
Fits m (move_root r) = (length m.checkpoints ≤ checkpoint_limit) × (length m.votes ≤ vote_limit)

-- each fits what the ones before it left
pub data FitAll : Model → List Change → Type 0 where
  no_change : {m : Model} → FitAll m []
  one_change : {m : Model} {c : Change} {cs : List Change} → Fits m c → FitAll (append m c) cs → FitAll m (c ∷ cs)

-- changes one after another
pub append-both : (m : Model) (xs ys : List Change) → append_all m (xs ++ ys) ≡ append_all (append_all m xs) ys
unfolding append_all
append-both m [] ys = refl
append-both m (x ∷ xs) ys = append-both (append m x) xs ys

pub fit-both : (m : Model) (xs ys : List Change) → FitAll m xs → FitAll (append_all m xs) ys → FitAll m (xs ++ ys)
unfolding append_all
fit-both m [] ys no_change fits = fits
fit-both m (x ∷ xs) ys (one_change fit rest) fits = one_change fit (fit-both (append m x) xs ys rest fits)

-- a move of the root leaves no more votes
pub fewer_votes : (m : Model) (r : ℕ) → length (moved m r).votes ≤ length m.votes
unfolding moved
fewer_votes m r =
    omega (
      arith,
      length-map (kept_votes m r) (λ k. moved_vote m.checkpoints r (vote_at m.votes k)),
      rank_le (λ k. kept_vote? m.checkpoints r (vote_at m.votes k)) (length m.votes),
    )

-- the votes stay within their limit
pub fit-votes : (m : Model) (cs : List Change) → FitAll m cs → length m.votes ≤ vote_limit → length (append_all m cs).votes ≤ vote_limit
unfolding append_all append
fit-votes m [] no_change few = few
fit-votes m (add_member x ∷ cs) (one_change fit rest) few = fit-votes (append m (add_member x)) cs rest few
fit-votes m (add_checkpoint c ∷ cs) (one_change fit rest) few = fit-votes (append m (add_checkpoint c)) cs rest few
fit-votes m (give_quota k ∷ cs) (one_change fit rest) few = fit-votes (append m (give_quota k)) cs rest few
fit-votes m (move_root r ∷ cs) (one_change fit rest) few =
    fit-votes (append m (move_root r)) cs rest (omega (arith, fewer_votes m r))
fit-votes m (add_vote v ∷ cs) (one_change fit rest) few =
    fit-votes (append m (add_vote v)) cs rest (omega (arith, length-append m.votes (v ∷ []), fit))

module _ (m : Model) where
  abbrev Fit : Answer Change → Type 0
  Fit a = FitAll m (single a).changes

  nothing-added : (n : ℕ) → Fit (refused n)
  unfolding single
  nothing-added n = no_change

  pub vote-fits : (id : ℕ) (source target : List ℕ) (h k : ℕ) → Fit (decide_vote m id source target h k)
  unfolding single
  vote-fits id source target h k =
      vote_elim m Fit _ _ _ _ _ (all_of nothing-added vote_rows) (λ p fits. one_change (leb-false _ _ fits) no_change)

each-fit : (m : Model) (ids source target : List ℕ) (h k : ℕ)
    → FitAll m (together (decide_each m ids source target h k)).changes
unfolding together decide_each flat_map
each-fit m [] source target h k = no_change
each-fit m (id ∷ ids) source target h k =
    let d = single (decide_vote m id source target h k) in
    fit-both m d.changes _ (vote-fits m id source target h k) (each-fit (decided m d) ids source target h k)

module _ (m : Model) where
  abbrev FitWhole : Answer (List Decision) → Type 0
  FitWhole a = FitAll m (whole a).changes

  none-added : (n : ℕ) → FitWhole (refused n)
  unfolding whole
  none-added n = nothing-added m n

  pub changes-fit : (s : List ℕ) → AreBytes s → FitAll m (decide m s).changes
  unfolding decide decide_record single whole
  changes-fit s bytes =
      decode_elim (λ (r : Record) (n : ℕ). FitAll m (decide_record m r).changes) s
      (record {
        nothing = no_change;
        unknown = no_change;
        cut = no_change;
        member = λ _.
            member_elim m (Fit m) _ (all_of (nothing-added m) member_rows) (λ p. one_change (leb-false _ _ p.fits, field_below 1 2 s bytes) no_change);
        checkpoint = λ long.
            checkpoint_elim m (Fit m) _ _ (all_of (nothing-added m) checkpoint_rows)
            (λ p. one_change (leb-false _ _ p.fits, length-take 32 (drop 1 s) ∙ omega (arith, length-drop 1 s)) no_change);
        vote = λ _. vote-fits m _ _ _ _ _;
        bundle = λ _. bundle_elim m FitWhole _ _ _ _ _ (all_of none-added bundle_rows) (λ _. each-fit m _ _ _ _ _);
        quorum = λ _.
            quorum_elim m (Fit m) _ (all_of (nothing-added m) quorum_rows)
            (λ p. one_change (quorum-permitted m _ p.right) no_change);
      })

  pub event-fits : WellFormed m → (e : Event) → OfBytes e → FitAll m (decide_event m e).changes
  unfolding decide_event single
  event-fits good (reading s) bytes = changes-fit s bytes
  event-fits good (moving r) bytes =
      move_elim m (Fit m) r (all_of (nothing-added m) move_rows)
      (λ p. one_change (good.tree.fit, good.votes-fit) no_change)
