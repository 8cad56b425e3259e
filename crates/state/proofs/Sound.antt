-- What a sound state says: row 40's test passes it; the counts fit, parents stand at smaller places, no height is
-- large, and each vote is between held places.
use Prim.Native.Nat.{ℕ, ◌<◌, ◌≤◌, ◌^◌}
use native.Mathlib.Omega.{arith}
use mathlib.Core.Path.{◌≡◌, sym, ap, subst, ◌∙◌}
use mathlib.Core.Bool.{true}
use lib.ListN.{length}
use Rattle.model.specs.Limits.{member_limit, checkpoint_limit, vote_limit}
use Rattle.model.specs.Model.{Member, Checkpoint, Vote, member_at, vote_at, height_of}
use Rattle.model.specs.WellFormed.{GoodVote}
use Rattle.model.proofs.Sound.{well_formed_true, true_well_formed}
use Rattle.model.proofs.Tree.{height-low}
use Rattle.tables.specs.Places.{Falling, place_at, height_at}
use Rattle.state.specs.Sound.{Typed, Sound, sound?}
use Rattle.state.specs.State.{vote_in, model_of}
use Rattle.state.specs.Tables.{Low}
use Rattle.state.specs.declared.Witness.{Witness}
use Rattle.state.proofs.Entries.{count-members, count-checkpoints, count-votes}
use Rattle.state.proofs.Entries.{member_is, checkpoint-is, vote-is}

module _ (w : Witness) where
  pub sound_true : Typed w → sound? w ≡ true → Sound w
  unfolding sound?
  sound_true typed e = record { typed = typed; good = well_formed_true (model_of w) narrow e }
    where
      narrow : (i : ℕ) → i < length (model_of w).members → (member_at (model_of w).members i).id < 2 ^ 16
      narrow i h = subst (λ (x : Member). x.id < 2 ^ 16) (sym (member_is w i (omega (arith, count-members w)))) (typed.ids i)

  pub true_sound : Sound w → sound? w ≡ true
  unfolding sound?
  true_sound s = true_well_formed (model_of w) s.good

module _ (w : Witness) (s : Sound w) where
  pub few-members : w.member_count ≤ member_limit
  few-members = omega (arith, s.good.members.fit, count-members w)

  pub few-checkpoints : w.checkpoint_count ≤ checkpoint_limit
  few-checkpoints = omega (arith, s.good.tree.fit, count-checkpoints w)

  pub few-votes : w.vote_count ≤ vote_limit
  few-votes = omega (arith, s.good.votes-fit, count-votes w)

  -- so the arrays have that many entries

  pub ids-long : w.member_count ≤ length w.ids
  ids-long = omega (arith, few-members, s.typed.members.ids)

  pub voters-long : w.vote_count ≤ length w.voters
  voters-long = omega (arith, few-votes, s.typed.votes.voters)

  pub falling : Falling w.checkpoint_count w.parents
  falling i pos h =
      subst (λ (c : Checkpoint). c.parent < i) (checkpoint-is w i h) (s.good.tree.parent i pos (omega (arith, count-checkpoints w)))

  pub low-heights : Low w.checkpoint_count w.heights
  low-heights i h =
      let below : i < length (model_of w).checkpoints = omega (arith, count-checkpoints w) in
      omega (
        arith,
        height-low (model_of w).checkpoints s.good.tree i below,
        ap (λ (c : Checkpoint). c.height)
            (checkpoint-is w i h),
      )

  -- the votes, as the arrays hold them
  module _ (k : ℕ) (h : k < w.vote_count) where
    pub vote-good : GoodVote (model_of w).members (model_of w).checkpoints (vote_in w k)
    vote-good =
        subst (GoodVote (model_of w).members (model_of w).checkpoints) (vote-is w k h)
        (s.good.votes k (omega (arith, count-votes w)))

    pub source-held : place_at w.sources k < w.checkpoint_count
    source-held = omega (arith, vote-good.source, count-checkpoints w)

    pub target-held : place_at w.targets k < w.checkpoint_count
    target-held = omega (arith, vote-good.target, count-checkpoints w)

    pub source-height : height_of (model_of w).checkpoints (vote_at (model_of w).votes k).source
        ≡ height_at w.heights (place_at w.sources k)
    source-height =
        ap (λ (v : Vote). height_of (model_of w).checkpoints v.source) (vote-is w k h)
        ∙ ap (λ (c : Checkpoint). c.height) (checkpoint-is w _ source-held)

    pub target-height : height_of (model_of w).checkpoints (vote_at (model_of w).votes k).target
        ≡ height_at w.heights (place_at w.targets k)
    target-height =
        ap (λ (v : Vote). height_of (model_of w).checkpoints v.target) (vote-is w k h)
        ∙ ap (λ (c : Checkpoint). c.height) (checkpoint-is w _ target-held)
