-- What ties a witness whose root was moved, b, to the one that dropped nothing, w: b is the part of w at and above a
-- place r which is final, and what w holds beside it weighs on no answer of b.
use Prim.Native.Nat.{ℕ, ◌<◌, ◌≤◌}
use native.Mathlib.Nat.{le_refl}
use native.Mathlib.Omega.{arith}
use mathlib.Core.Path.{refl, ap}
use mathlib.Core.Logic.{◌⊎◌, inl, inr, ⊎_elim}
use mathlib.Core.List.{List}
use lib.ListN.{length}
use Rattle.model.specs.Exact.{BreakingPair, NotAfter, no-later}
use Rattle.model.specs.Finality.{Final, genesis}
use Rattle.model.specs.Model.{Model, Checkpoint, height_of, vote_at}
use Rattle.model.specs.Move.{kept?}
use Rattle.model.specs.Tree.{Ancestor}
use Rattle.model.specs.WellFormed.{GoodTree, WellFormed}
use Rattle.model.proofs.Finality.{final-held}
use Rattle.model.proofs.Lists.{decided, clash}
use Rattle.model.proofs.Tree.{ancestor-lower}
use Rattle.moves.specs.Part.{Kept}
use Rattle.moves.proofs.Moved.{kept_true, true_kept}
use Rattle.moves.proofs.Part.{Within, part-itself, places-kept}

-- row 72: no vote that isn't kept has a target higher than r
abbrev pub Low : Model → ℕ → Type 0
Low w r =
    (k : ℕ)
    → k < length w.votes
    → (Kept w.checkpoints r (vote_at w.votes k).source → ⊥)
    → height_of w.checkpoints (vote_at w.votes k).target ≤ height_of w.checkpoints r

-- row 71, on finals: each that isn't kept is an ancestor of r
abbrev pub Frozen : Model → ℕ → Type 0
Frozen w r = (p : ℕ) → Final w p → (Kept w.checkpoints r p → ⊥) → Ancestor w.checkpoints p r

-- a breaking pair of two kept votes, and no later one than the pair of the votes a and c
pub record KeptPair (w : Model) (r id a c : ℕ) : Type 0 where
  pub one : ℕ
  pub other : ℕ
  pub pair : BreakingPair w id one other
  pub one_kept : Kept w.checkpoints r (vote_at w.votes one).source
  pub other-kept : Kept w.checkpoints r (vote_at w.votes other).source
  pub before : NotAfter one other a c

-- row 71, on pairs: none of a member's breaking pairs comes before all of its pairs of kept votes
abbrev pub Shown : Model → ℕ → Type 0
Shown w r = (id a c : ℕ) → BreakingPair w id a c → KeptPair w r id a c

pub record Tied (b w : Model) (place number : ℕ → ℕ) : Type 0 where
  pub within : Within b w place number
  pub final : Final w (place 0)
  pub low : Low w (place 0)
  pub frozen : Frozen w (place 0)
  pub shown : Shown w (place 0)

-- tied by some places and numbers
pub record Bound (b w : Model) : Type 0 where
  pub place : ℕ → ℕ
  pub number : ℕ → ℕ
  pub tied : Tied b w place number

pub kept_or_not : (cs : List Checkpoint) → GoodTree cs → (r p : ℕ) → Kept cs r p ⊎ (Kept cs r p → ⊥)
kept_or_not cs tree r p =
    ⊎_elim
    (λ e. inl (kept_true cs tree r p e))
    (λ e. inr (λ k. clash (true_kept cs tree r p k) e))
    (decided (kept? cs r p))

-- what is kept is at least as high
pub kept_high : (cs : List Checkpoint) → GoodTree cs → {r p : ℕ} → Kept cs r p → height_of cs r ≤ height_of cs p
kept_high cs tree (inl e) = omega (arith, ap (height_of cs) e)
kept_high cs tree (inr up) = omega (arith, ancestor-lower cs tree up)

module _ (m : Model) (good : WellFormed m) where
  within-itself : Within m m (λ i. i) (λ k. k)
  within-itself = record { good = good; low = good.tree.root-height; part = part-itself m good }

  -- the root keeps everything
  pub all-kept : (p : ℕ) → p < length m.checkpoints → Kept m.checkpoints 0 p
  all-kept p h = places-kept within-itself p h

  -- so a witness that dropped nothing is tied to itself
  pub tied_itself : Tied m m (λ i. i) (λ k. k)
  tied_itself =
      record {
        within = within-itself;
        final = genesis;
        low = λ k h out. absurd (out (all-kept _ (good.votes k h).source));
        frozen = λ p f out. absurd (out (all-kept p (final-held m good f)));
        shown = λ id a c p.
            record {
              one = a;
              other = c;
              pair = p;
              one_kept = all-kept _ (good.votes a (omega (arith, p.order, p.held))).source;
              other-kept = all-kept _ (good.votes c p.held).source;
              before = no-later refl (le_refl c);
            };
      }
