-- A sound state with its votes ready: what the counting asks of them, and what the voters gathered for a target come
-- to.
use Prim.Native.Nat.{ℕ, ◌<◌, ◌≤◌}
use native.Mathlib.Omega.{arith}
use mathlib.Core.Path.{◌≡◌, ap, ◌∙◌}
use mathlib.Core.Bool.{Bool}
use mathlib.Core.List.{List}
use lib.ListN.{length, get_or, take}
use Rattle.model.specs.Support.{Support, supports, support, link?}
use Rattle.tables.specs.Places.{place_at}
use Rattle.search.proofs.Chains.{last_le, linked-earlier}
use Rattle.state.specs.declared.Witness.{Witness}
use Rattle.state.specs.State.{model_of}
use Rattle.state.proofs.Sound.{few-members, few-checkpoints, few-votes, falling, source-held}
use Rattle.voters.specs.declared.Voters.{Voters}
use Rattle.voters.specs.Bits.{among, count_below}
use Rattle.voters.specs.Weights.{Bonds, Fits, weight_of, enough, carried}
use Rattle.voters.proofs.Weights.{sum_more, first_good, weight-first, carried-first}
use Rattle.tally.specs.declared.votes.Ballots.{Ballots}
use Rattle.tally.specs.Ready.{Ready}
use Rattle.tally.specs.Chains.{aims, Walkable, Tallied}
use Rattle.tally.proofs.Backed.{Backers, who-held, backers}
use Rattle.tally.proofs.Totals.{bonds-good, bar-fits, count-is, weight_is, carried-is}

-- the bonds of the members that are held, as a list of their own
abbrev pub held_bonds : Witness → List ℕ
held_bonds w = take w.member_count w.bonds

module _ {w : Witness} {b : Ballots} (r : Ready w b) where
  pub ready-bonds : Bonds (held_bonds w) (length (held_bonds w))
  ready-bonds = first_good w.bonds w.member_count (bonds-good w r.sound)

  pub ready-bar : Fits b.bar
  ready-bar = bar-fits w r.sound r.bar

  -- the chain of a target can be walked
  pub ready-walk : (t : ℕ) → t < 512 → Walkable b.who w.sources b.chains.next (get_or b.chains.head t 0)
  ready-walk t h =
      record {
        fit = omega (arith, few-votes w r.sound, low);
        who-long = omega (arith, few-votes w r.sound, low);
        next-long = omega (arith, few-votes w r.sound, low, r.chained.linked.long);
        member = λ k l. omega (arith, who-held r k (omega (arith, low)), few-members w r.sound);
        sources-long = omega (arith, few-votes w r.sound, low, r.sound.typed.votes.sources);
        source = λ k l.
            let held : k < w.vote_count = omega (arith, low) in
            omega (arith, source-held w r.sound k held, few-checkpoints w r.sound);
        earlier = λ k l. linked-earlier (λ i. place_at w.targets i) r.chained.linked k (omega (arith, low));
      }
    where
      low : get_or b.chains.head t 0 ≤ w.vote_count
      low = omega (arith, r.chained.heads t h, last_le (aims w.targets t) w.vote_count)

  -- a parent's place is held
  pub ready-parent : (t : ℕ) → 0 < t → t < w.checkpoint_count → place_at w.parents t < 512
  ready-parent t h l = omega (arith, falling w r.sound t h l, few-checkpoints w r.sound)

  -- what is gathered for t
  module _ (t : ℕ) (tally : ℕ → Voters) (h : t < 512)
      (all : Tallied b.who w.sources b.chains.next (get_or b.chains.head t 0) tally) (s : ℕ) (l : s < 512) where
    backed : Backers w s t (tally s)
    backed = backers r t tally h all s l

    -- the voters carry a link exactly when it has a quorum
    pub ready-link : carried (held_bonds w) (length (held_bonds w)) b.bar (tally s) ≡ link? (model_of w) s t
    unfolding link?
    ready-link =
        carried-first w.bonds w.member_count (bonds-good w r.sound) b.bar (tally s)
        ∙ carried-is w (supports (model_of w) s t) (tally s) backed.held r.bar t

    -- their number, the sum of their bonds, and yes or no
    pub ready-support : {number bonds : ℕ} {yes : Bool}
        → number ≡ count_below 128 (among (tally s))
        → bonds ≡ weight_of (held_bonds w) (length (held_bonds w)) (tally s)
        → yes ≡ enough bonds b.bar
        → ◌≡◌ {A = Support} (record { number = number; bonds = bonds; yes? = yes }) (support (model_of w) s t)
    unfolding support link?
    ready-support n x y =
        let A = supports (model_of w) s t in
        let v = tally s in
        let sum = x ∙ weight-first w.bonds w.member_count (bonds-good w r.sound) v in
        let few = sum_more 128 w.member_count (among v) (λ i. 1) (few-members w r.sound) backed.beyond in
        λ i.
        record {
          number = (n ∙ few ∙ count-is w A v backed.held) i;
          bonds = (sum ∙ weight_is w A v backed.held) i;
          yes? = (y ∙ ap (λ (k : ℕ). enough k b.bar) sum ∙ carried-is w A v backed.held r.bar t) i;
        }
