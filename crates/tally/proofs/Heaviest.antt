-- The heaviest voters for a place: what one more source adds, and that they are behind the link that the board paper
-- shows.
use Prim.Native.Nat.{ℕ, zero, suc, ◌+◌, ◌<◌, ◌≤◌}
use native.Mathlib.Numerals.{add-one}
use native.Mathlib.Omega.{arith}
use mathlib.Core.Path.{◌≡◌, refl, sym, ap, ◌∙◌, subst, subst₂}
use mathlib.Core.Logic.{⊎_elim}
use mathlib.Core.List.{List}
use mathlib.Core.Bool.{Bool, true, false, cond}
use borrow.Author.Tests.{lt-ltb, le-ltb}
use lib.ListN.{length, get_or}
use Rattle.model.specs.Finality.{justified?}
use Rattle.model.specs.Paper.{larger, best_below, best_support}
use Rattle.model.specs.Support.{Support, support, unsupported}
use Rattle.model.proofs.Best.{larger-first, larger-second, best_below_lem}
use Rattle.model.proofs.Lists.{lt_or_ge}
use Rattle.state.specs.declared.Witness.{Witness}
use Rattle.state.specs.State.{model_of}
use Rattle.state.proofs.Entries.{count-checkpoints}
use Rattle.voters.specs.declared.Voters.{Voters}
use Rattle.voters.specs.Bits.{nobody, among, count_below}
use Rattle.voters.specs.Weights.{weight_of}
use Rattle.voters.proofs.Bits.{among_none}
use Rattle.voters.proofs.Weights.{sum-zero, nobody_weighs}
use Rattle.tally.specs.declared.votes.Ballots.{Ballots}
use Rattle.tally.specs.Chains.{Tallied}
use Rattle.tally.specs.Ready.{Ready}
use Rattle.tally.specs.declared.links.Mark.{Mark}
use Rattle.tally.specs.Marks.{justified_at}
use Rattle.tally.specs.Weights.{heavier, heaviest}
use Rattle.tally.proofs.Ready.{held_bonds, ready-support}

module _ (weight : Voters → ℕ) where
  pub heavier-first : {one other : Voters} → weight other ≤ weight one → heavier weight one other ≡ one
  unfolding heavier
  heavier-first h = rw (le-ltb _ _ h)

  pub heavier-second : {one other : Voters} → weight one < weight other → heavier weight one other ≡ other
  unfolding heavier
  heavier-second h = rw (lt-ltb _ _ h)

module _ (bonds : List ℕ) (members : ℕ) (marks : List Mark) (tally : ℕ → Voters) where
  -- the heaviest of the first n places
  abbrev top : ℕ → Voters
  top n = heaviest (weight_of bonds members) marks tally n

  pub heaviest-none : nobody ≡ top 0
  unfolding heaviest
  heaviest-none = refl

  pub heaviest-marked : (s : ℕ) {v r : Voters} → justified_at marks s ≡ true → v ≡ top s
      → r ≡ heavier (weight_of bonds members) v (tally s) → r ≡ top (s + 1)
  unfolding heaviest
  heaviest-marked s marked before after =
      rw (add-one s, marked) (after ∙ ap (λ (v : Voters). heavier (weight_of bonds members) v (tally s)) before)

  pub heaviest-unmarked : (s : ℕ) {v : Voters} → justified_at marks s ≡ false → v ≡ top s → v ≡ top (s + 1)
  unfolding heaviest
  heaviest-unmarked s unmarked before =
      rw (add-one s, unmarked)
      (before ∙ sym (heavier-first (weight_of bonds members)
      (omega (arith, nobody_weighs bonds members nobody refl refl))))

module _ {w : Witness} {b : Ballots} (r : Ready w b) (t : ℕ) (tally : ℕ → Voters) (h : t < 512)
    (all : Tallied b.who w.sources b.chains.next (get_or b.chains.head t 0) tally)
    (marks : List Mark) (marked : (s : ℕ) → s < t → justified_at marks s ≡ justified? (model_of w) s) where
  abbrev weight : Voters → ℕ
  weight v = weight_of (held_bonds w) (length (held_bonds w)) v

  -- voters who are as many as a support says, with as much bond
  abbrev Agrees : Voters → Support → Type 0
  Agrees v x = (count_below 128 (among v) ≡ x.number) × (weight v ≡ x.bonds)

  agrees_nobody : Agrees nobody unsupported
  agrees_nobody = (
    sum-zero 128 (among nobody) (λ i. 1) (λ i l. among_none i),
    sym
        (nobody_weighs (held_bonds w) (length (held_bonds w)) nobody refl refl),
  )

  agrees_source : (s : ℕ) → s < 512 → Agrees (tally s) (support (model_of w) s t)
  agrees_source s l =
      let is = ready-support r t tally h all s l refl refl refl in
      (ap (λ (x : Support). x.number) is, ap (λ (x : Support). x.bonds) is)

  agrees_heavier : (v u : Voters) (x y : Support) → Agrees v x → Agrees u y → Agrees (heavier weight v u) (larger x y)
  agrees_heavier v u x y a c = ⊎_elim
      (λ l. subst₂ Agrees (sym (heavier-second weight (omega (arith, a.1, c.1)))) (sym (larger-second x y l)) c)
      (λ l. subst₂ Agrees (sym (heavier-first weight (omega (arith, a.1, c.1)))) (sym (larger-first x y l)) a)
      (lt_or_ge x.bonds y.bonds)

  agrees_below : (n : ℕ) → n ≤ t → Agrees (heaviest weight marks tally n) (best_below (model_of w) t n)
  unfolding heaviest best_below
  agrees_below zero l = agrees_nobody
  agrees_below (suc s) l =
      agrees_heavier _ _ _ _ (agrees_below s (omega arith)) (one (justified_at marks s) (marked s (omega arith)))
    where
      one : (j : Bool) → j ≡ justified? (model_of w) s
          → Agrees (cond j (tally s) nobody) (cond (justified? (model_of w) s) (support (model_of w) s t) unsupported)
      one true e = rw (← e) (agrees_source s (omega arith))
      one false e = rw (← e) agrees_nobody

  -- the heaviest voters are those behind the link that the paper shows
  pub ready_best : t ≤ w.checkpoint_count
      → (count_below 128 (among (heaviest weight marks tally t)) ≡ (best_support (model_of w) t).number)
      × (weight (heaviest weight marks tally t) ≡ (best_support (model_of w) t).bonds)
  ready_best l =
      subst (Agrees (heaviest weight marks tally t))
      (best_below_lem (model_of w) r.sound.good t (omega (arith, count-checkpoints w)))
      (agrees_below t (omega arith))
