-- The votes of a sound state, ready to be counted: the voters that are gathered for a target are the model's supporters
-- of the links to it.
use Prim.Native.Nat.{ℕ, ◌<◌, ◌≤◌}
use native.Mathlib.Omega.{arith}
use mathlib.Core.Path.{◌≡◌, refl, sym, ap, ap₂, ◌∙◌}
use mathlib.Core.Logic.{⊎_elim}
use mathlib.Core.Bool.{Bool, false, ◌&&◌, and_comm}
use borrow.Author.Tests.{eq-eqb, ne_eqb, eqb-true, eqb-false}
use lib.Dec.{eqb}
use lib.ListN.{get_or}
use Rattle.model.specs.Lists.{any_below}
use Rattle.model.specs.Model.{Member, no_member, member_at, vote_for, vote_held, same_vote, member_index}
use Rattle.model.specs.Support.{supports}
use Rattle.model.proofs.Lists.{decided, not_so, lt_or_ge, and_left, and_right, Below, below-found, first_passes}
use Rattle.model.proofs.Lists.{any-tabulate}
use Rattle.tables.specs.Places.{place_at}
use Rattle.search.proofs.Pointwise.{any_same}
use Rattle.search.proofs.Chains.{linked-chain}
use Rattle.state.specs.declared.Witness.{Witness}
use Rattle.state.specs.Sound.{Sound}
use Rattle.state.specs.State.{member_in, vote_in, model_of}
use Rattle.state.proofs.Entries.{count-members, member_is}
use Rattle.state.proofs.Held.{members-held}
use Rattle.state.proofs.Sound.{ids-long, vote-good}
use Rattle.voters.specs.declared.Voters.{Voters}
use Rattle.voters.specs.Bits.{among}
use Rattle.tally.specs.declared.votes.Ballots.{Ballots}
use Rattle.tally.specs.Chains.{aims, casts, Tallied}
use Rattle.tally.specs.Ready.{Ready}

id-is : (w : Witness) (i : ℕ) → i < w.member_count → (member_at (model_of w).members i).id ≡ get_or w.ids i 0
id-is w i h = ap (λ (x : Member). x.id) (member_is w i h)

ids-differ : (w : Witness) → Sound w
    → (i j : ℕ) → i < j → j < w.member_count → get_or w.ids i 0 ≡ get_or w.ids j 0 → ⊥
ids-differ w sound i j h l e =
    sound.good.members.distinct i j h (omega (arith, count-members w))
    (id-is w i (omega arith) ∙ e ∙ sym (id-is w j l))

-- the voters are exactly the model's supporters of s → t
pub record Backers (w : Witness) (s t : ℕ) (v : Voters) : Type 0 where
  pub held : (i : ℕ) → i < w.member_count → among v i ≡ supports (model_of w) s t (member_in w i)
  pub beyond : (i : ℕ) → w.member_count ≤ i → among v i ≡ false

module _ {w : Witness} {b : Ballots} (r : Ready w b) where
  -- the place of vote k's member, and the member's id
  abbrev who : ℕ → ℕ
  who k = get_or b.who k 0

  abbrev id : ℕ → ℕ
  id k = get_or w.voters k 0

  who-index : (k : ℕ) → k < w.vote_count → who k ≡ member_index (model_of w).members (id k)
  who-index k h = r.found k h ∙ sym ((members-held w (ids-long w r.sound)).index (id k))

  pub who-held : (k : ℕ) → k < w.vote_count → who k < w.member_count
  who-held k h = omega (arith, who-index k h, (vote-good w r.sound k h).voter, count-members w)

  -- the member found has the vote's id
  who-id : (k : ℕ) → k < w.vote_count → get_or w.ids (who k) 0 ≡ id k
  unfolding member_index member_at
  who-id k h =
      let ms = (model_of w).members in
      let inside : member_index ms (id k) < w.member_count = omega (arith, who-held k h, who-index k h) in
      sym (id-is w (who k) (who-held k h))
      ∙ ap (λ (i : ℕ). (member_at ms i).id) (who-index k h)
      ∙ eqb-true (member_at ms (member_index ms (id k))).id (id k)
      (first_passes (λ x. eqb x.id (id k)) no_member ms (omega (arith, count-members w)))

  same-member : (k i : ℕ) → k < w.vote_count → i < w.member_count → eqb (who k) i ≡ eqb (id k) (get_or w.ids i 0)
  same-member k i h l = ⊎_elim
      (λ e. e ∙ sym (eq-eqb _ _ (sym (who-id k h) ∙ ap (λ (j : ℕ). get_or w.ids j 0) (eqb-true (who k) i e))))
      (λ e. e ∙ sym (ne_eqb (id k) (get_or w.ids i 0) (λ q. other (eqb-false (who k) i e) (who-id k h ∙ q))))
      (decided (eqb (who k) i))
    where
      other : (who k ≡ i → ⊥) → get_or w.ids (who k) 0 ≡ get_or w.ids i 0 → ⊥
      other n q = ⊎_elim
          (λ b. ids-differ w r.sound (who k) i b l q)
          (λ b. ids-differ w r.sound i (who k) (omega arith) (who-held k h) (sym q))
          (lt_or_ge (who k) i)

  -- vote k is of the member at place i, for the link s → t
  abbrev backs : ℕ → ℕ → ℕ → ℕ → Bool
  backs s t i k = aims w.targets t k && casts b.who w.sources s i k

  -- such a vote makes that member a supporter
  voted : (s t i : ℕ) → i < w.member_count
      → any_below w.vote_count (backs s t i) ≡ supports (model_of w) s t (member_in w i)
  unfolding model_of supports vote_held
  voted s t i l =
      let vote = vote_for (get_or w.ids i 0) s t in
      any_same w.vote_count (backs s t i) (λ k. same_vote (vote_in w k) vote)
      (λ k h.
      ap₂ (λ (x : Bool) (p : ℕ). aims w.targets t k && (x && eqb p s)) (same-member k i h l) refl
      ∙ and_comm (aims w.targets t k) (eqb (id k) vote.voter && eqb (place_at w.sources k) s))
      ∙ sym (any-tabulate (λ v. same_vote v vote) w.vote_count (vote_in w))

  -- nobody votes from a place where no member is
  unvoted : (s t i : ℕ) → w.member_count ≤ i → any_below w.vote_count (backs s t i) ≡ false
  unvoted s t i l = not_so (λ e. none (below-found w.vote_count (backs s t i) e))
    where
      none : Below w.vote_count (backs s t i) → ⊥
      none f =
          let k = f.at in
          let cast = and_right (aims w.targets t k) (casts b.who w.sources s i k) f.passes in
          let voter = and_left (eqb (who k) i) (eqb (place_at w.sources k) s) cast in
          omega (arith, who-held k f.inside, eqb-true (who k) i voter)

  -- what is gathered for a target: the supporters of the link from each source
  pub backers : (t : ℕ) (tally : ℕ → Voters) → t < 512
      → Tallied b.who w.sources b.chains.next (get_or b.chains.head t 0) tally
      → (s : ℕ) → s < 512 → Backers w s t (tally s)
  backers t tally h all s l =
      record { held = λ i k. is i ∙ voted s t i k; beyond = λ i k. is i ∙ unvoted s t i k }
    where
      n : ℕ
      n = w.vote_count

      is : (i : ℕ) → among (tally s) i ≡ any_below n (backs s t i)
      is i =
          let c = r.chained in
          let chain = linked-chain (λ k. place_at w.targets k) c.linked t n (omega arith) (c.heads t h) in
          all (aims w.targets t) n chain s i l
