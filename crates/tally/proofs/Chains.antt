-- The walk of the chain of one target's votes: it gathers the voters of every link to the target.
use Prim.Native.Nat.{ℕ, ◌+◌, ◌-◌, ◌<◌, ◌≤◌}
use native.Mathlib.Omega.{arith}
use mathlib.Core.Path.{◌≡◌, refl, sym, ap, ap₂, ◌∙◌, subst}
use mathlib.Core.Logic.{⊎_elim}
use mathlib.Core.List.{List}
use mathlib.Core.Bool.{Bool, true, false, ◌&&◌, ◌||◌, or-false, and-true, and-false}
use borrow.Author.Tests.{eq-eqb, ne_eqb, eqb-true, eqb-false}
use lib.Dec.{eqb}
use lib.ListN.{length, get_or, set, length-set, length-replicate, get_or-replicate}
use lib.Seq.{get_or-set_same, get_or-set_other}
use Rattle.model.specs.declared.Place.{Place}
use Rattle.model.proofs.Lists.{decided}
use Rattle.tables.specs.Places.{place_at}
use Rattle.search.proofs.Chains.{Walked, walked_none, walked_more, walked_all}
use Rattle.voters.specs.declared.Voters.{Voters}
use Rattle.voters.specs.Bits.{nobody, among}
use Rattle.voters.proofs.Bits.{among_none}
use Rattle.tally.specs.Chains.{voters_at, no_voters, casts, Walkable, Tallied}

eqb_comm : (a b : ℕ) → eqb a b ≡ eqb b a
eqb_comm a b = ⊎_elim (λ e. e ∙ sym (eq-eqb b a (sym (eqb-true a b e)))) (λ e. e ∙ sym (ne_eqb b a (λ q. eqb-false a b e (sym q)))) (decided (eqb a b))

-- the walk from `first` has come to `at`, for every source s and every member's place i
pub record Gathered (who : List ℕ) (sources : List Place) (next : List ℕ) (first : ℕ) (voters : List Voters) (at : ℕ) : Type 0 where
  pub low : at ≤ first
  pub long : length voters ≡ 512
  pub each : (s i : ℕ) → s < 512 → Walked (casts who sources s i) next first (among (voters_at voters s) i) at

module _ (who : List ℕ) (sources : List Place) (next : List ℕ) (first : ℕ) where
  pub gathered_none : {voters : List Voters} → voters ≡ no_voters → Gathered who sources next first voters first
  gathered_none {voters} l =
      record {
        low = omega arith;
        long = ap length l ∙ length-replicate 512 nobody;
        each = λ s i inside.
            subst (λ (b : Bool). Walked (casts who sources s i) next first b first)
            (sym (ap (λ (v : Voters). among v i) (nobody-at s inside) ∙ among_none i))
            (walked_none (casts who sources s i) next first);
      }
    where
      nobody-at : (s : ℕ) → s < 512 → voters_at voters s ≡ nobody
      nobody-at s inside = ap (λ (x : List Voters). voters_at x s) l ∙ get_or-replicate 512 s nobody nobody inside

  -- one vote more: it is its member's, for the link from its source
  gathered_more : (at : ℕ) (voters : List Voters) (v : Voters)
      → 0 < at
      → Walkable who sources next first
      → Gathered who sources next first voters at
      → ((j : ℕ) → among v j ≡ (among (voters_at voters (place_at sources (at - 1))) j || eqb j (get_or who (at - 1) 0)))
      → Gathered who sources next first (set voters (place_at sources (at - 1)) v) (get_or next (at - 1) 0)
  gathered_more at voters v h walk so with =
      record {
        low = omega (arith, earlier, so.low);
        long = length-set voters src v ∙ so.long;
        each =
            λ s i l. walked_more (casts who sources s i) next first at h earlier (added s i (eqb src s) refl)
            (so.each s i l);
      }
    where
      k : ℕ
      k = at - 1

      src : ℕ
      src = place_at sources k

      earlier : get_or next k 0 ≤ k
      earlier = walk.earlier k (omega (arith, so.low))

      inside : src < 512
      inside = walk.source k (omega (arith, so.low))

      tally : ℕ → Voters
      tally = voters_at voters

      -- vote k is of the member at place i, and has the source s
      cast : ℕ → ℕ → Bool
      cast s i = eqb (get_or who k 0) i && eqb src s

      added : (s i : ℕ) (b : Bool) → eqb src s ≡ b
          → among (voters_at (set voters src v) s) i ≡ (among (tally s) i || cast s i)
      added s i true e =
          let q : src ≡ s = eqb-true src s e in
          subst (λ (x : ℕ). among (voters_at (set voters src v) x) i ≡ (among (tally x) i || cast x i)) q
          (ap (λ (u : Voters). among u i) (get_or-set_same voters src v nobody (omega (arith, inside, so.long)))
          ∙ with i
          ∙ ap (◌||◌ (among (tally src) i))
          (eqb_comm i (get_or who k 0)
          ∙ sym (ap (◌&&◌ (eqb (get_or who k 0) i)) (eq-eqb src src refl) ∙ and-true (eqb (get_or who k 0) i))))
      added s i false e =
          ap (λ (u : Voters). among u i) (get_or-set_other voters src s v nobody (λ q. eqb-false src s e (sym q)))
          ∙ sym
          (ap (◌||◌ (among (tally s) i)) (ap (◌&&◌ (eqb (get_or who k 0) i)) e ∙ and-false (eqb (get_or who k 0) i))
          ∙ or-false (among (tally s) i))

  -- the same, by the numbers that the code has read
  pub gathered_next : (at k src i : ℕ) (voters : List Voters) (v : Voters)
      → k + 1 ≡ at
      → src ≡ place_at sources k
      → i ≡ get_or who k 0
      → Walkable who sources next first
      → Gathered who sources next first voters at
      → ((j : ℕ) → among v j ≡ (among (voters_at voters src) j || eqb j i))
      → Gathered who sources next first (set voters src v) (get_or next k 0)
  gathered_next at k src i voters v e from of walk so with =
      let is : k ≡ at - 1 = omega arith in
      let source = from ∙ ap (place_at sources) is in
      let member = of ∙ ap (λ (x : ℕ). get_or who x 0) is in
      rw (source, is)
      (gathered_more at voters v (omega arith) walk so
      (λ j. with j ∙ ap₂ ◌||◌ (ap (λ (x : ℕ). among (voters_at voters x) j) source) (ap (eqb j) member)))

  pub gathered_all : {at : ℕ} {voters : List Voters}
      → at ≤ 0 → Gathered who sources next first voters at → Tallied who sources next first (voters_at voters)
  gathered_all z so on count chain s i h =
      walked_all (casts who sources s i) next first z (so.each s i h) on count chain
