-- The links from the places below a target: the front of an array, as a list of their own.
use Prim.Native.Nat.{ℕ, zero, suc, ◌<◌, ◌≤◌}
use native.Mathlib.Omega.{arith}
use mathlib.Core.Path.{◌≡◌, refl, ap, ap₂, ◌∙◌}
use mathlib.Core.List.{List}
use mathlib.Core.Bool.{Bool, cond}
use lib.ListN.{length, take}
use lib.Seq.{length-take-le}
use Rattle.std.proofs.lemmas.List.{get_or-take}
use Rattle.model.specs.Lists.{any_below}
use Rattle.search.proofs.Pointwise.{any_same}
use Rattle.voters.specs.declared.Voters.{Voters}
use Rattle.voters.specs.Bits.{nobody}
use Rattle.tally.specs.declared.links.Mark.{Mark}
use Rattle.tally.specs.Chains.{voters_at}
use Rattle.tally.specs.Marks.{justified_at}
use Rattle.tally.specs.Weights.{heavier, heaviest}

-- the heaviest asks for no more than the voters of the places below
heaviest_same : (weight : Voters → ℕ) (marks : List Mark) (f g : ℕ → Voters) (n : ℕ)
    → ((s : ℕ) → s < n → f s ≡ g s) → heaviest weight marks f n ≡ heaviest weight marks g n
unfolding heaviest
heaviest_same weight marks f g zero e = refl
heaviest_same weight marks f g (suc s) e =
    ap₂ (λ (u v : Voters). heavier weight u (cond (justified_at marks s) v nobody))
    (heaviest_same weight marks f g s (λ i h. e i (omega arith))) (e s (omega arith))

module _ (voters : List Voters) (n : ℕ) (h : n ≤ length voters) where
  many : length (take n voters) ≡ n
  many = length-take-le n voters h

  pub any_front : (p : ℕ → Voters → Bool)
      → any_below (length (take n voters)) (λ s. p s (voters_at (take n voters) s))
      ≡ any_below n (λ s. p s (voters_at voters s))
  any_front p =
      ap (λ (k : ℕ). any_below k (λ s. p s (voters_at (take n voters) s))) many
      ∙ any_same n _ _ (λ s l. ap (p s) (get_or-take n voters s nobody l))

  pub heaviest_front : (weight : Voters → ℕ) (marks : List Mark)
      → heaviest weight marks (voters_at (take n voters)) (length (take n voters))
      ≡ heaviest weight marks (voters_at voters) n
  heaviest_front weight marks =
      ap (heaviest weight marks (voters_at (take n voters))) many
      ∙ heaviest_same weight marks _ _ n (λ s l. get_or-take n voters s nobody l)
