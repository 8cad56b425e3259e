-- What is known of the places below one, as a list of their own: the same of each.
use Prim.Native.Nat.{ℕ, zero, suc, ◌<◌, ◌≤◌}
use native.Mathlib.Omega.{arith}
use mathlib.Core.Path.{◌≡◌, refl, ap, ap₂, ◌∙◌}
use mathlib.Core.List.{List}
use mathlib.Core.Bool.{Bool, cond, ◌&&◌, not}
use lib.ListN.{length, take}
use lib.Seq.{length-take-le}
use Rattle.std.proofs.lemmas.List.{get_or-take}
use Rattle.model.specs.Lists.{any_below}
use Rattle.model.specs.Model.{Checkpoint}
use Rattle.model.specs.Tree.{ancestor?}
use Rattle.search.specs.Chains.{last_below}
use Rattle.search.proofs.Pointwise.{any_same}
use Rattle.tally.specs.declared.links.Mark.{Mark}
use Rattle.tally.specs.Marks.{final_at}
use Rattle.finality.specs.Answers.{stray}

last_same : (n : ℕ) (p q : ℕ → Bool) → ((i : ℕ) → i < n → p i ≡ q i) → last_below n p ≡ last_below n q
unfolding last_below
last_same zero p q e = refl
last_same (suc n) p q e =
    ap₂ (λ (b : Bool) (x : ℕ). cond b (suc n) x) (e n (omega arith)) (last_same n p q (λ i h. e i (omega arith)))

module _ (marks : List Mark) (n : ℕ) where
  pub final_front : (p : ℕ) → p < n → final_at (take n marks) p ≡ final_at marks p
  final_front p h = ap (λ (m : Mark). m.justified && m.finalizing) (get_or-take n marks p _ h)

  module _ (h : n ≤ length marks) where
    pub many : length (take n marks) ≡ n
    many = length-take-le n marks h

    pub last_front : last_below (length (take n marks)) (final_at (take n marks)) ≡ last_below n (final_at marks)
    last_front =
        ap (λ (k : ℕ). last_below k (final_at (take n marks))) many
        ∙ last_same n (final_at (take n marks)) (final_at marks) final_front

    pub strays_front : (cs : List Checkpoint) (f : ℕ)
        → any_below (length (take n marks)) (stray (final_at (take n marks)) cs f)
        ≡ any_below n (stray (final_at marks) cs f)
    strays_front cs f =
        ap (λ (k : ℕ). any_below k (stray (final_at (take n marks)) cs f)) many
        ∙ any_same n (stray (final_at (take n marks)) cs f) (stray (final_at marks) cs f)
        (λ p l. ap (λ (b : Bool). b && not (ancestor? cs p f)) (final_front p l))
