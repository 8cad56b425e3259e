-- What the board paper shows behind a checkpoint: the largest support of a link into it from a justified source.
use Prim.Native.Nat.{ℕ, zero, suc, ◌+◌, ◌-◌, ◌<◌, ◌≤◌}
use native.Mathlib.Nat.{add-suc}
use native.Mathlib.Omega.{arith}
use mathlib.Core.Path.{◌≡◌, refl, sym, ap, ◌∙◌, subst}
use mathlib.Core.Logic.{⊎_elim}
use mathlib.Core.Bool.{true, false}
use borrow.Author.Tests.{lt-ltb, le-ltb}
use lib.ListN.{length}
use Rattle.model.specs.Exact.{BestExact, shown, zeros}
use Rattle.model.specs.Finality.{Justified, justified?}
use Rattle.model.specs.Model.{Model}
use Rattle.model.specs.Paper.{larger, best_below, best_support}
use Rattle.model.specs.Support.{Support, support, unsupported}
use Rattle.model.specs.WellFormed.{WellFormed}
use Rattle.model.proofs.Finality.{justified_true, true_justified, justified-held}
use Rattle.model.proofs.Lists.{clash, decided, lt_or_ge}
use Rattle.model.proofs.Support.{nobody-behind, voter-climbs, bonds-behind, someone-behind}
use Rattle.model.proofs.Tree.{ancestor-later}

module _ (one other : Support) where
  pub larger-first : other.bonds ≤ one.bonds → larger one other ≡ one
  unfolding larger
  larger-first h = rw (le-ltb one.bonds other.bonds h)

  pub larger-second : one.bonds < other.bonds → larger one other ≡ other
  unfolding larger
  larger-second h = rw (lt-ltb one.bonds other.bonds h)

module _ (m : Model) (good : WellFormed m) (t : ℕ) where
  -- the bonds behind the link from s
  abbrev behind : ℕ → ℕ
  behind s = (support m s t).bonds

  -- the best so far, once the places below n are passed
  data Passed (n : ℕ) : Type 0 where
    found : (s : ℕ)
        → s < n
        → Justified m s
        → 0 < behind s
        → ((r : ℕ) → r < n → Justified m r → behind r ≤ behind s)
        → ((r : ℕ) → r < s → Justified m r → behind r < behind s)
        → best_below m t n ≡ support m s t
        → Passed n
    nothing : ((r : ℕ) → r < n → Justified m r → behind r ≡ 0) → best_below m t n ≡ unsupported → Passed n

  -- what holds of the places below n and of n
  one_later : {P : ℕ → Type 0} {n : ℕ} → ((r : ℕ) → r < n → P r) → P n → (r : ℕ) → r < suc n → P r
  one_later {P} {n} before at r h =
      ⊎_elim (before r) (λ l. subst P (let e : n ≡ r = omega arith in e) at) (lt_or_ge r n)

  -- a place that isn't justified adds nothing
  skipped : (n : ℕ) → justified? m n ≡ false → best_below m t (suc n) ≡ best_below m t n
  unfolding best_below
  skipped n e = rw e (larger-first (best_below m t n) unsupported (omega arith))

  taken : (n : ℕ) → justified? m n ≡ true → best_below m t (suc n) ≡ larger (best_below m t n) (support m n t)
  unfolding best_below
  taken n e = rw e

  passed-more : (n : ℕ) → Passed n → Passed (suc n)
  passed-more n p = ⊎_elim (yes p) (no p) (decided (justified? m n))
    where
      no : Passed n → justified? m n ≡ false → Passed (suc n)
      no (found s inside j some most lowest is) e =
          found s (omega arith) j some
          (one_later most (λ k. clash (true_justified m good n k) e))
          lowest
          (skipped n e ∙ is)
      no (nothing none is) e =
          nothing (one_later none (λ k. clash (true_justified m good n k) e)) (skipped n e ∙ is)

      yes : Passed n → justified? m n ≡ true → Passed (suc n)
      yes (found s inside j some most lowest is) e = ⊎_elim
          (λ more.
          found n (omega arith) (justified_true m good n e) (omega arith)
          (one_later (λ r h k. omega (arith, most r h k)) (λ k. omega arith))
          (λ r h k. omega (arith, most r h k))
          (taken n e ∙ ap (λ x. larger x (support m n t)) is ∙ larger-second (support m s t) (support m n t) more))
          (λ less.
          found s (omega arith) j some
          (one_later most (λ k. less))
          lowest
          (taken n e ∙ ap (λ x. larger x (support m n t)) is ∙ larger-first (support m s t) (support m n t) less))
          (lt_or_ge (behind s) (behind n))
      yes (nothing none is) e = ⊎_elim
          (λ more.
          found n (omega arith) (justified_true m good n e) more
          (one_later (λ r h k. omega (arith, none r h k)) (λ k. omega arith))
          (λ r h k. omega (arith, none r h k))
          (taken n e ∙ ap (λ x. larger x (support m n t)) is ∙ larger-second unsupported (support m n t) more))
          (λ less.
          nothing (one_later none (λ k. omega arith))
          (taken n e ∙ ap (λ x. larger x (support m n t)) is ∙ larger-first unsupported (support m n t) less))
          (lt_or_ge 0 (behind n))

  passed-all : (n : ℕ) → Passed n
  unfolding best_below
  passed-all zero = nothing (λ r h k. absurd (omega arith)) refl
  passed-all (suc n) = passed-more n (passed-all n)

  pub best_exact : BestExact m t
  unfolding best_support
  best_exact = whole (passed-all (length m.checkpoints))
    where
      whole : Passed (length m.checkpoints) → BestExact m t
      whole (found s inside j some most lowest is) =
          shown
          (record {
            justified = j;
            supported = someone-behind m s t some;
            most = λ r k. most r (justified-held m good k) k;
            lowest = lowest;
          })
          is
      whole (nothing none is) =
          zeros (λ s k. ap (λ (x : Support). x.number) (bonds-behind m good s t (none s (justified-held m good k) k)))
          is

  -- a source's place is below its target's, so the places from t on add nothing
  below_more : (d : ℕ) → best_below m t (t + d) ≡ best_below m t t
  below_more zero = ap (best_below m t) (let e : t + 0 ≡ t = omega arith in e)
  below_more (suc d) =
      ap (best_below m t) (add-suc t d) ∙ ⊎_elim later (skipped (t + d)) (decided (justified? m (t + d))) ∙ below_more d
    where
      unbacked : support m (t + d) t ≡ unsupported
      unbacked =
          nobody-behind m good.rule (t + d) t (λ f. omega
          (arith, ancestor-later m.checkpoints good.tree (voter-climbs m good (t + d) t f)))

      later : justified? m (t + d) ≡ true → best_below m t (suc (t + d)) ≡ best_below m t (t + d)
      later e =
          taken (t + d) e ∙ ap (larger (best_below m t (t + d))) unbacked
          ∙ larger-first (best_below m t (t + d)) unsupported (omega arith)

  pub best_below_lem : t ≤ length m.checkpoints → best_below m t t ≡ best_support m t
  unfolding best_support
  best_below_lem h =
      sym (below_more (length m.checkpoints - t))
      ∙ ap (best_below m t) (let e : t + (length m.checkpoints - t) ≡ length m.checkpoints = omega arith in e)
