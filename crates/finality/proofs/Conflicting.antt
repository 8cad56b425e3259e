-- Two final checkpoints conflict exactly when some final place is neither the greatest final place nor an ancestor of
-- it.
use Prim.Native.Nat.{ℕ, suc, ◌<◌, ◌≤◌}
use native.Mathlib.Omega.{arith}
use mathlib.Core.Path.{◌≡◌, sym, ap, ◌∙◌, subst}
use mathlib.Core.Logic.{◌⊎◌, inl, inr, ⊎_elim}
use mathlib.Core.List.{List}
use mathlib.Core.Bool.{Bool, true, not}
use borrow.Author.Tests.{not-true}
use lib.ListN.{length}
use Rattle.model.specs.Lists.{any_below}
use Rattle.model.specs.Model.{Model, Checkpoint}
use Rattle.model.specs.Tree.{Ancestor, near, far, Conflict, ancestor?}
use Rattle.model.specs.Finality.{Final, genesis, ConflictingFinals, final?, conflicting?}
use Rattle.model.specs.WellFormed.{WellFormed}
use Rattle.model.proofs.Lists.{decided, clash, not_so, both, and_left, and_right, lt_or_ge}
use Rattle.model.proofs.Lists.{Below, below-found, found_below}
use Rattle.model.proofs.Tree.{ancestor-later, ancestor_true, true_ancestor, conflict-swap}
use Rattle.model.proofs.Finality.{final-held, final_true, true_final, conflict-exact}
use Rattle.search.specs.Chains.{last_below}
use Rattle.search.proofs.Below.{same_test}
use Rattle.search.proofs.Chains.{last_le, last-above, last-at}
use Rattle.finality.specs.Answers.{stray}

-- two ancestors of one checkpoint are equal, or one is the other's ancestor
comparable : {cs : List Checkpoint} {a b t : ℕ}
    → Ancestor cs a t → Ancestor cs b t → (a ≡ b) ⊎ (Ancestor cs a b ⊎ Ancestor cs b a)
comparable (near c) (near d) = inl (sym c.from ∙ d.from)
comparable {cs} {a} {b} (near c) (far up d) =
    inr (inr (subst (λ (x : ℕ). Ancestor cs b x) (sym d.from ∙ c.from) up))
comparable {cs} {a} {b} (far up c) (near d) =
    inr (inl (subst (λ (x : ℕ). Ancestor cs a x) (sym c.from ∙ d.from) up))
comparable {cs} {a} {b} (far up c) (far over d) =
    comparable up (subst (λ (x : ℕ). Ancestor cs b x) (sym d.from ∙ c.from) over)

module _ (m : Model) (good : WellFormed m) (fin : ℕ → Bool)
    (is : (p : ℕ) → p < length m.checkpoints → fin p ≡ final? m p) where
  final_fin : {p : ℕ} → Final m p → fin p ≡ true
  final_fin {p} f = is p (final-held m good f) ∙ true_final m good p f

  -- the root passes the test
  pub root_fin : fin 0 ≡ true
  root_fin = final_fin genesis

  -- the greatest final place decides
  pub last-decides : (f : ℕ) → last_below (length m.checkpoints) fin ≡ suc f
      → any_below f (stray fin m.checkpoints f) ≡ conflicting? m
  last-decides f e = same_test (λ t. there (below-found f test t)) (λ t. back ((conflict-exact m good).0 t))
    where
      test : ℕ → Bool
      test = stray fin m.checkpoints f

      inside : f < length m.checkpoints
      inside = omega (arith, last_le fin (length m.checkpoints))

      held : (p : ℕ) → p < length m.checkpoints → fin p ≡ true → Final m p
      held p h t = final_true m good p (sym (is p h) ∙ t)

      there : Below f test → conflicting? m ≡ true
      there b =
          let p = b.at in
          let up? = ancestor? m.checkpoints p f in
          let apart = not-true up? (and_right (fin p) (not up?) b.passes) in
          (conflict-exact m good).1
          (record {
            one = p;
            other = f;
            one-final = held p (omega (arith, b.inside, inside)) (and_left (fin p) (not up?) b.passes);
            other-final = held f inside (last-at fin (length m.checkpoints) f e);
            conflict = record {
              differ = λ q. omega (arith, b.inside);
              not_above = λ up. clash (true_ancestor m.checkpoints good.tree p f up) apart;
              not-below = λ up. omega (arith, b.inside, ancestor-later m.checkpoints good.tree up);
            };
          })

      -- no final place is past f
      low : (p : ℕ) → Final m p → p ≤ f
      low p x = ⊎_elim
          (λ l. clash (final_fin x) (last-above fin (length m.checkpoints) p (final-held m good x) (omega arith)))
          (λ l. l)
          (lt_or_ge f p)

      strays : (p : ℕ) → Final m p → p < f → (Ancestor m.checkpoints p f → ⊥) → any_below f test ≡ true
      strays p x l apart =
          found_below f test p l
          (both (final_fin x) (ap not (not_so (λ t. apart (ancestor_true m.checkpoints good.tree p f t)))))

      -- p is above f, or it strays
      above : (p : ℕ) → Final m p → p < f → (Ancestor m.checkpoints p f) ⊎ (any_below f test ≡ true)
      above p x l = ⊎_elim
          (λ t. inl (ancestor_true m.checkpoints good.tree p f t))
          (λ n. inr (strays p x l (λ up. clash (true_ancestor m.checkpoints good.tree p f up) n)))
          (decided (ancestor? m.checkpoints p f))

      -- one of the two is the greatest
      top : (a b : ℕ) → Final m b → a ≡ f → Conflict m.checkpoints a b → any_below f test ≡ true
      top a b x q c =
          strays b x (omega (arith, low b x, differ))
          (λ up. c.not-below (subst (λ (k : ℕ). Ancestor m.checkpoints b k) (sym q) up))
        where
          differ : b ≡ f → ⊥
          differ r = c.differ (q ∙ sym r)

      -- two ancestors of f don't conflict
      in_line : {a b : ℕ} → Conflict m.checkpoints a b
          → Ancestor m.checkpoints a f → Ancestor m.checkpoints b f → ⊥
      in_line c up over = ⊎_elim c.differ (⊎_elim c.not_above c.not-below) (comparable up over)

      neither : (a b : ℕ) → Final m a → Final m b → a < f → b < f → Conflict m.checkpoints a b
          → any_below f test ≡ true
      neither a b x y l k c =
          ⊎_elim (λ up. ⊎_elim (λ over. absurd (in_line c up over)) (λ t. t) (above b y k)) (λ t. t) (above a x l)

      back : ConflictingFinals m → any_below f test ≡ true
      back c = ⊎_elim
          (λ l. ⊎_elim
          (λ k. neither c.one c.other c.one-final c.other-final l k c.conflict)
          (λ k.
          let last : c.other ≡ f = omega (arith, low c.other c.other-final) in
          top c.other c.one c.one-final last (conflict-swap c.conflict))
          (lt_or_ge c.other f))
          (λ l. top c.one c.other c.other-final (omega (arith, low c.one c.one-final)) c.conflict)
          (lt_or_ge c.one f)
