-- One pass over the places: which are justified, and which are the root or joined by a link with a quorum to a direct
-- child.
use Prim.Native.Nat.{ℕ, zero, suc, ◌+◌, ◌<◌, ◌≤◌}
use native.Mathlib.Omega.{arith}
use native.Mathlib.Numerals.{add-one}
use mathlib.Core.Path.{◌≡◌, refl, sym, ap, ap₂, ◌∙◌, subst}
use mathlib.Core.List.{List}
use mathlib.Core.Logic.{⊎_elim}
use borrow.Author.Count.{below_more}
use mathlib.Core.Bool.{Bool, true, false, ◌&&◌, ◌||◌, or-false, or_assoc}
use borrow.Author.Tests.{eq-eqb, eqb-true, eqb-false, ne_eqb, lt-ltb}
use lib.Dec.{eqb}
use lib.ListN.{length, set, replicate, length-set, length-replicate, get_or-replicate}
use lib.Seq.{get_or-set_same, get_or-set_other}
use Rattle.model.specs.Lists.{any_below}
use Rattle.model.specs.Model.{Model, parent_of}
use Rattle.model.specs.Support.{link?}
use Rattle.model.specs.Tree.{child?}
use Rattle.model.specs.Finality.{root, link, Justified, justified?, sealed?}
use Rattle.model.specs.WellFormed.{WellFormed}
use Rattle.model.proofs.Lists.{decided, both, and_left, and_right, Below, below-found, found_below}
use Rattle.model.proofs.Tree.{ancestor-later}
use Rattle.model.proofs.Support.{link-climbs}
use Rattle.model.proofs.Finality.{joins, justified_true, true_justified}
use Rattle.search.proofs.Below.{same_test}
use Rattle.search.proofs.Pointwise.{any_same}
use Rattle.tally.specs.declared.links.Mark.{Mark}
use Rattle.tally.specs.Marks.{justified_at, finalizing_at}
use Rattle.standing.specs.declared.Analysis.{Analysis}
use Rattle.standing.specs.Answers.{IsAnalysis}

-- s is justified, and a link with a quorum leads from it to t
abbrev leads : Model → ℕ → ℕ → Bool
leads m t s = justified? m s && link? m s t

-- p is the root, or joined to a direct child below t
abbrev finalizes : Model → ℕ → ℕ → Bool
finalizes m t p = eqb p 0 || any_below t (joins m p)

-- the places below t are marked as justified or not, and every place as the root or joined to a direct child below t,
-- or not
pub record Marked (m : Model) (marks : List Mark) (t : ℕ) : Type 0 where
  pub long : length marks ≡ 512
  pub known : (p : ℕ) → p < t → justified_at marks p ≡ justified? m p
  pub finals : (p : ℕ) → p < 512 → finalizing_at marks p ≡ finalizes m t p

-- ---- one half of a mark is written, and the other half stays

abbrev pub none : Mark
none = record { justified = false; finalizing = false }

module _ (marks : List Mark) (t : ℕ) (b : Bool) where
  abbrev pub with_justified : List Mark
  with_justified = set marks t (record { justified = b; finalizing = finalizing_at marks t })

  abbrev pub with_finalizing : List Mark
  with_finalizing = set marks t (record { justified = justified_at marks t; finalizing = b })

  module _ (h : t < length marks) where
    justified-here : justified_at with_justified t ≡ b
    justified-here = ap (λ (m : Mark). m.justified) (get_or-set_same marks t _ none h)

    finalizing-here : finalizing_at with_finalizing t ≡ b
    finalizing-here = ap (λ (m : Mark). m.finalizing) (get_or-set_same marks t _ none h)

    finalizing-kept : (p : ℕ) → finalizing_at with_justified p ≡ finalizing_at marks p
    finalizing-kept p = ⊎_elim
        (λ e.
        subst (λ (q : ℕ). finalizing_at with_justified q ≡ finalizing_at marks q) (eqb-true t p e)
        (ap (λ (m : Mark). m.finalizing) (get_or-set_same marks t _ none h)))
        (λ e. ap (λ (m : Mark). m.finalizing) (get_or-set_other marks t p _ none (λ q. eqb-false t p e (sym q))))
        (decided (eqb t p))

    justified-kept : (p : ℕ) → justified_at with_finalizing p ≡ justified_at marks p
    justified-kept p = ⊎_elim
        (λ e.
        subst (λ (q : ℕ). justified_at with_finalizing q ≡ justified_at marks q) (eqb-true t p e)
        (ap (λ (m : Mark). m.justified) (get_or-set_same marks t _ none h)))
        (λ e. ap (λ (m : Mark). m.justified) (get_or-set_other marks t p _ none (λ q. eqb-false t p e (sym q))))
        (decided (eqb t p))

  justified-elsewhere : (p : ℕ) → (p ≡ t → ⊥) → justified_at with_justified p ≡ justified_at marks p
  justified-elsewhere p other = ap (λ (m : Mark). m.justified) (get_or-set_other marks t p _ none other)

  finalizing-elsewhere : (p : ℕ) → (p ≡ t → ⊥) → finalizing_at with_finalizing p ≡ finalizing_at marks p
  finalizing-elsewhere p other = ap (λ (m : Mark). m.finalizing) (get_or-set_other marks t p _ none other)

-- the root's mark, and no other
abbrev pub rooted : List Mark
rooted = set (replicate 512 none) 0 (record { justified = true; finalizing = true })

module _ (m : Model) (good : WellFormed m) where
  -- a place other than the root is justified by a link from a justified place below it
  from-below : (t : ℕ) → 0 < t → justified? m t ≡ any_below t (leads m t)
  from-below t h = same_test (λ e. there (justified_true m good t e) h) back
    where
      there : {t : ℕ} → Justified m t → 0 < t → any_below t (leads m t) ≡ true
      there root h = absurd (omega arith)
      there (link {s = s} {t = t} j l) h =
          let below = ancestor-later m.checkpoints good.tree (link-climbs m good s t l) in
          found_below t (leads m t) s below (both (true_justified m good s j) l)

      from : Below t (leads m t) → justified? m t ≡ true
      from b =
          true_justified m good t
          (link
          (justified_true m good b.at (and_left (justified? m b.at) (link? m b.at t) b.passes))
          (and_right (justified? m b.at) (link? m b.at t) b.passes))

      back : any_below t (leads m t) ≡ true → justified? m t ≡ true
      back e = from (below-found t (leads m t) e)

  pub marked-root : Marked m rooted 1
  unfolding any_below child?
  marked-root =
      record {
        long = length-set (replicate 512 none) 0 (record { justified = true; finalizing = true }) ∙ length-replicate 512 none;
        known = λ i h.
            let e : 0 ≡ i = omega arith in
            subst (λ (k : ℕ). justified_at rooted k ≡ justified? m k) e (sym (true_justified m good 0 root));
        finals = first;
      }
    where
      first : (p : ℕ) → p < 512 → finalizing_at rooted p ≡ finalizes m 1 p
      first zero h = refl
      first (suc p) h =
          rw (ne_eqb (suc p) 0 (λ e. omega arith))
          (ap (λ (x : Mark). x.finalizing)
          (get_or-set_other (replicate 512 none) 0 (suc p) (record { justified = true; finalizing = true }) none
          (λ e. omega arith)
          ∙ get_or-replicate 512 (suc p) none none h))

  -- a place's test for a direct child is that it is the parent
  held-child : (p t : ℕ) → 0 < t → t < length m.checkpoints
      → child? m.checkpoints p t ≡ eqb (parent_of m.checkpoints t) p
  unfolding child?
  held-child p t h l = rw (lt-ltb 0 t h, lt-ltb t (length m.checkpoints) l)

  pub marked_more : (marks : List Mark) (t parent : ℕ) (L : ℕ → Bool) {reached hit : Bool}
      → 0 < t
      → t < length m.checkpoints
      → t < 512
      → parent ≡ parent_of m.checkpoints t
      → parent < 512
      → ((s : ℕ) → s < 512 → L s ≡ link? m s t)
      → reached ≡ any_below t (λ s. justified_at marks s && L s)
      → hit ≡ L parent
      → Marked m marks t
      → Marked m
      (with_finalizing (with_justified marks t reached) parent
      (finalizing_at (with_justified marks t reached) parent || hit))
      (t + 1)
  marked_more marks t parent L {reached} {hit} h l few is inside links r s so =
      record {
        long = length-set marked parent _ ∙ long;
        known = λ p b. justified-kept marked parent new room p ∙ known p b;
        finals = λ p b. more p b (eqb parent p) refl;
      }
    where
      marked : List Mark
      marked = with_justified marks t reached

      new : Bool
      new = finalizing_at marked parent || hit

      long : length marked ≡ 512
      long = length-set marks t _ ∙ so.long

      room : parent < length marked
      room = omega (arith, long)

      kept : (p : ℕ) → finalizing_at marked p ≡ finalizing_at marks p
      kept = finalizing-kept marks t reached (omega (arith, so.long))

      known : (p : ℕ) → p < t + 1 → justified_at marked p ≡ justified? m p
      known = below_more (λ p. justified_at marked p ≡ justified? m p) t
          (λ p b. justified-elsewhere marks t reached p (λ e. omega arith) ∙ so.known p b)
          (justified-here marks t reached (omega (arith, so.long))
          ∙ r
          ∙ any_same t (λ s. justified_at marks s && L s) (leads m t)
          (λ s b. ap₂ ◌&&◌ (so.known s b) (links s (omega arith)))
          ∙ sym (from-below t h))

      next : (p : ℕ) (b : Bool) → eqb parent p ≡ b
          → any_below (t + 1) (joins m p) ≡ (any_below t (joins m p) || (b && link? m p t))
      next p b e =
          unfold any_below in ap (λ (n : ℕ). any_below n (joins m p)) (add-one t)
          ∙ ap (λ (x : Bool). any_below t (joins m p) || (x && link? m p t))
          (held-child p t h l ∙ ap (λ (q : ℕ). eqb q p) (sym is) ∙ e)

      more : (p : ℕ) → p < 512 → (b : Bool) → eqb parent p ≡ b
          → finalizing_at (with_finalizing marked parent new) p ≡ finalizes m (t + 1) p
      more p w true e =
          subst (λ (q : ℕ). finalizing_at (with_finalizing marked parent new) q ≡ finalizes m (t + 1) q)
          (eqb-true parent p e)
          (finalizing-here marked parent new room
          ∙ ap₂ ◌||◌ (kept parent ∙ so.finals parent inside) (s ∙ links parent inside)
          ∙ or_assoc (eqb parent 0) (any_below t (joins m parent)) (link? m parent t)
          ∙ ap (λ (b : Bool). eqb parent 0 || b) (sym (next parent true (eq-eqb parent parent refl))))
      more p w false e =
          finalizing-elsewhere marked parent new p (λ q. eqb-false parent p e (sym q))
          ∙ kept p
          ∙ so.finals p w
          ∙ ap (λ (b : Bool). eqb p 0 || b) (sym (next p false e ∙ or-false (any_below t (joins m p))))

  pub marked_all : {marks : Analysis} {n t : ℕ}
      → length m.checkpoints ≡ n
      → n ≤ 512
      → n ≤ t
      → t ≤ n
      → Marked m marks.marks t
      → IsAnalysis m marks
  unfolding sealed?
  marked_all {marks} {n} {t} e few low high so =
      record {
        justified = λ p h. so.known p (omega arith);
        finalizing = λ p h.
            let q : t ≡ length m.checkpoints = omega arith in
            so.finals p (omega arith) ∙ ap (λ (k : ℕ). finalizes m k p) q;
      }
