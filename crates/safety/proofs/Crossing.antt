-- The combinatorial half, with no bonds: the proof of source document 002, theorem 1, over any relation for the links,
-- anything that may seal a justified checkpoint, and any goal. What two links are good for, once they are found, is the
-- caller's part.
use Prim.Native.Nat.{ℕ, ◌<◌, ◌≤◌}
use native.Mathlib.Nat.{le_refl}
use native.Mathlib.Omega.{arith}
use mathlib.Core.Path.{◌≡◌, refl, sym, subst}
use mathlib.Core.Logic.{◌⊎◌, inl, inr, ⊎_elim}
use mathlib.Core.List.{List}
use Rattle.model.specs.Finality.{JustifiedBy, root, link}
use Rattle.model.specs.Model.{Checkpoint, height_of}
use Rattle.model.specs.Tree.{Ancestor, Conflict}
use Rattle.model.specs.WellFormed.{GoodTree}
use Rattle.model.proofs.Lists.{lt_or_ge}
use Rattle.model.proofs.Tree.{ancestor_trans, ancestor-lower}

-- t is b or an ancestor of b
abbrev pub OnWay : List Checkpoint → ℕ → ℕ → Type 0
OnWay cs t b = (t ≡ b) ⊎ Ancestor cs t b

on_way_up : {cs : List Checkpoint} {s t b : ℕ} → Ancestor cs s t → OnWay cs t b → OnWay cs s b
on_way_up {cs} {s} up (inl e) = inr (subst (λ (p : ℕ). Ancestor cs s p) e up)
on_way_up up (inr over) = inr (ancestor_trans up over)

module _ (cs : List Checkpoint) (tree : GoodTree cs) (L : ℕ → ℕ → Type 0) (climbs : (s t : ℕ) → L s t → Ancestor cs s t) where
  link-height : {s t : ℕ} → L s t → height_of cs s < height_of cs t
  link-height {s} {t} l = ancestor-lower cs tree (climbs s t l)

  -- no justified checkpoint is lower than the root
  root-lowest : {p : ℕ} → JustifiedBy L p → height_of cs 0 ≤ height_of cs p
  root-lowest root = le_refl _
  root-lowest (link j l) = omega (arith, root-lowest j, link-height l)

  -- two different justified checkpoints of one height: links lead into both
  both-linked : {a t : ℕ} (X : Type 0) → ((s1 s2 : ℕ) → L s1 a → L s2 t → X) → JustifiedBy L a → JustifiedBy L t → (a ≡ t → ⊥) → height_of cs a ≡ height_of cs t → X
  both-linked X found root root differ e = absurd (differ refl)
  both-linked X found root (link j l) differ e = absurd (omega (arith, root-lowest j, link-height l))
  both-linked X found (link j l) root differ e = absurd (omega (arith, root-lowest j, link-height l))
  both-linked X found (link {s = s1} j1 l1) (link {s = s2} j2 l2) differ e = found s1 s2 l1 l2

  module _ (X : Type 0) (a b : ℕ) (ja : JustifiedBy L a)
      (level : (s1 s2 t : ℕ) → L s1 a → L s2 t → OnWay cs t b → (a ≡ t → ⊥) → height_of cs a ≡ height_of cs t → X)
      (over : (s t : ℕ) → L s t → OnWay cs t b → height_of cs s < height_of cs a → height_of cs a < height_of cs t → X) where
    -- follow the links that justify b down from b: one passes over a, or one ends at a's height
    walk : {t : ℕ} → JustifiedBy L t → OnWay cs t b → height_of cs a ≤ height_of cs t → (a ≡ t → ⊥) → (Ancestor cs a t → ⊥) → X
    walk root on high differ apart =
        let e : height_of cs a ≡ height_of cs 0 = omega (arith, root-lowest ja) in
        both-linked X (λ s1 s2 l1 l2. level s1 s2 0 l1 l2 on differ e) ja root differ e
    walk (link {s} {t} j l) on high differ apart =
        ⊎_elim
        (over_or (λ further. walk j (on_way_up (climbs s t l) on) further source_differs source-apart))
        (λ no-higher. at_level (omega arith))
        (lt_or_ge (height_of cs a) (height_of cs t))
      where
        at_level : height_of cs a ≡ height_of cs t → X
        at_level e = both-linked X (λ s1 s2 l1 l2. level s1 s2 t l1 l2 on differ e) ja (link j l) differ e

        source_differs : a ≡ s → ⊥
        source_differs e = apart (subst (λ (p : ℕ). Ancestor cs p t) (sym e) (climbs s t l))

        source-apart : Ancestor cs a s → ⊥
        source-apart p = apart (ancestor_trans p (climbs s t l))

        over_or : (height_of cs a ≤ height_of cs s → X) → height_of cs a < height_of cs t → X
        over_or further above = ⊎_elim (λ below. over s t l on below above) further (lt_or_ge (height_of cs s) (height_of cs a))

    -- `a` and `b` are justified, b is no lower, not a and no descendant of a
    pub crossing : JustifiedBy L b → height_of cs a ≤ height_of cs b → (a ≡ b → ⊥) → (Ancestor cs a b → ⊥) → X
    crossing jb high differ apart = walk jb (inl refl) high differ apart

  -- two checkpoints that conflict, each justified and sealed by P: the lower one goes first
  module _ (X : Type 0) (P : ℕ → Type 0)
      (level : (s1 t1 s2 t2 : ℕ) → L s1 t1 → L s2 t2 → (t1 ≡ t2 → ⊥) → height_of cs t1 ≡ height_of cs t2 → X)
      (over : (a s t : ℕ) → P a → L s t → height_of cs s < height_of cs a → height_of cs a < height_of cs t → X) where
    pub finals_cross : (a b : ℕ) → JustifiedBy L a → P a → JustifiedBy L b → P b → Conflict cs a b → X
    finals_cross a b ja pa jb pb c =
        ⊎_elim
        (λ higher. from a b ja pa jb (omega arith) c.differ c.not_above)
        (λ no-higher. from b a jb pb ja no-higher (λ e. c.differ (sym e)) c.not-below)
        (lt_or_ge (height_of cs a) (height_of cs b))
      where
        from : (d e : ℕ) → JustifiedBy L d → P d → JustifiedBy L e → height_of cs d ≤ height_of cs e → (d ≡ e → ⊥) → (Ancestor cs d e → ⊥) → X
        from d e jd pd je = crossing X d e jd (λ s1 s2 t l1 l2 on. level s1 d s2 t l1 l2) (λ s t l on. over d s t pd l) je
