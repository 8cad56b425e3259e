-- What a part answers of a kept place is what the whole answers: justified, final, the standing, the conflict answer.
use Prim.Native.Nat.{ℕ, zero, suc, ◌<◌}
use native.Mathlib.Omega.{arith}
use mathlib.Core.Path.{◌≡◌, refl, sym, ap, ap₂, ◌∙◌, subst, subst₂}
use mathlib.Core.Logic.{◌⊎◌, inl, inr, ⊎_elim}
use mathlib.Core.List.{List}
use mathlib.Core.Bool.{Bool, cond}
use lib.ListN.{length, get_or}
use Rattle.model.specs.Finality.{Justified, root, link, genesis, sealed, Final, ConflictingFinals}
use Rattle.model.specs.Finality.{justified?, final?, status, conflicting?}
use Rattle.model.specs.Model.{Model, Checkpoint, Vote, height_of, no_member}
use Rattle.model.specs.Support.{Link}
use Rattle.model.specs.Tree.{Child, Ancestor, near, far, Conflict}
use Rattle.model.specs.WellFormed.{WellFormed}
use Rattle.model.specs.declared.Status.TheVariants.{Plain as PlainStatus, Justified as JustifiedStatus}
use Rattle.model.specs.declared.Status.TheVariants.{Final as FinalStatus}
use Rattle.model.proofs.Finality.{final-justified, justified_true, true_justified, final_true, true_final}
use Rattle.model.proofs.Finality.{justified-held, final-held, conflict-exact}
use Rattle.model.proofs.Support.{supports-held, link-voter}
use Rattle.model.proofs.Tree.{ancestor_trans, ancestor-lower, conflict-swap}
use Rattle.moves.specs.Part.{Kept, At, Part}
use Rattle.moves.proofs.Part.{Within, same_test, place_same, places-kept, child-up, child-down, ancestor-up}
use Rattle.moves.proofs.Part.{ancestor-down, link-same, part-good}
use Rattle.comparison.proofs.Tied.{Low, Frozen, kept_or_not}

-- two ancestors of one place are on one branch
one_branch : {cs : List Checkpoint} {a b c : ℕ} → Ancestor cs a c → Ancestor cs b c
    → (a ≡ b) ⊎ (Ancestor cs a b ⊎ Ancestor cs b a)
one_branch (near p) (near q) = inl (sym p.from ∙ q.from)
one_branch {cs} {a} {b} (near p) (far up q) = inr (inr (subst (Ancestor cs b) (sym q.from ∙ p.from) up))
one_branch {cs} {a} {b} (far up p) (near q) = inr (inl (subst (Ancestor cs a) (sym p.from ∙ q.from) up))
one_branch {cs} {a} {b} (far up p) (far over q) =
    one_branch up (subst (Ancestor cs b) (sym q.from ∙ p.from) over)

module _ {b w : Model} {place number : ℕ → ℕ} (within : Within b w place number)
    (final : Final w (place 0)) (low : Low w (place 0)) where
  abbrev good : WellFormed w
  good = within.good

  abbrev part : Part b w place number
  part = within.part

  abbrev bc : List Checkpoint
  bc = b.checkpoints

  abbrev wc : List Checkpoint
  wc = w.checkpoints

  -- a place of w that isn't kept
  abbrev Out : ℕ → Type 0
  Out p = Kept wc (place 0) p → ⊥

  in_or_out : (p : ℕ) → Kept wc (place 0) p ⊎ Out p
  in_or_out p = kept_or_not wc good.tree (place 0) p

  link_up : (s t : ℕ) → s < length bc → t < length bc → Link b s t → Link w (place s) (place t)
  link_up s t hs ht l = sym (link-same within s t hs ht) ∙ l

  link-down : (s t : ℕ) → s < length bc → t < length bc → Link w (place s) (place t) → Link b s t
  link-down s t hs ht l = link-same within s t hs ht ∙ l

  b-good : WellFormed b
  b-good = part-good within

  -- only the first place of the part can be that of the root
  at-root : (P : ℕ → Type 0) → P 0 → (j : ℕ) → j < length bc → place j ≡ 0 → P j
  at-root P first zero l q = first
  at-root P first (suc j) l q = absurd (omega (arith, part.rises 0 (suc j) (omega arith) l))

  -- ---- justified

  justified-up : {i : ℕ} → Justified b i → Justified w (place i)
  justified-up root = final-justified final
  justified-up (link {s = s} {t = t} j l) =
      link (justified-up j) (link_up s t (justified-held b b-good j) (justified-held b b-good (link j l)) l)

  -- no quorum link passes from what is not kept to above r: its votes would be dropped, and higher
  no-passing : (s t : ℕ) → Link w s t → Out s → Ancestor wc (place 0) t → ⊥
  no-passing s t l out up =
      let f = link-voter w good s t l in
      let h = supports-held w s t (get_or w.members f.at no_member) f.passes in
      let off : Out _ = λ k. out (subst (λ (v : Vote). Kept wc (place 0) v.source) h.is k) in
      let dropped = low h.number h.inside off in
      omega (arith, ancestor-lower wc good.tree up, ap (λ (v : Vote). height_of wc v.target) h.is)

  justified-down : {p : ℕ} → Justified w p → (i : ℕ) → i < length bc → place i ≡ p → Justified b i
  justified-down root i h e = at-root (Justified b) root i h e
  justified-down (link {s = s} {t = t} j l) i h e =
      ⊎_elim
      (λ k. inner (part.whole s k (justified-held w good j)) (justified-down j))
      (λ out. outer i h e out (places-kept within i h))
      (in_or_out s)
    where
      inner : At place (length bc) s → ((a : ℕ) → a < length bc → place a ≡ s → Justified b a) → Justified b i
      inner a ih =
          link (ih a.at a.inside a.is)
          (link-down a.at i a.inside h (subst₂ (Link w) (sym a.is) (sym e) l))

      outer : (n : ℕ) → n < length bc → place n ≡ t → Out s → Kept wc (place 0) (place n) → Justified b n
      outer n hn q out (inl x) = subst (Justified b) (place_same within 0 n part.rooted hn (sym x)) root
      outer n hn q out (inr up) = absurd (no-passing s t l out (subst (Ancestor wc (place 0)) q up))

  pub justified-same : (i : ℕ) → i < length bc → justified? b i ≡ justified? w (place i)
  justified-same i h =
      same_test
      (λ e. true_justified w good (place i) (justified-up (justified_true b b-good i e)))
      (λ e. true_justified b b-good i (justified-down (justified_true w good (place i) e) i h refl))

  -- ---- final

  pub final-up : {i : ℕ} → Final b i → Final w (place i)
  final-up genesis = final
  final-up (sealed {p = i} j f) =
      sealed (justified-up j)
      (record {
        child = place f.child;
        direct = child-up within f.direct;
        linked = link_up i f.child (justified-held b b-good j) f.direct.inside f.linked;
      })

  final-found : {p : ℕ} → Final w p → (i : ℕ) → i < length bc → place i ≡ p → Final b i
  final-found genesis i h e = at-root (Final b) genesis i h e
  final-found (sealed {p = p} j f) i h e =
      let u = child-down within i f.child h (subst (λ (x : ℕ). Child wc x f.child) (sym e) f.direct) in
      sealed (justified-down j i h e)
      (record {
        child = u.at;
        direct = u.rel;
        linked = link-down i u.at h u.inside (subst₂ (Link w) (sym e) (sym u.is) f.linked);
      })

  pub final-down : (i : ℕ) → i < length bc → Final w (place i) → Final b i
  final-down i h f = final-found f i h refl

  final-same : (i : ℕ) → i < length bc → final? b i ≡ final? w (place i)
  final-same i h =
      same_test
      (λ e. true_final w good (place i) (final-up (final_true b b-good i e)))
      (λ e. true_final b b-good i (final-down i h (final_true w good (place i) e)))

  pub status-same : (i : ℕ) → i < length bc → status b i ≡ status w (place i)
  unfolding status
  status-same i h =
      ap₂ (λ (f j : Bool). cond f FinalStatus (cond j JustifiedStatus PlainStatus))
      (final-same i h) (justified-same i h)

  -- ---- the conflict answer

  conflict-up : ConflictingFinals b → ConflictingFinals w
  conflict-up c =
      let one = final-held b b-good c.one-final in
      let other = final-held b b-good c.other-final in
      record {
        one = place c.one;
        other = place c.other;
        one-final = final-up c.one-final;
        other-final = final-up c.other-final;
        conflict = record {
          differ = λ e. c.conflict.differ (place_same within c.one c.other one other e);
          not_above = λ up. c.conflict.not_above (ancestor-down within c.one c.other one other up);
          not-below = λ up. c.conflict.not-below (ancestor-down within c.other c.one other one up);
        };
      }

  conflict-at : (i j : ℕ) → i < length bc → j < length bc → Final w (place i) → Final w (place j)
      → Conflict wc (place i) (place j) → ConflictingFinals b
  conflict-at i j hi hj f g c =
      record {
        one = i;
        other = j;
        one-final = final-down i hi f;
        other-final = final-down j hj g;
        conflict = record {
          differ = λ e. c.differ (ap place e);
          not_above = λ up. c.not_above (ancestor-up within up);
          not-below = λ up. c.not-below (ancestor-up within up);
        };
      }

  -- no final checkpoint that isn't kept conflicts with any
  no_outer : Frozen w (place 0) → (x y : ℕ) → Final w x → Final w y → Out x → Conflict wc x y → ⊥
  no_outer frozen x y f g out c = go (in_or_out y)
    where
      under : Ancestor wc x (place 0)
      under = frozen x f out

      apart : (x ≡ y) ⊎ (Ancestor wc x y ⊎ Ancestor wc y x) → ⊥
      apart (inl e) = c.differ e
      apart (inr (inl up)) = c.not_above up
      apart (inr (inr up)) = c.not-below up

      go : Kept wc (place 0) y ⊎ Out y → ⊥
      go (inl (inl e)) = c.not_above (subst (Ancestor wc x) (sym e) under)
      go (inl (inr up)) = c.not_above (ancestor_trans under up)
      go (inr off) = apart (one_branch under (frozen y g off))

  conflict-down : Frozen w (place 0) → ConflictingFinals w → ConflictingFinals b
  conflict-down frozen c = go (in_or_out c.one) (in_or_out c.other)
    where
      go : Kept wc (place 0) c.one ⊎ Out c.one → Kept wc (place 0) c.other ⊎ Out c.other
          → ConflictingFinals b
      go (inr out) y = absurd (no_outer frozen c.one c.other c.one-final c.other-final out c.conflict)
      go (inl x) (inr out) =
          absurd (no_outer frozen c.other c.one c.other-final c.one-final out (conflict-swap c.conflict))
      go (inl x) (inl y) =
          let i = part.whole c.one x (final-held w good c.one-final) in
          let j = part.whole c.other y (final-held w good c.other-final) in
          conflict-at i.at j.at i.inside j.inside
          (subst (Final w) (sym i.is) c.one-final)
          (subst (Final w) (sym j.is) c.other-final)
          (subst₂ (Conflict wc) (sym i.is) (sym j.is) c.conflict)

  pub conflicting_same : Frozen w (place 0) → conflicting? b ≡ conflicting? w
  conflicting_same frozen =
      same_test
      (λ e. (conflict-exact w good).1 (conflict-up ((conflict-exact b b-good).0 e)))
      (λ e. (conflict-exact b b-good).1 (conflict-down frozen ((conflict-exact w good).0 e)))
