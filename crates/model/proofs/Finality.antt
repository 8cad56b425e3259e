-- Status and conflict answer: exactly what the inductive rules say, in every well-formed model.
use Prim.Native.Nat.{ℕ, zero, suc, ◌<◌}
use native.Mathlib.Omega.{arith}
use mathlib.Core.Path.{◌≡◌, refl, sym, ◌∙◌, subst}
use mathlib.Core.Logic.{inl, inr, ⊎_elim}
use mathlib.Core.List.{[], ◌∷◌, ◌++◌}
use mathlib.Core.Bool.{Bool, true, false, ◌&&◌, ◌||◌}
use borrow.Author.Tests.{eqb-true, eq-eqb, ne_eqb, lt-ltb}
use lib.ListN.{length, get_or, length-append, get_or-append, get_or-eq_default}
use lib.Seq.{get_or_at}
use lib.Dec.{eqb}
use Rattle.model.specs.Answer.{answer, row}
use Rattle.model.specs.Exact.{StatusExact, ConflictExact}
use Rattle.model.specs.Lists.{any_below}
use Rattle.model.specs.Model.{Model}
use Rattle.model.specs.Support.{link?}
use Rattle.model.specs.Tree.{child?, conflict?}
use Rattle.model.specs.Finality.{root, link, Justified, Sealed, Final, genesis, sealed, ConflictingFinals}
use Rattle.model.specs.Finality.{justified_marks, justified?, sealed?, final?, status, status_at, conflicting?}
use Rattle.model.specs.WellFormed.{WellFormed}
use Rattle.model.specs.declared.Status.TheVariants.{Plain as PlainStatus, Justified as JustifiedStatus, Final as FinalStatus}
use Rattle.model.proofs.Lists.{Below, below-found, found_below, both, clash, lt_or_ge}
use Rattle.model.proofs.Lists.{and_left, and_right, or_left, or_right, or_cases}
use Rattle.model.proofs.Tree.{child_true, true_child, ancestor-later, conflict_true, true_conflict}
use Rattle.model.proofs.Support.{link-climbs, link-held}

module _ (m : Model) where
  -- what one pass adds for place n
  abbrev mark : ℕ → Bool
  mark n = eqb n 0 || any_below n (λ s. get_or (justified_marks m n) s false && link? m s n)

  length-marks : (n : ℕ) → length (justified_marks m n) ≡ n
  unfolding justified_marks
  length-marks zero = refl
  length-marks (suc n) = length-append (justified_marks m n) (mark n ∷ []) ∙ omega (arith, length-marks n)

  marks-at : (n p : ℕ) → p < n → get_or (justified_marks m n) p false ≡ mark p
  unfolding justified_marks
  marks-at zero p h = absurd (omega arith)
  marks-at (suc n) p h =
      ⊎_elim
      (λ l. get_or-append (justified_marks m n) (mark n ∷ []) false p (omega (arith, length-marks n)) ∙ marks-at n p l)
      (λ l. last (omega arith))
      (lt_or_ge p n)
    where
      last : n ≡ p → get_or (justified_marks m n ++ mark n ∷ []) p false ≡ mark p
      last e = subst (λ (k : ℕ). get_or (justified_marks m n ++ mark n ∷ []) k false ≡ mark k) e (get_or_at (justified_marks m n) (mark n) [] false n (length-marks n))

  mark-justified : (n p : ℕ) → p < n → mark p ≡ true → Justified m p
  mark-justified zero p h e = absurd (omega arith)
  mark-justified (suc n) p h e =
      ⊎_elim
      (λ z. subst (λ (k : ℕ). Justified m k) (sym (eqb-true p 0 z)) root)
      (λ f. from-source (mark-justified n) (below-found p (λ s. get_or (justified_marks m p) s false && link? m s p) f))
      (or_cases (eqb p 0) (any_below p (λ s. get_or (justified_marks m p) s false && link? m s p)) e)
    where
      from-source : ((s : ℕ) → s < n → mark s ≡ true → Justified m s) → Below p (λ s. get_or (justified_marks m p) s false && link? m s p) → Justified m p
      from-source ih b =
          let s = b.at in
          link
          (ih s (omega (arith, b.inside)) (sym (marks-at p s b.inside) ∙ and_left (get_or (justified_marks m p) s false) (link? m s p) b.passes))
          (and_right (get_or (justified_marks m p) s false) (link? m s p) b.passes)

  -- c is a direct child of p, and a link with a quorum leads from p to it
  abbrev pub joins : ℕ → ℕ → Bool
  joins p c = child? m.checkpoints p c && link? m p c

  -- a and b are final and conflict
  abbrev clashing : ℕ → ℕ → Bool
  clashing a b = final? m a && final? m b && conflict? m.checkpoints a b

  -- the root is justified where it is held, so a held place is final when it is justified, and the root or sealed
  pub final_of_held : (p : ℕ) → p < length m.checkpoints → (justified? m p && (eqb p 0 || sealed? m p)) ≡ final? m p
  unfolding justified? final?
  final_of_held zero h = both (marks-at (length m.checkpoints) 0 h) refl
  final_of_held (suc p) h = rw (ne_eqb (suc p) 0 (λ e. omega arith))

-- "Final checkpoints also count as justified."
pub final-justified : {m : Model} {p : ℕ} → Final m p → Justified m p
final-justified genesis = root
final-justified (sealed j s) = j

apart : ◌≡◌ {A = ℕ} 0 1 → ⊥
apart e = omega arith

module _ (m : Model) (good : WellFormed m) where
  justified-mark : {p : ℕ} → Justified m p → mark m p ≡ true
  justified-mark root = refl
  justified-mark (link {s = s} {t = t} j l) =
      let below = ancestor-later m.checkpoints good.tree (link-climbs m good s t l) in
      or_right (eqb t 0) (any_below t (λ k. get_or (justified_marks m t) k false && link? m k t))
      (found_below t (λ k. get_or (justified_marks m t) k false && link? m k t) s below (both (marks-at m t s below ∙ justified-mark j) l))

  pub justified-held : {p : ℕ} → Justified m p → p < length m.checkpoints
  justified-held root = good.tree.rooted
  justified-held (link {s = s} {t = t} j l) = link-held m good s t l

  pub justified_true : (p : ℕ) → justified? m p ≡ true → Justified m p
  unfolding justified?
  justified_true p e = ⊎_elim
      (λ h. mark-justified m (suc p) p (omega arith) (sym (marks-at m (length m.checkpoints) p h) ∙ e))
      (λ h. clash e (get_or-eq_default (justified_marks m (length m.checkpoints)) false (omega (arith, length-marks m (length m.checkpoints)))))
      (lt_or_ge p (length m.checkpoints))

  pub true_justified : (p : ℕ) → Justified m p → justified? m p ≡ true
  unfolding justified?
  true_justified p j = marks-at m (length m.checkpoints) p (justified-held j) ∙ justified-mark j

  sealed_true : (p : ℕ) → sealed? m p ≡ true → Sealed m p
  unfolding sealed?
  sealed_true p e =
      let c = below-found (length m.checkpoints) (joins m p) e in
      let child = child? m.checkpoints p c.at in
      record {
        child = c.at;
        direct = child_true m.checkpoints p c.at (and_left child (link? m p c.at) c.passes);
        linked = and_right child (link? m p c.at) c.passes;
      }

  true_sealed : (p : ℕ) → Sealed m p → sealed? m p ≡ true
  unfolding sealed?
  true_sealed p s =
      found_below (length m.checkpoints) (joins m p) s.child s.direct.inside
      (both (true_child m.checkpoints p s.child s.direct) s.linked)

  pub final_true : (p : ℕ) → final? m p ≡ true → Final m p
  unfolding final?
  final_true p e =
      ⊎_elim
      (λ z. subst (Final m) (sym (eqb-true p 0 z)) genesis)
      (λ f. sealed
      (justified_true p (and_left (justified? m p) (sealed? m p) f))
      (sealed_true p (and_right (justified? m p) (sealed? m p) f)))
      (or_cases (eqb p 0) (justified? m p && sealed? m p) e)

  pub true_final : (p : ℕ) → Final m p → final? m p ≡ true
  unfolding final?
  true_final p genesis = or_left (eqb 0 0) (justified? m 0 && sealed? m 0) (eq-eqb 0 0 refl)
  true_final p (sealed j s) =
      or_right (eqb p 0) (justified? m p && sealed? m p) (both (true_justified p j) (true_sealed p s))

  pub final-held : {p : ℕ} → Final m p → p < length m.checkpoints
  final-held f = justified-held (final-justified f)

  conflicting_true : conflicting? m ≡ true → ConflictingFinals m
  unfolding conflicting?
  conflicting_true e =
      let n = length m.checkpoints in
      let a = below-found n (λ k. any_below n (clashing m k)) e in
      let b = below-found n (clashing m a.at) a.passes in
      let conflict = conflict? m.checkpoints a.at b.at in
      let finals = and_left (final? m a.at && final? m b.at) conflict b.passes in
      record {
        one = a.at;
        other = b.at;
        one-final = final_true a.at (and_left (final? m a.at) (final? m b.at) finals);
        other-final = final_true b.at (and_right (final? m a.at) (final? m b.at) finals);
        conflict =
            conflict_true m.checkpoints good.tree a.at b.at
            (and_right (final? m a.at && final? m b.at) conflict b.passes);
      }

  true_conflicting : ConflictingFinals m → conflicting? m ≡ true
  unfolding conflicting?
  true_conflicting c =
      let n = length m.checkpoints in
      found_below n (λ k. any_below n (clashing m k)) c.one (final-held c.one-final)
      (found_below n (clashing m c.one) c.other (final-held c.other-final)
      (both
      (both (true_final c.one c.one-final) (true_final c.other c.other-final))
      (true_conflict m.checkpoints good.tree c.one c.other c.conflict)))

  pub conflict-exact : ConflictExact m
  conflict-exact = (conflicting_true, true_conflicting)

  pub status-exact : (p : ℕ) → StatusExact m p
  unfolding status
  status-exact p = go (final? m p) (justified? m p) refl refl
    where
      go : (f j : Bool) → final? m p ≡ f → justified? m p ≡ j → StatusExact m p
      go true j ef ej =
          let s : status m p ≡ FinalStatus = rw ef in
          let fin = final_true p ef in
          record {
            final = (λ q. fin, λ q. s);
            justified = (λ q. final-justified fin, λ q. inr s);
            justified_only = (λ q. absurd (apart (cc)), λ n. absurd (n.1 fin));
            plain = (λ q. absurd (apart (cc)), λ n. absurd (n (final-justified fin)));
          }
      go false true ef ej =
          let s : status m p ≡ JustifiedStatus = rw (ef, ej) in
          let just = justified_true p ej in
          record {
            final = (λ q. absurd (apart (cc)), λ fin. clash (true_final p fin) ef);
            justified = (λ q. just, λ q. inl s);
            justified_only = (λ q. (just, λ fin. clash (true_final p fin) ef), λ n. s);
            plain = (λ q. absurd (apart (cc)), λ n. absurd (n just));
          }
      go false false ef ej =
          let s : status m p ≡ PlainStatus = rw (ef, ej) in
          record {
            final = (λ q. absurd (apart (cc)), λ fin. clash (true_final p fin) ef);
            justified = (⊎_elim (λ q. absurd (apart (cc))) (λ q. absurd (apart (cc))), λ just. clash (true_justified p just) ej);
            justified_only = (λ q. absurd (apart (cc)), λ n. clash (true_justified p n.0) ej);
            plain = (λ q just. clash (true_justified p just) ej, λ n. s);
          }

  -- the root is final from the header on, and that is what is answered of it
  pub root-final : status m 0 ≡ FinalStatus
  root-final = (status-exact 0).final.1 genesis

  pub root_answer : status_at m 0 ≡ answer FinalStatus
  unfolding status_at row
  root_answer = rw (lt-ltb 0 (length m.checkpoints) good.tree.rooted, root-final)
