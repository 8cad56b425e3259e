-- No two votes that a guard signs break a slashing condition.
use Prim.Native.Nat.{ℕ, zero, suc, ◌<◌, ◌≤◌}
use native.Mathlib.Omega.{arith}
use native.Mathlib.Nat.{le_trans, lt_trans, lt_of_le_of_lt}
use mathlib.Core.Path.{◌≡◌, refl, sym, ap, ◌∙◌, subst}
use mathlib.Core.Logic.{⊎_elim}
use mathlib.Core.List.{List, [], ◌∷◌}
use mathlib.Core.Bool.{Bool, true, false, not, ◌&&◌, true≢false}
use borrow.Author.Tests.{ltb-true, ltb-false, ne_eqb, not-false}
use lib.ListN.{length}
use lib.Dec.{eqb, ltb}
use Rattle.model.specs.Answer.{answer, row}
use Rattle.model.specs.Model.{Model, Vote}
use Rattle.model.specs.declared.Refusal.{Refusal}
use Rattle.model.specs.Slashing.{Condition, double, surrounds, surrounded}
use Rattle.model.proofs.Answer.{row-passes}
use Rattle.model.proofs.Lists.{lt_or_ge}
use Rattle.model.proofs.Slashing.{breaks-swap}
use Rattle.guard.specs.Signing.{last_signed, used?, guard_rows, rewritten_by, IsSigning}
use Rattle.guard.specs.Calls.{Request, Calls, none, call, if_signed, signed_in, request_at}
use Rattle.guard.specs.Safe.{FreshMeets65Only, HasHeights, GuardSafe, RestoredSafe}
use Rattle.guard.specs.declared.Guard.{Guard}
use Rattle.guard.specs.Signing.{SignAnswer}
use Rattle.std.specs.Prelude.{Ok, Err}

pub fresh_meets_65_only : FreshMeets65Only
unfolding guard_rows row
fresh_meets_65_only s t = refl

-- the vote comes after the last that the record remembers: it is no lower in its source, and higher in its target
pub record After (g : Guard) (r : Request) : Type 0 where
  pub source : (g.used ≡ 0 → ⊥) → g.source.0 ≤ r.source
  pub target : (g.used ≡ 0 → ⊥) → g.target.0 < r.target

-- what rows 65 to 67 pass
pub record Passes (g : Guard) (r : Request) : Type 0 where
  pub climbs : r.source < r.target
  pub after : After g r

-- rows 66 and 67 test only a record that has signed
tested : (u c : Bool) → u ≡ false → (not u && c) ≡ false → c ≡ false
tested true c e h = absurd (true≢false e)
tested false c e h = h

signed_passes : (g : Guard) (r : Request) → guard_rows g r.source r.target ≡ answer tt → Passes g r
unfolding guard_rows
signed_passes g r e =
    let s = r.source in
    let t = r.target in
    let p65 = row-passes 65 (not (ltb s t)) _ tt e in
    let p66 = row-passes 66 (used? g && not (ltb g.target.0 t)) _ tt p65.rest in
    let p67 = row-passes 67 (used? g && ltb s g.source.0) _ tt p66.rest in
    record {
      climbs = ltb-true s t (not-false _ p65.clear);
      after = record {
        source = λ u. ltb-false s g.source.0 (tested (eqb g.used 0) _ (ne_eqb _ _ u) p67.clear);
        target = λ u. ltb-true g.target.0 t (not-false _ (tested (eqb g.used 0) _ (ne_eqb _ _ u) p66.clear));
      };
    }

-- the record that remembers a vote
abbrev pub last_of : Request → Guard
last_of r = last_signed r.source r.target

one_not_zero : ◌≡◌ {A = ℕ} 1 0 → ⊥
one_not_zero e = omega arith

after_both : (g : Guard) (r x : Request) → After g r → After (last_of r) x → After g x
after_both g r x a b =
    record {
      source = λ u. le_trans (a.source u) (b.source one_not_zero);
      target = λ u. lt_trans (a.target u) (b.target one_not_zero);
    }

-- what a call leaves: the vote signed, or the record as it was

pub left_signed : (g next : Guard) (r : Request) → IsSigning g r.source r.target (Ok tt) next → next ≡ last_of r
unfolding rewritten_by
left_signed g next r one =
    one.rewritten ∙ ap (λ a. rewritten_by a g r.source r.target) (sym one.answered)

left-refused : (g next : Guard) (r : Request) (n : Refusal) → IsSigning g r.source r.target (Err n) next →
    next ≡ g
unfolding rewritten_by
left-refused g next r n one =
    one.rewritten ∙ ap (λ a. rewritten_by a g r.source r.target) (sym one.answered)

-- the votes signed from a record on: each passes on the record that remembers the one before
pub data Signings : Guard → List Request → Type 0 where
  end : {g : Guard} → Signings g []
  next : {g : Guard} {r : Request} {votes : List Request} → Passes g r → Signings (last_of r) votes → Signings g (r ∷
      votes)

signings : (g left : Guard) (rs : List Request) (answers : List SignAnswer) → Calls g rs answers left
    → Signings g (signed_in rs answers)
unfolding signed_in if_signed
signings g left rs answers none = end
signings g left rs answers (call {next = after} {r = r} {a = a} {rs = later} {answers = more} one calls) =
    go a one (signings after left later more calls)
  where
    go : (a : SignAnswer) → IsSigning g r.source r.target a after → Signings after (signed_in later more)
        → Signings g (if_signed a r (signed_in later more))
    go (Ok u) one rest =
        next (signed_passes g r (sym one.answered))
        (subst (λ (h : Guard). Signings h (signed_in later more)) (left_signed g after r one) rest)
    go (Err n) one rest = subst (λ (h : Guard). Signings h (signed_in later more)) (left-refused g after r n one)
        rest

signed_after : {g : Guard} {votes : List Request} → Signings g votes → (k : ℕ) → k < length votes → Passes g
    (request_at votes k)
signed_after end k h = absurd (omega arith)
signed_after (next p later) zero h = p
signed_after {g} (next {r = r} p later) (suc k) h =
    let q = signed_after later k (omega arith) in
    record { climbs = q.climbs; after = after_both g r _ p.after q.after }

signed_rise : {g : Guard} {votes : List Request} → Signings g votes → (i j : ℕ) → i < j → j < length votes
    → After (last_of (request_at votes i)) (request_at votes j)
signed_rise end i j l h = absurd (omega arith)
signed_rise (next p later) i zero l h = absurd (omega arith)
signed_rise (next p later) zero (suc j) l h = (signed_after later j (omega arith)).after
signed_rise (next p later) (suc i) (suc j) l h = signed_rise later i j (omega arith) (omega arith)

-- two votes, the second after the first, break no condition, whatever has their heights
keep : (m : Model) (v w : Vote) (a b : Request) → HasHeights m v a → HasHeights m w b → After (last_of a) b → Condition
    m v w → ⊥
keep m v w a b p q r (double d) = omega (arith, d.equal, p.target, q.target, r.target one_not_zero)
keep m v w a b p q r (surrounds d) = omega (arith, d.above, p.target, q.target, r.target one_not_zero)
keep m v w a b p q r (surrounded d) = omega (arith, d.below, p.source, q.source, r.source one_not_zero)

pub guard_safe : GuardSafe
guard_safe g left rs answers calls =
    let votes = signings g left rs answers calls in
    record {
      climb = λ i h. (signed_after votes i h).climbs;
      targets_rise = λ i j l h. (signed_rise votes i j l h).target one_not_zero;
      sources_never_fall = λ i j l h. (signed_rise votes i j l h).source one_not_zero;
      none_break = λ i j h k d m v w p q b. ⊎_elim
          (λ l. keep m v w _ _ p q (signed_rise votes i j l k) b.condition)
          (λ l. keep m w v _ _ q p (signed_rise votes j i (above i j l d) h) (breaks-swap m v w b).condition)
          (lt_or_ge i j);
    }
  where
    above : (i j : ℕ) → j ≤ i → (i ≡ j → ⊥) → j < i
    above i j l d = omega arith

pub restored_safe : RestoredSafe
restored_safe s t left rs answers calls before below-source below-target i h m v w p q b =
    let later = (signed_after (signings (last_signed s t) left rs answers calls) i h).after in
    let after : After (last_of before) (request_at (signed_in rs answers) i) =
    record {
      source = λ u. le_trans below-source (later.source one_not_zero);
      target = λ u. lt_of_le_of_lt below-target (later.target one_not_zero);
    } in
    keep m v w _ _ p q after b.condition
