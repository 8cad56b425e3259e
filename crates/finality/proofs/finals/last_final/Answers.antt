use Prim.Native.Nat.{ℕ, ◌+◌, ◌<◌}
use native.Mathlib.Nat.{le_antisymm}
use native.Mathlib.Omega.{arith}
use mathlib.Core.Path.{◌≡◌, sym, ap, subst, ◌∙◌}
use mathlib.Core.Logic.{⊎_elim}
use mathlib.Core.Bool.{Bool, true, false}
use Rattle.model.proofs.Lists.{lt_or_ge, clash}
use Rattle.model.specs.declared.Place.{Place}
use Rattle.search.proofs.Chains.{last-next}
use Rattle.tally.specs.Marks.{final_at}
use Rattle.finality.proofs.finals.last_final.Goals as goal
use Rattle.finality.proofs.finals.last_final.Goals.{else-is_final, then-is_final}

-- the root is final, so a place that is not stands past it
passed : (fin : ℕ → Bool) (p : ℕ) → fin 0 ≡ true → fin p ≡ false → 0 < p
passed fin p root other = ⊎_elim
    (λ h. h)
    (λ h. clash root (subst (λ (q : ℕ). fin q ≡ false) (let e : p ≡ 0 = omega arith in e) other))
    (lt_or_ge 0 p)

pub loop-p-preserved : goal.loop-p-preserved
loop-p-preserved c = λ h.
    let at = c.loop-p in
    let fin = final_at c.args.marks.now in
    elim c.if-is_final.branch [
      | then-is_final w ↦ ap (λ (q : Place). q.0 + 1) w.last-is
          ∙ sym (last-next fin true at.p (sym c.is_final.ensures ∙ w.if-is_final.true))
      | else-is_final w ↦
          let other : fin at.p ≡ false = sym c.is_final.ensures ∙ w.if-is_final.false in
          ap (λ (q : Place). q.0 + 1) w.last-is
          ∙ at.invariant (passed fin at.p c.requires.2 other)
          ∙ sym (last-next fin false at.p other)
    ]

pub returns : goal.returns
returns c =
    let l = c.loop-p in
    rw (le_antisymm l.auto.p-end c.loop-p-test.false) at (l.invariant (omega (arith, c.requires.0, c.loop-p-test.false)))
