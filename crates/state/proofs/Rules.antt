-- The rule by p and q of a state: whether one was given, and which quota it is.
use native.Mathlib.Omega.{arith}
use mathlib.Core.Path.{◌≡◌, refl, sym, ap, ◌∙◌}
use mathlib.Core.Bool.{Bool, true, false, cond, ◌&&◌, ◌||◌, not, true≢false, false≢true}
use borrow.Author.Tests.{eq-eqb, ne_eqb}
use lib.Dec.{eqb}
use Rattle.model.specs.Rule.{standard, given, given?, quota_of, Permitted, permitted?}
use Rattle.model.specs.declared.Quota.{Quota}
use Rattle.model.proofs.Rule.{part-positive, standard-permitted, true_permitted}
use Rattle.state.specs.State.{rule_of}

-- a permitted quota is not taken for none
pub rule-given : (k : Quota) → Permitted k → rule_of k ≡ given k
unfolding rule_of
rule-given k ok = rw (ne_eqb k.p 0 (λ e. omega (arith, part-positive k ok)))

-- by p and q: none is given where both are 0, and only there; what is given is held as it is
pub record RuleCases : Type 0 where
  none : rule_of (record { p = 0; q = 0 }) ≡ standard
  of-nothing : rule_of (record { p = 1; q = 0 }) ≡ given (record { p = 1; q = 0 })
  nothing-of : rule_of (record { p = 0; q = 1 }) ≡ given (record { p = 0; q = 1 })
  two_of_three : rule_of (record { p = 2; q = 3 }) ≡ given (record { p = 2; q = 3 })

pub rule-cases : RuleCases
unfolding rule_of
rule-cases = record { none = refl; of-nothing = refl; nothing-of = refl; two_of_three = refl }

module _ (k : Quota) where
  -- both are 0
  abbrev nought : Bool
  nought = eqb k.p 0 && eqb k.q 0

  -- what row 40 asks of p and q: none is given, or they are permitted
  pub rule-exact : permitted? (quota_of (rule_of k)) ≡ (nought || permitted? k)
  unfolding rule_of quota_of
  rule-exact = go nought
    where
      go : (c : Bool) → permitted? (quota_of (cond c standard (given k))) ≡ (c || permitted? k)
      go true = true_permitted _ standard-permitted
      go false = refl

  given_is : not nought ≡ given? (rule_of k)
  unfolding rule_of given?
  given_is = go nought
    where
      go : (c : Bool) → not c ≡ given? (cond c standard (given k))
      go true = refl
      go false = refl

  -- the same, asked of p first

  pub given-by-p : (k.p ≡ 0 → ⊥) → not (eqb k.p 0) ≡ given? (rule_of k)
  given-by-p h =
      let e = ne_eqb k.p 0 h in
      ap not (e ∙ sym (ap (λ (b : Bool). b && eqb k.q 0) e)) ∙ given_is

  pub given-by-q : k.p ≡ 0 → not (eqb k.q 0) ≡ given? (rule_of k)
  given-by-q h = ap (λ (b : Bool). not (b && eqb k.q 0)) (sym (eq-eqb k.p 0 h)) ∙ given_is

  pub given-quota : given? (rule_of k) ≡ true → k ≡ quota_of (rule_of k)
  unfolding rule_of given? quota_of
  given-quota = go nought
    where
      go : (c : Bool) → given? (cond c standard (given k)) ≡ true → k ≡ quota_of (cond c standard (given k))
      go true e = absurd (false≢true e)
      go false e = refl

  pub standard-quota : given? (rule_of k) ≡ false → quota_of standard ≡ quota_of (rule_of k)
  unfolding rule_of given?
  standard-quota = go nought
    where
      go : (c : Bool) → given? (cond c standard (given k)) ≡ false
          → quota_of standard ≡ quota_of (cond c standard (given k))
      go true e = refl
      go false e = absurd (true≢false e)
