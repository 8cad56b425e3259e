-- Sums over the arrays of a witness: they are what its model sums, and in a sound state they fit.
use Prim.Native.Nat.{ℕ, zero, suc, ◌+◌, ◌<◌, ◌≤◌}
use native.Mathlib.Omega.{arith}
use mathlib.Core.Path.{◌≡◌, refl, sym, ap, ◌∙◌, subst}
use mathlib.Core.List.{List, [], ◌∷◌, ◌++◌}
use mathlib.Core.Bool.{Bool, true, cond}
use lib.ListN.{get_or}
use Rattle.model.specs.Limits.{bond_limit, part_limit}
use Rattle.model.specs.Lists.{tabulate}
use Rattle.model.specs.Model.{Member, quota}
use Rattle.model.specs.Rule.{quota_of}
use Rattle.model.specs.Support.{count, sum, total, quorum, carries}
use Rattle.model.specs.declared.Quota.{Quota}
use Rattle.state.specs.declared.Witness.{Witness}
use Rattle.state.specs.Sound.{Sound}
use Rattle.state.specs.State.{member_in, rule_of, quota_in, model_of}
use Rattle.state.proofs.Entries.{count-members, member_is}
use Rattle.state.proofs.Sound.{few-members}
use Rattle.voters.specs.declared.Voters.{Voters}
use Rattle.voters.specs.declared.Bar.{Bar}
use Rattle.voters.specs.Bits.{among, sum_below, count_below}
use Rattle.voters.specs.Weights.{Bonds, Fits, IsBar, weight_of, carried}
use Rattle.voters.proofs.Bits.{sum_same, sum_bound}

-- ---- the model's sums over a table of members

-- any such sum: the first element's part, and the rest
module _ (p : Member → Bool) (g : Member → ℕ) (F : List Member → ℕ) (none : F [] ≡ 0)
    (one : (x : Member) (xs : List Member) → F (x ∷ xs) ≡ cond (p x) (g x) 0 + F xs) where
  snoc : (xs : List Member) (x : Member) → F (xs ++ x ∷ []) ≡ F xs + cond (p x) (g x) 0
  snoc [] x = omega (arith, none, one x [])
  snoc (y ∷ xs) x = omega (arith, one y (xs ++ x ∷ []), one y xs, snoc xs x)

  table : (n : ℕ) (f : ℕ → Member) → F (tabulate n f) ≡ sum_below n (λ i. p (f i)) (λ i. g (f i))
  unfolding tabulate sum_below
  table zero f = none
  table (suc n) f = snoc (tabulate n f) (f n) ∙ ap (λ (x : ℕ). x + cond (p (f n)) (g (f n)) 0) (table n f)

sum-table : (p : Member → Bool) (n : ℕ) (f : ℕ → Member)
    → sum p (tabulate n f) ≡ sum_below n (λ i. p (f i)) (λ i. (f i).bond)
unfolding sum
sum-table p n f = table p (λ x. x.bond) (sum p) refl (λ x xs. refl) n f

count-table : (p : Member → Bool) (n : ℕ) (f : ℕ → Member) → count p (tabulate n f) ≡ count_below n (λ i. p (f i))
unfolding count
count-table p n f = table p (λ x. 1) (count p) refl (λ x xs. refl) n f

-- ---- the sums over a witness's arrays

module _ (w : Witness) where
  pub all-sum : sum_below w.member_count (λ i. true) (λ i. get_or w.bonds i 0) ≡ total (model_of w).members
  unfolding model_of
  all-sum = sym (sum-table (λ x. true) w.member_count (member_in w))

  pub bar-is : {k : Quota} {whole : ℕ} → k ≡ quota_of (rule_of (quota_in w.numbers))
      → whole ≡ sum_below w.member_count (λ i. true) (λ i. get_or w.bonds i 0)
      → IsBar (model_of w) (record { quota = k; total = whole })
  unfolding model_of
  bar-is parts e = record { parts = parts; whole = e ∙ all-sum }

  -- voters who are exactly the members that pass a test
  module _ (A : Member → Bool) (v : Voters) (are : (i : ℕ) → i < w.member_count → among v i ≡ A (member_in w i)) where
    pub count-is : count_below w.member_count (among v) ≡ count A (model_of w).members
    unfolding model_of
    count-is = sum_same _ _ _ _ _ are (λ i l. refl) ∙ sym (count-table A w.member_count (member_in w))

    pub weight_is : weight_of w.bonds w.member_count v ≡ sum A (model_of w).members
    unfolding model_of
    weight_is = sum_same _ _ _ _ _ are (λ i l. refl) ∙ sym (sum-table A w.member_count (member_in w))

    pub carried-is : {bar : Bar} → IsBar (model_of w) bar
        → (t : ℕ) → carried w.bonds w.member_count bar v ≡ carries (model_of w) t A
    unfolding carries
    carried-is is t = λ i. quorum (is.parts i) (weight_is i) (is.whole i)

-- ---- in a sound state they fit

module _ (w : Witness) (sound : Sound w) where
  pub bonds-good : Bonds w.bonds w.member_count
  bonds-good =
      record {
        fit = few-members w sound;
        long = omega (arith, few-members w sound, sound.typed.members.bonds);
        each = λ i h.
            subst (λ (x : Member). x.bond ≤ bond_limit) (member_is w i h)
            (sound.good.members.bond-high i (omega (arith, count-members w)));
      }

  pub bar-fits : {bar : Bar} → IsBar (model_of w) bar → Fits bar
  bar-fits is =
      let bound = sum_bound w.member_count bond_limit (λ i. true) (λ i. get_or w.bonds i 0) bonds-good.each in
      let rule = sound.good.rule in
      let most : (quota (model_of w)).p ≤ part_limit = omega (arith, rule.within, rule.few) in
      record {
        p = subst (λ (k : Quota). k.p ≤ part_limit) (sym is.parts) most;
        q = subst (λ (k : Quota). k.q ≤ part_limit) (sym is.parts) rule.few;
        whole = omega (arith, is.whole, all-sum w, bound, few-members w sound);
      }
