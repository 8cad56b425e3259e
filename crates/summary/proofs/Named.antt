-- The bonds of the members who broke a rule, summed in the order of the arrays.
use Prim.Native.Nat.{ℕ, ◌+◌, ◌*◌, ◌<◌, ◌≤◌}
use native.Mathlib.Omega.{arith}
use native.Mathlib.Numerals.{add-one}
use mathlib.Core.Path.{◌≡◌, sym, ap, ap₂, ◌∙◌}
use mathlib.Core.List.{List, [], ◌∷◌}
use mathlib.Core.Bool.{Bool, true, false, cond}
use lib.ListN.{get_or, drop, drop_of_length-le}
use lib.Seq.{drop-cons}
use Rattle.model.specs.Evidence.{Conduct, conduct, broken?, violator?}
use Rattle.model.specs.Limits.{bond_limit}
use Rattle.model.specs.Model.{Member, no_member, member_at}
use Rattle.model.specs.Support.{sum, total}
use Rattle.state.specs.declared.Witness.{Witness}
use Rattle.state.specs.State.{model_of}
use Rattle.state.proofs.Entries.{count-members, member_is}
use Rattle.state.specs.Sound.{Sound}
use Rattle.voters.proofs.Bits.{sum_bound}
use Rattle.tally.proofs.Totals.{all-sum, bonds-good}

part_least : (b : Bool) (x : ℕ) → cond b x 0 ≤ x
part_least true x = omega arith
part_least false x = omega arith

part-total : (p : Member → Bool) (ms : List Member) → sum p ms ≤ total ms
unfolding sum
part-total p [] = omega arith
part-total p (x ∷ xs) = omega (arith, part_least (p x) x.bond, part-total p xs)

module _ (w : Witness) where
  abbrev pub broke : Member → Bool
  broke = violator? (model_of w)

  abbrev pub members : List Member
  members = (model_of w).members

  -- what is summed and what remains come to the whole
  abbrev pub Summed : ℕ → ℕ → Type 0
  Summed i s = s + sum broke (drop i members) ≡ sum broke members

  pub summed_none : Summed 0 0
  summed_none = omega arith

  pub summed_more : (i s : ℕ) {b : Bool} {shown : Conduct} → i < w.member_count → b ≡ broken? shown → shown ≡ conduct (model_of w) (get_or w.ids i 0) → Summed i s → Summed (i + 1) (s + cond b (get_or w.bonds i 0) 0)
  unfolding sum violator? member_at
  summed_more i s {b} {shown} inside is found so =
      let bond = get_or w.bonds i 0 in
      let here : cond (broke (member_at members i)) (member_at members i).bond 0 ≡ cond b bond 0 =
      ap (λ (x : Member). cond (broke x) x.bond 0) (member_is w i inside) ∙ ap (λ (k : Bool). cond k bond 0) (sym (is ∙ ap broken? found)) in
      let step : sum broke (drop i members) ≡ cond b bond 0 + sum broke (drop (i + 1) members) =
      ap (sum broke) (drop-cons members i no_member (omega (arith, count-members w)))
      ∙ ap₂ (λ (x k : ℕ). x + sum broke (drop k members)) here (sym (add-one i)) in
      omega arith

  pub summed_all : (i s : ℕ) → w.member_count ≤ i → Summed i s → s ≡ sum broke members
  unfolding sum
  summed_all i s past so = omega (arith, ap (sum broke) (drop_of_length-le members {i = i} (omega (arith, count-members w))))

  -- no sum of 128 bonds is too large
  pub named-bound : Sound w → sum broke members ≤ 128 * bond_limit
  named-bound h =
      let bonds = bonds-good w h in
      omega (arith, part-total broke members, all-sum w, sum_bound w.member_count bond_limit (λ i. true) (λ i. get_or w.bonds i 0) bonds.each, bonds.fit)
