-- `rules::bundles::decide_bundle` meets its contract: rows 61 and 62 by the bits, then the votes by their link. Assumes
-- nothing.
use Prim.Native.Nat.{ℕ, zero, suc, ◌+◌, ◌<◌}
use native.Mathlib.Omega.{arith}
use mathlib.Core.Path.{◌≡◌, refl, sym, ap, ◌∙◌}
use mathlib.Core.List.{List}
use borrow.Author.Tests.{eq-eqb, ne_eqb}
use lib.Dec.{eqb, leb}
use lib.ListN.{length, drop, length-drop}
use Rattle.model.specs.Answer.{Answer, row}
use Rattle.model.specs.Bits.{set_places}
use Rattle.model.specs.Bytes.{part}
use Rattle.model.specs.Change.{together, whole}
use Rattle.model.specs.Decide.{bundle_ids, bit_without_member, no_bit_set}
use Rattle.model.specs.Lists.{any}
use Rattle.model.specs.Model.{Model, Link}
use Rattle.state.proofs.Fields.{part_at}
use Rattle.ballots.proofs.Linked.{link-read}
use Rattle.registry.specs.Decision.{cast_each}
use Rattle.rules.proofs.Bundled.{bundle-rows, bundle_by_link}
use Rattle.rules.proofs.bundles.decide_bundle.Goals as goal
use Rattle.rules.proofs.bundles.decide_bundle.Goals.{After-any_from, After-number-votes, Start}

ne_zero : (n : ℕ) → (n ≡ 0 → ⊥) → 0 < n
ne_zero zero h = absurd (h refl)
ne_zero (suc n) h = omega arith

-- the record, and its bits
abbrev s : Start → List ℕ
s c = drop c.args.at c.args.log.now

abbrev bits : Start → List ℕ
bits c = part 1 16 (s (goal.at.Start c).Start)

bits_are : (c : Start) → part (c.args.at + 1) 16 c.args.log.now ≡ bits (goal.at.Start c).Start
bits_are c = sym (part_at c.args.at 1 16 c.args.log.now)

past_is : (c : After-any_from) → any (λ p. leb c.args.members p) (set_places (bits (goal.at.After-any_from c).Start)) ≡ c.any_from.result
past_is c =
    sym (c.any_from.ensures ∙ ap (λ (b : List ℕ). any (λ p. leb c.args.members p) (set_places b)) (bits_are (goal.at.After-any_from c).Start))

row_61 : (c : After-any_from) (m : Model) → length m.members ≡ c.args.members → bit_without_member m (bits (goal.at.After-any_from c).Start) ≡ c.any_from.result
unfolding bit_without_member
row_61 c m count = ap (λ (n : ℕ). any (λ p. leb n p) (set_places (bits (goal.at.After-any_from c).Start))) count ∙ past_is (goal.at.After-any_from c).After-any_from

number_is : (c : After-number-votes) → c.number-votes.result ≡ length (set_places (bits (goal.at.After-number-votes c).Start))
number_is c = c.number-votes.ensures.0 ∙ ap (λ (b : List ℕ). length (set_places b)) (bits_are (goal.at.After-number-votes c).Start)

row_62 : (c : After-number-votes) → no_bit_set (bits (goal.at.After-number-votes c).Start) ≡ eqb c.number-votes.result 0
unfolding no_bit_set
row_62 c = ap (λ (n : ℕ). eqb n 0) (sym (number_is (goal.at.After-number-votes c).After-number-votes))

pub returns-then-any_from : goal.returns-then-any_from
unfolding row whole
returns-then-any_from c = record { result_value = (λ m count names heights ancestors. ap whole (sym (bundle-rows m _ _ _ _ _ (row_61 (goal.at.returns-then-any_from c).After-any_from m count ∙ c.if-any_from.true) refl))); bits_fit = tt }

pub returns-then-votes-eq0 : goal.returns-then-votes-eq0
unfolding row whole
returns-then-votes-eq0 c =
    record {
      result_value = (λ m count names heights ancestors.
          ap whole
          (sym
          (bundle-rows m _ _ _ _ _ (row_61 (goal.at.returns-then-votes-eq0 c).After-any_from m count ∙ c.if-any_from.false) (row_62 (goal.at.returns-then-votes-eq0 c).After-number-votes ∙ eq-eqb _ 0 c.if-votes-eq0.true))));
      bits_fit = tt;
    }

pub returns : goal.returns
returns c =
    let a = c.args in
    let none = past_is (goal.at.returns c).After-any_from ∙ c.if-any_from.false in record {
      result_value = (λ m count names heights ancestors.
          ap (λ (l : Answer Link). together (cast_each m l (bundle_ids m (bits (goal.at.returns c).Start))))
          (c.link_of-link.ensures m names heights ancestors ∙ link-read m a.at 17 a.log.now)
          ∙ bundle_by_link m (bits (goal.at.returns c).Start) _ _ _ _ (row_61 (goal.at.returns c).After-any_from m count ∙ c.if-any_from.false)
          (row_62 (goal.at.returns c).After-number-votes ∙ ne_eqb _ 0 c.if-votes-eq0.false));
      bits_fit = record {
        long = omega (arith, c.requires.1, length-drop a.at a.log.now);
        number = number_is (goal.at.returns c).After-number-votes;
        some = omega (arith, ne_zero c.number-votes.result c.if-votes-eq0.false);
        few = c.number-votes.ensures.1;
        held = none;
      };
    }
