-- `sound::is_sound` meets its contract: row 40's parts, in their order. Assumes nothing.
use mathlib.Core.Path.{◌≡◌, refl, sym, ap, ◌∙◌}
use mathlib.Core.Bool.{true}
use borrow.Author.Rules.{rules}
use lib.ListN.{get_or}
use mir.Syntax.{w16}
use mir.Val.{Fits}
use Rattle.model.proofs.Lists.{and_left, and_right}
use Rattle.model.specs.Rule.{permitted?}
use Rattle.state.specs.Sound.{Typed}
use Rattle.state.specs.declared.Witness.{Witness}
use Rattle.state.proofs.Store.{length-any}
use Rattle.sound.proofs.Ends.{goes-on, ends}
use Rattle.sound.proofs.Tests.{Few, parts, rule-is, counts_are}
use Rattle.sound.proofs.Tests.{first_two, first-three, first_four, few-held, members-asked, tree-asked, votes-asked, votes-counted}
use Rattle.sound.proofs.is_sound.Goals as goal
use Rattle.sound.proofs.is_sound.Goals.{Joined-counts_pass, Joined-is_permitted, Joined-members_pass, Start}
use Rattle.sound.proofs.is_sound.Goals.{then-is_permitted, else-is_permitted, then-counts_pass, else-counts_pass, then-members_pass, else-members_pass}

abbrev w : Start → Witness
w c = c.args.w

-- what the types of the fields say
typed : (c : Start) → Typed (w (goal.at.Start c).Start)
typed c =
    record {
      members = record { ids = search rules; bonds = search rules };
      tree =
          record { names = search rules; parents = search (rules, length-any); heights = search (rules, length-any) };
      votes =
          record { voters = search rules; sources = search (rules, length-any); targets = search (rules, length-any) };
      ids = λ i. let f : Fits w16 (get_or (w (goal.at.Start c).Start).ids i 0) = search rules in f.fits;
    }

two : (c : Joined-is_permitted) → c.if-is_permitted.value ≡ first_two (w (goal.at.Joined-is_permitted c).Start)
two c =
    let x = w (goal.at.Joined-is_permitted c).Start in
    let asked = c.is_permitted.ensures ∙ ap permitted? c.quota.ensures ∙ sym (rule-is x) in
    elim c.if-is_permitted.branch [
      | then-is_permitted t ↦ t.value-is ∙ goes-on asked t.if-is_permitted.true (t.counts_pass.ensures ∙ sym (counts_are x))
      | else-is_permitted t ↦ t.value-is ∙ ends asked _ t.if-is_permitted.false
    ]

three : (c : Joined-counts_pass) → c.if-counts_pass.value ≡ first-three (w (goal.at.Joined-counts_pass c).Start)
three c =
    let x = w (goal.at.Joined-counts_pass c).Start in
    let asked = two (goal.at.Joined-counts_pass c).Joined-is_permitted in
    elim c.if-counts_pass.branch [
      | then-counts_pass t ↦
          let few = few-held x (sym asked ∙ t.if-counts_pass.true) in
          t.value-is
          ∙ goes-on asked t.if-counts_pass.true
          (t.members_pass.ensures ∙ members-asked x (typed (goal.at.Joined-counts_pass c).Start) few)
      | else-counts_pass t ↦ t.value-is ∙ ends asked _ t.if-counts_pass.false
    ]

four : (c : Joined-members_pass) → c.if-members_pass.value ≡ first_four (w (goal.at.Joined-members_pass c).Start)
four c =
    let x = w (goal.at.Joined-members_pass c).Start in
    let asked = three (goal.at.Joined-members_pass c).Joined-counts_pass in
    elim c.if-members_pass.branch [
      | then-members_pass t ↦
          let few = few-held x (and_left (first_two x) _ (sym asked ∙ t.if-members_pass.true)) in
          t.value-is
          ∙ goes-on asked t.if-members_pass.true
          (t.tree_passes.ensures ∙ tree-asked x (typed (goal.at.Joined-members_pass c).Start) few)
      | else-members_pass t ↦ t.value-is ∙ ends asked _ t.if-members_pass.false
    ]

few-of-four : (x : Witness) → first_four x ≡ true → Few x
few-of-four x e = few-held x (and_left (first_two x) _ (and_left (first-three x) _ e))

pub votes_pass-requires : goal.votes_pass-requires
votes_pass-requires c =
    let x = w (goal.at.votes_pass-requires c).Start in
    let all = sym (four (goal.at.votes_pass-requires c).Joined-members_pass) ∙ c.if-tree_passes.true in
    votes-counted x (typed (goal.at.votes_pass-requires c).Start) (few-of-four x all) (and_right (first-three x) _ all)

pub returns-then-tree_passes : goal.returns-then-tree_passes
returns-then-tree_passes c =
    let x = w (goal.at.returns-then-tree_passes c).Start in
    let asked = four (goal.at.returns-then-tree_passes c).Joined-members_pass in
    let t = typed (goal.at.returns-then-tree_passes c).Start in
    let few = few-of-four x (sym asked ∙ c.if-tree_passes.true) in
    (goes-on asked c.if-tree_passes.true (c.votes_pass.ensures ∙ votes-asked x t few) ∙ parts x refl refl refl refl refl, t)

pub returns-else-tree_passes : goal.returns-else-tree_passes
returns-else-tree_passes c =
    let x = w (goal.at.returns-else-tree_passes c).Start in
    let asked = four (goal.at.returns-else-tree_passes c).Joined-members_pass in
    (ends asked _ c.if-tree_passes.false ∙ parts x refl refl refl refl refl, typed (goal.at.returns-else-tree_passes c).Start)
