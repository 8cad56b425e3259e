-- `registry::members::decide_member` meets its contract: its tests are rows 10 to 13, in their order. Assumes nothing.
use Prim.Native.Nat.{ℕ}
use mathlib.Core.Path.{◌≡◌, refl, sym, ap, ◌∙◌}
use mathlib.Core.List.{List}
use mathlib.Core.Logic.{⊎_elim}
use mathlib.Core.Bool.{false}
use borrow.Author.Tests.{le-leb, lt-leb}
use lib.Dec.{leb}
use lib.ListN.{length, drop}
use Rattle.model.specs.Answer.{answer, row}
use Rattle.model.specs.Bytes.{field}
use Rattle.model.specs.Change.{add_member, single}
use Rattle.model.specs.Decide.{bond_out_of_range}
use Rattle.model.specs.Limits.{member_limit}
use Rattle.model.specs.Model.{Model, Member, id_held}
use Rattle.state.specs.Tables.{MembersHeld}
use Rattle.state.proofs.Fields.{field_at}
use Rattle.ballots.proofs.Linked.{id-found-among}
use Rattle.registry.proofs.Decided.{member-read, member-rows, bond-zero, bond-above, bond-fits}
use Rattle.registry.proofs.members.decide_member.Goals as goal
use Rattle.registry.proofs.members.decide_member.Goals.{After-be64-bond, After-is_some, Else-bond-gt-MAX_BOND, Else-fixed}

-- the bytes of the record
abbrev s : Else-fixed → List ℕ
s c = let a = c.args in drop a.at a.log.now

bond-is : (c : After-be64-bond) → field 3 8 (s (goal.at.After-be64-bond c).Else-fixed) ≡ c.be64-bond.result
bond-is c = let a = c.args in field_at a.at 3 8 a.log.now ∙ sym c.be64-bond.ensures

bond-good : (c : Else-bond-gt-MAX_BOND) → bond_out_of_range (field 3 8 (s (goal.at.Else-bond-gt-MAX_BOND c).Else-fixed)) ≡ false
bond-good c = ap bond_out_of_range (bond-is (goal.at.Else-bond-gt-MAX_BOND c).After-be64-bond) ∙ bond-fits _ c.if-bond-eq0.false c.if-bond-gt-MAX_BOND.false

held-is : (c : After-is_some) {m : Model}
    → let ids = c.args.ids.now in
    MembersHeld m ids (length ids) → id_held m (field 1 2 (s (goal.at.After-is_some c).Else-fixed)) ≡ c.is_some.result
held-is c {m} held =
    let a = c.args in
    ap (id_held m) (field_at a.at 1 2 a.log.now ∙ sym c.be16-id.ensures)
    ∙ id-found-among _ held c.find_id.result c.find_id.ensures ∙ sym c.is_some.ensures

pub returns-then-fixed : goal.returns-then-fixed
unfolding row
returns-then-fixed c = λ m fixed held. ap single (sym (member-rows m _ (fixed ∙ c.if-fixed.true) refl refl refl))

pub returns-then-bond-eq0 : goal.returns-then-bond-eq0
unfolding row
returns-then-bond-eq0 c =
    λ m fixed held.
    ap single
    (sym (member-rows m _ (fixed ∙ c.if-fixed.false) (ap bond_out_of_range (bond-is (goal.at.returns-then-bond-eq0 c).After-be64-bond) ∙ ⊎_elim (bond-zero _) (λ h. bond-above _ h.1) c.then-bond-eq0.either) refl refl))

pub returns-then-is_some : goal.returns-then-is_some
unfolding row
returns-then-is_some c =
    λ m fixed held.
    ap single
    (sym (member-rows m _ (fixed ∙ c.if-fixed.false) (bond-good (goal.at.returns-then-is_some c).Else-bond-gt-MAX_BOND) (held-is (goal.at.returns-then-is_some c).After-is_some held ∙ c.if-is_some.true) refl))

pub returns-then-ids-ge-MAX_MEMBERS : goal.returns-then-ids-ge-MAX_MEMBERS
unfolding row
returns-then-ids-ge-MAX_MEMBERS c =
    λ m fixed held.
    ap single
    (sym
    (member-rows m _ (fixed ∙ c.if-fixed.false)
    (bond-good (goal.at.returns-then-ids-ge-MAX_MEMBERS c).Else-bond-gt-MAX_BOND)
    (held-is (goal.at.returns-then-ids-ge-MAX_MEMBERS c).After-is_some held ∙ c.if-is_some.false)
    (ap (leb member_limit) held.count ∙ le-leb _ _ c.if-ids-ge-MAX_MEMBERS.true)))

pub returns : goal.returns
unfolding row
returns c =
    λ m fixed held.
    let a = c.args in
    ap single
    (ap (λ (x : Member). answer (add_member x)) (member-read a.at a.log.now c.be16-id.ensures c.be64-bond.ensures)
    ∙ sym
    (member-rows m _ (fixed ∙ c.if-fixed.false) (bond-good (goal.at.returns c).Else-bond-gt-MAX_BOND) (held-is (goal.at.returns c).After-is_some held ∙ c.if-is_some.false)
    (ap (leb member_limit) held.count ∙ lt-leb _ _ c.if-ids-ge-MAX_MEMBERS.false)))
