-- What the rows come to, once each test is known: the code's tests, one by one, are the rows.
use Prim.Native.Nat.{ℕ, ◌+◌, ◌<◌, ◌≤◌}
use mathlib.Core.Path.{◌≡◌, sym, ap, ap₂, ◌∙◌}
use mathlib.Core.List.{List}
use mathlib.Core.Bool.{Bool, true, false, ◌||◌, not}
use borrow.Author.Tests.{eq-eqb, ne_eqb, lt-ltb, le-ltb}
use lib.ListN.{length, drop}
use lib.Dec.{eqb, ltb, leb}
use Rattle.model.specs.Answer.{answer, row}
use Rattle.model.specs.Bytes.{field, part}
use Rattle.model.specs.Change.{add_member, add_checkpoint, give_quota}
use Rattle.model.specs.Decide.{members_fixed, bond_out_of_range, decide_member, decide_checkpoint, bad_quorum, decide_quorum}
use Rattle.model.specs.Lists.{first_index, same_bytes}
use Rattle.model.specs.Limits.{bond_limit, member_limit, checkpoint_limit}
use Rattle.model.specs.Model.{Model, Member, height_of, place_of, id_held, name_held}
use Rattle.model.specs.Rule.{given?, permitted?}
use Rattle.model.specs.declared.Quota.{Quota}
use Rattle.model.proofs.Lists.{or_left, or_right}
use Rattle.std.specs.Prelude.{Option, MatchOption}
use Rattle.std.specs.Option.{is_some}
use Rattle.names.specs.Rows.{rows}
use Rattle.state.specs.Tables.{NamesHeld}
use Rattle.state.proofs.Fields.{part_at, field_at}
use Rattle.ballots.proofs.Linked.{found_at, name-found}

-- the member that the code read is the record's
pub member-read : (at : ℕ) (log : List ℕ) {id bond : ℕ} → id ≡ field (at + 1) 2 log → bond ≡ field (at + 3) 8 log
    → ◌≡◌ {A = Member} (record { id = id; bond = bond }) (record { id = field 1 2 (drop at log); bond = field 3 8 (drop at log) })
member-read at log p q = λ i. record { id = (p ∙ sym (field_at at 1 2 log)) i; bond = (q ∙ sym (field_at at 3 8 log)) i }

pub member-rows : (m : Model) (x : Member) {b10 b11 b12 b13 : Bool}
    → members_fixed m ≡ b10
    → bond_out_of_range x.bond ≡ b11
    → id_held m x.id ≡ b12
    → leb member_limit (length m.members) ≡ b13
    → decide_member m x ≡ row 10 b10 (row 11 b11 (row 12 b12 (row 13 b13 (answer (add_member x)))))
unfolding decide_member
member-rows m x e10 e11 e12 e13 = rw (e10, e11, e12, e13)

pub bond-zero : (b : ℕ) → b ≡ 0 → bond_out_of_range b ≡ true
unfolding bond_out_of_range
bond-zero b e = or_left (eqb b 0) (ltb bond_limit b) (eq-eqb b 0 e)

pub bond-above : (b : ℕ) → bond_limit < b → bond_out_of_range b ≡ true
unfolding bond_out_of_range
bond-above b h = or_right (eqb b 0) (ltb bond_limit b) (lt-ltb bond_limit b h)

pub bond-fits : (b : ℕ) → (b ≡ 0 → ⊥) → b ≤ bond_limit → bond_out_of_range b ≡ false
unfolding bond_out_of_range
bond-fits b n h = ap₂ ◌||◌ (ne_eqb b 0 n) (le-ltb bond_limit b h)

-- the quota that the code read is the record's
pub quota-read : (at : ℕ) (log : List ℕ) {p q : ℕ} → p ≡ field (at + 1) 2 log → q ≡ field (at + 3) 2 log
    → ◌≡◌ {A = Quota} (record { p = p; q = q }) (record { p = field 1 2 (drop at log); q = field 3 2 (drop at log) })
quota-read at log e f = λ i. record { p = (e ∙ sym (field_at at 1 2 log)) i; q = (f ∙ sym (field_at at 3 2 log)) i }

pub quorum-rows : (m : Model) (k : Quota) {fixed permitted given : Bool}
    → members_fixed m ≡ fixed
    → permitted? k ≡ permitted
    → given? m.rule ≡ given
    → decide_quorum m k ≡ row 63 fixed (row 64 (not permitted || given) (answer (give_quota k)))
unfolding decide_quorum bad_quorum
quorum-rows m k e63 e f = rw (e63, e, f)

pub checkpoint-rows : (m : Model) (name parent : List ℕ) {b20 b21 b22 : Bool}
    → name_held m name ≡ b20
    → name_held m parent ≡ b21
    → leb checkpoint_limit (length m.checkpoints) ≡ b22
    → decide_checkpoint m name parent
    ≡ row 20 b20 (row 21 (not b21) (row 22 b22
    (answer (add_checkpoint (record { name = name; parent = place_of m.checkpoints parent; height = height_of m.checkpoints (place_of m.checkpoints parent) + 1 })))))
unfolding decide_checkpoint
checkpoint-rows m name parent e20 e21 e22 = rw (e20, e21, e22)

-- the place found in the table is the model's, and so is whether the name is held; the name stands in a record
module _ {m : Model} {names : List ℕ} {n : ℕ} (at i : ℕ) (log : List ℕ) (held : NamesHeld m names n) where
  abbrev first : ℕ
  first = first_index (λ x. same_bytes x (part (at + i) 32 log)) (rows n names)

  pub found_name : {r : ℕ} → r ≡ first → place_of m.checkpoints (part i 32 (drop at log)) ≡ r
  found_name e = ap (place_of m.checkpoints) (part_at at i 32 log) ∙ found_at (at + i) log held e

  pub held-name : (r : Option ℕ) → MatchOption r (first ≡ n) (λ j. (j ≡ first) × (j < n)) → name_held m (part i 32 (drop at log)) ≡ is_some r
  held-name r h = ap (name_held m) (part_at at i 32 log) ∙ name-found (at + i) log held r h

-- a checkpoint that is taken: its parent's place as found, and one more than the height held there
pub checkpoint-taken : (m : Model) (name parent : List ℕ) {p h : ℕ}
    → name_held m name ≡ false
    → name_held m parent ≡ true
    → leb checkpoint_limit (length m.checkpoints) ≡ false
    → place_of m.checkpoints parent ≡ p
    → height_of m.checkpoints p ≡ h
    → answer (add_checkpoint (record { name = name; parent = p; height = h + 1 })) ≡ decide_checkpoint m name parent
unfolding row
checkpoint-taken m name parent e20 e21 e22 ep eh =
    sym (checkpoint-rows m name parent e20 e21 e22
    ∙ λ i. answer (add_checkpoint (record { name = name; parent = ep i; height = (ap (height_of m.checkpoints) ep ∙ eh) i + 1 })))
