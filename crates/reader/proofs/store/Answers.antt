-- `reader::store` meets its contract, case by case. Assumes nothing.
use Prim.Native.Nat.{ℕ, ◌+◌, ◌<◌, ◌≤◌}
use native.Mathlib.Omega.{arith}
use mathlib.Core.Path.{◌≡◌, refl, sym, ap, ◌∙◌, subst, transport}
use mathlib.Core.List.{List, [], ◌∷◌, ◌++◌}
use lib.Dec.{leb}
use lib.ListN.{length, drop, take, set, length-take, length-drop}
use Rattle.std.specs.Prelude.{Ok}
use Rattle.model.specs.Answer.{Answer, answer, row_of}
use Rattle.model.specs.Bits.{set_places}
use Rattle.model.specs.Bytes.{AreBytes, part}
use Rattle.model.specs.Change.{Change, Told, nothing_left, taken, Decision as Decided, single}
use Rattle.model.specs.Decide.{decide}
use Rattle.model.specs.Lists.{any}
use Rattle.model.proofs.Fits.{Fits}
use Rattle.search.specs.declared.Links.{Links}
use Rattle.ballots.specs.Ballot.{link_answer_of}
use Rattle.registry.specs.Decision.{decision_of}
use Rattle.registry.specs.declared.Decision.{Decision}
use Rattle.rules.specs.Decision.{Bits, BitsFit}
use Rattle.state.specs.Sound.{Sound}
use Rattle.state.specs.State.{model_of, with_member, with_checkpoint, with_vote, with_quota, store, store_all, stored}
use Rattle.state.specs.declared.Witness.{Witness}
use Rattle.state.proofs.Entries.{count-members, count-checkpoints, count-votes}
use Rattle.state.proofs.Fields.{part_at}
use Rattle.state.proofs.Stored.{checkpoint-stored}
use Rattle.state.specs.Reading.{brief}
use Rattle.entries.specs.Entries.{entries_of, Written}
use Rattle.entries.proofs.Entries.{write_one, write_front, nothing-entry, taken-entry}
use Rattle.reader.specs.Storing.{Searched, bundle_cast, Stores}
use Rattle.reader.proofs.Decisions.{Says, says_fits}
use Rattle.reader.proofs.Searched.{without_vote}
use Rattle.reader.proofs.store.Goals as goal
use Rattle.reader.proofs.store.Goals.{Start, In-Member, In-Checkpoint, In-Vote, In-Bundle, in-Nothing, in-Member, in-Checkpoint, in-Vote, in-Quorum}

abbrev held : Start → Witness
held c = c.args.held.now

abbrev s : Start → List ℕ
s c = drop c.args.at c.args.log.now

sound : (c : Start) → Sound (held c)
sound c = c.requires.held.0

-- what is decided, once its case is known
says : (c : Start) {d : Decision} → c.args.decision ≡ d → Says (held c) c.args.log.now c.args.at (Ok d)
says c e = subst (λ (d : Decision). Says (held c) c.args.log.now c.args.at (Ok d)) e c.requires.decided

-- what is added fits
fits : (c : Start) → AreBytes c.args.log.now → (d : Decision) {x : Change} → c.args.decision ≡ d → (decision_of (model_of (held c)) (s c) (Ok d)).changes ≡ x ∷ [] → Fits (model_of (held c)) x
fits c bytes d e one = says_fits (held c) c.args.log.now c.args.at bytes (Ok d) (says c e) one

member-room : (c : In-Member) → c.args.held.now.member_count < 128
unfolding single
member-room c = omega (arith, (fits (goal.at.In-Member c).Start (λ i h. (c.type_inv.log i).fits) _ c.in-Member.is refl).0, count-members c.args.held.now)

checkpoint-room : (c : In-Checkpoint) → c.args.held.now.checkpoint_count < 512
unfolding single
checkpoint-room c = omega (arith, (fits (goal.at.In-Checkpoint c).Start (λ i h. (c.type_inv.log i).fits) _ c.in-Checkpoint.is refl).0, count-checkpoints c.args.held.now)

vote-room : (c : In-Vote) → c.args.held.now.vote_count < 4096
unfolding single
vote-room c = omega (arith, fits (goal.at.In-Vote c).Start (λ i h. (c.type_inv.log i).fits) _ c.in-Vote.is refl, count-votes c.args.held.now)

-- the name lies within the log
name-inside : (c : In-Checkpoint) → c.args.at + 33 ≤ length c.args.log.now
unfolding single
name-inside c =
    let a = c.args in
    let t = s (goal.at.In-Checkpoint c).Start in
    let long = (fits (goal.at.In-Checkpoint c).Start (λ i h. (c.type_inv.log i).fits) _ c.in-Checkpoint.is refl).1 in
    omega (arith, long, length-take 32 (drop 1 t), length-drop 1 t, length-drop a.at a.log.now)

pub offset_bounds-held-k : goal.offset_bounds-held-k
offset_bounds-held-k c = omega (arith, member-room (goal.at.offset_bounds-held-k c).In-Member)

pub bounds-held-k : goal.bounds-held-k
bounds-held-k c = member-room (goal.at.bounds-held-k c).In-Member

pub offset_bounds-held-k-in-Member : goal.offset_bounds-held-k-in-Member
offset_bounds-held-k-in-Member c = omega (arith, member-room (goal.at.offset_bounds-held-k-in-Member c).In-Member)

pub bounds-held-k-in-Member : goal.bounds-held-k-in-Member
bounds-held-k-in-Member c = member-room (goal.at.bounds-held-k-in-Member c).In-Member

pub overflow_add-held : goal.overflow_add-held
overflow_add-held c = omega (arith, member-room (goal.at.overflow_add-held c).In-Member)

pub overflow_mul-k : goal.overflow_mul-k
overflow_mul-k c = omega (arith, checkpoint-room (goal.at.overflow_mul-k c).In-Checkpoint)

pub overflow_add-at : goal.overflow_add-at
overflow_add-at c = omega (arith, name-inside (goal.at.overflow_add-at c).In-Checkpoint, c.well_formed)

pub copy_name-requires : goal.copy_name-requires
copy_name-requires c = (
  c.requires.held.0.typed.tree.names,
  omega (arith, checkpoint-room (goal.at.copy_name-requires c).In-Checkpoint),
  omega (arith, name-inside (goal.at.copy_name-requires c).In-Checkpoint),
)

pub offset_bounds-held-k-in-Checkpoint : goal.offset_bounds-held-k-in-Checkpoint
offset_bounds-held-k-in-Checkpoint c = omega (arith, checkpoint-room (goal.at.offset_bounds-held-k-in-Checkpoint c).In-Checkpoint)

pub bounds-held-k-in-Checkpoint : goal.bounds-held-k-in-Checkpoint
bounds-held-k-in-Checkpoint c = checkpoint-room (goal.at.bounds-held-k-in-Checkpoint c).In-Checkpoint

pub offset_bounds-held-k-in-Checkpoint-2 : goal.offset_bounds-held-k-in-Checkpoint-2
offset_bounds-held-k-in-Checkpoint-2 c = omega (arith, checkpoint-room (goal.at.offset_bounds-held-k-in-Checkpoint-2 c).In-Checkpoint)

pub bounds-held-k-in-Checkpoint-2 : goal.bounds-held-k-in-Checkpoint-2
bounds-held-k-in-Checkpoint-2 c = checkpoint-room (goal.at.bounds-held-k-in-Checkpoint-2 c).In-Checkpoint

pub overflow_add-held-in-Checkpoint : goal.overflow_add-held-in-Checkpoint
overflow_add-held-in-Checkpoint c = omega (arith, checkpoint-room (goal.at.overflow_add-held-in-Checkpoint c).In-Checkpoint)

pub store_vote-requires : goal.store_vote-requires
store_vote-requires c = (c.requires.held.0.typed, vote-room (goal.at.store_vote-requires c).In-Vote, c.requires.held.1)

-- ---- a bundle: its bits, and what its votes come to
bits_are : (c : Start) → part 1 16 (s c) ≡ part (c.args.at + 1) 16 c.args.log.now
bits_are c = part_at c.args.at 1 16 c.args.log.now

bits_fit : (c : In-Bundle) → Bits c.args.held.now.member_count c.in-Bundle.field-0 (s (goal.at.In-Bundle c).Start)
bits_fit c = subst (λ (d : Decision). BitsFit c.args.held.now.member_count (s (goal.at.In-Bundle c).Start) (Ok d)) c.in-Bundle.is c.requires.bits

pub cast_votes-requires-clause-bits : goal.cast_votes-requires-clause-bits
cast_votes-requires-clause-bits c =
    let a = c.args in
    let b = bits_fit (goal.at.cast_votes-requires-clause-bits c).In-Bundle in
    let are = bits_are (goal.at.cast_votes-requires-clause-bits c).Start in (
      omega (arith, b.long, length-drop a.at a.log.now),
      ap (λ (x : List ℕ). any (leb a.held.now.member_count) (set_places x)) (sym are) ∙ b.held,
      omega (arith, b.some, b.number, ap (λ (x : List ℕ). length (set_places x)) are),
    )

pub returns-in-Bundle : goal.returns-in-Bundle
returns-in-Bundle c =
    let a = c.args in
    let same : bundle_cast a.held.now (link_answer_of c.in-Bundle.link) (part (a.at + 1) 16 a.log.now) ≡ decide (model_of a.held.now) (drop a.at a.log.now) =
    ap (bundle_cast a.held.now (link_answer_of c.in-Bundle.link)) (sym (bits_are (goal.at.returns-in-Bundle c).Start)) ∙ says (goal.at.returns-in-Bundle c).Start c.in-Bundle.is in
    subst (λ (d : Decided). Stores a.held.now d a.rows.now a.used c.cast_votes.new.rows c.cast_votes.new.held c.cast_votes.new.links c.cast_votes.result) same c.cast_votes.ensures

-- ---- what is no bundle: one entry, 0
abbrev Zero : Answer Told → Type 0
Zero t = entries_of t ≡ 0 ∷ []

nothing-zero : Zero (answer nothing_left)
unfolding brief row_of
nothing-zero = nothing-entry

taken-zero : Zero (answer taken)
unfolding brief row_of
taken-zero = taken-entry

one-stored : (c : Start) {d : Decision} {v : Witness} {links : Links}
    → c.args.decision ≡ d
    → v ≡ stored (held c) (decision_of (model_of (held c)) (s c) (Ok d))
    → Searched v links
    → Zero (decision_of (model_of (held c)) (s c) (Ok d)).told
    → let a = c.args in
    Stores (held c) (decide (model_of (held c)) (s c)) a.rows.now a.used (set a.rows.now a.used 0) v links (a.used + 1)
one-stored c e is searched one =
    let rows = c.args.rows.now in
    let used = c.args.used in
    let same = says c e in
    record {
      all-stored = is ∙ ap (stored (held c)) same;
      searched = searched;
      all-written =
          subst (λ (l : List ℕ). Written (take used rows ++ l) rows (set rows used 0) (used + 1))
          (sym one ∙ ap (λ (d : Decided). entries_of d.told) same)
          (write_one 0 (write_front rows used (omega (arith, c.requires.room))) (omega (arith, c.requires.room)));
      past = omega arith;
    }

searched_as : {v w : Witness} {links links' : Links} → v ≡ w → links' ≡ links → Searched w links → Searched v links'
searched_as e l so = transport (λ i. Searched (sym e i) (sym l i)) so

pub returns : goal.returns
unfolding single store_all store with_member with_checkpoint with_vote with_quota
returns c =
    let o = (goal.at.returns c).Start in
    let a = c.args in
    let w = a.held.now in
    let so = c.requires.held.1 in
    elim c.match-decision.branch [
      | in-Nothing n ↦ one-stored o n.in-Nothing.is n.held-is (searched_as n.held-is n.links-is so) nothing-zero
      | in-Member m ↦ one-stored o m.in-Member.is m.held-is (searched_as m.held-is m.links-is (without_vote w so _ refl)) taken-zero
      | in-Checkpoint k ↦
          one-stored o k.in-Checkpoint.is (k.held-is ∙ checkpoint-stored w a.at a.log.now _ _ k.copy_name.ensures)
          (searched_as k.held-is k.links-is (without_vote w so _ refl)) taken-zero
      | in-Vote v ↦ one-stored o v.in-Vote.is (v.held-is ∙ v.store_vote.ensures.0) (searched_as v.held-is v.links-is v.store_vote.ensures.1) taken-zero
      | in-Quorum q ↦ one-stored o q.in-Quorum.is q.held-is (searched_as q.held-is q.links-is (without_vote w so _ refl)) taken-zero
    ]
