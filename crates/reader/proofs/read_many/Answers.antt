use Prim.Native.Nat.{ℕ, ◌+◌, ◌-◌, ◌<◌, ◌≤◌, ◌^◌}
use native.Mathlib.Omega.{arith}
use mathlib.Core.Path.{◌≡◌, sym, ap, ◌∙◌, subst, transport}
use mathlib.Core.List.{List, [], ◌∷◌, ◌++◌}
use borrow.Author.Tests.{ltb-true, leb-true, lt-ltb, le-leb}
use lib.Dec.{ltb}
use lib.ListN.{length, drop, take, set, length-drop}
use lib.Seq.{length-take-le}
use Rattle.std.specs.Prelude.{Err}
use Rattle.model.specs.Answer.{refused, row_of}
use Rattle.model.specs.Change.{Decision as Decided, single}
use Rattle.model.specs.Decide.{decide}
use Rattle.model.specs.Refusals.{refusal_number}
use Rattle.model.specs.declared.Refusal.{Refusal}
use Rattle.model.proofs.Lists.{and_left, and_right, both, clash}
use Rattle.search.specs.Chains.{Indexed}
use Rattle.search.specs.declared.Links.{Links}
use Rattle.tables.proofs.Taken.{packed-taken}
use Rattle.registry.specs.Decision.{decision_of}
use Rattle.rules.specs.Decision.{BitsFit}
use Rattle.state.specs.Reading.{outcome_of, brief}
use Rattle.state.specs.State.{rule_of, quota_in, model_of, store_all, stored}
use Rattle.state.specs.declared.Numbers.{Numbers}
use Rattle.state.specs.declared.Witness.{Witness}
use Rattle.state.proofs.Held.{keys_held, rule-held}
use Rattle.state.proofs.Sound.{few-members, few-checkpoints, few-votes, voters-long}
use Rattle.entries.specs.Entries.{entries_of, Written}
use Rattle.entries.proofs.Entries.{write_one, write_front, write_behind, refused-entry}
use Rattle.reader.specs.Many.{read_many}
use Rattle.reader.specs.Storing.{Stores}
use Rattle.reader.proofs.Decisions.{Says}
use Rattle.reader.proofs.Made.{length-inside}
use Rattle.reader.proofs.Viewed.{ids-number, view-held, view-fits}
use Rattle.reader.proofs.Runs.{Sofar, none_yet, all_read, ended, passed}
use Rattle.reader.proofs.read_many.Goals as goal
use Rattle.reader.proofs.read_many.Goals.{After-decide_record-decided, After-record_length-passed, In-loop-records, In-Ok, Joined-decided, in-Ok, in-Err}

abbrev held : After-decide_record-decided → Witness
held c = c.loop-records.held

abbrev s : After-decide_record-decided → List ℕ
s c = drop c.loop-records.next c.args.log.now

abbrev so : (c : In-loop-records)
    → let a = c.args in
    let l = c.loop-records in
    Sofar (read_many a.limit (length a.rows.now) a.w a.log.now a.at) a.limit a.log.now a.rows.now l.rows l.held l.next l.last l.records l.used
so c = c.loop-records.invariant.0

-- one more may be passed, and there is room for its entries
may : (c : In-loop-records) → let l = c.loop-records in l.records < c.args.limit
may c = ltb-true _ _ (and_left _ _ c.loop-records-test.true)

free : (c : In-loop-records) → let l = c.loop-records in 128 ≤ length l.rows - l.used
free c = let l = c.loop-records in leb-true 128 (length l.rows - l.used) (and_right (ltb l.records _) _ c.loop-records-test.true)

-- what is decided, and of a bundle its bits
known : (c : After-decide_record-decided)
    → Says (held c) c.args.log.now c.loop-records.next c.decide_record-decided.result × BitsFit (held c).member_count (s c) c.decide_record-decided.result
known c =
    let w = held c in
    let sound = c.loop-records.invariant.0.sound in
    let so = c.loop-records.invariant.1 in
    let is = c.view_of-view.ensures in
    let rule = rule-held w ∙ ap (λ (n : Numbers). rule_of (quota_in n)) (sym is.numbers) in
    let decided = c.decide_record-decided.ensures (model_of w) rule (view-held w sound so is) in
    (decided.0, subst (λ (n : ℕ). BitsFit n (s c) c.decide_record-decided.result) (ids-number w sound so is) decided.1)

pub shared_ref_as_front-index : goal.shared_ref_as_front-index
shared_ref_as_front-index c = few-votes c.args.w c.requires

pub loop-records-init : goal.loop-records-init
loop-records-init c =
    let a = c.args in
    let links = c.index-links.result in
    let long = voters-long a.w c.requires in (
      none_yet a.limit a.w a.log.now a.at a.rows.now c.requires (omega (arith, c.ranges.at.fits)),
      record {
        indexed = subst (λ (n : ℕ). Indexed n links.numbers links.heads links.nexts) (length-take-le a.w.vote_count a.w.voters long) c.index-links.ensures.0;
        votes = keys_held a.w (packed-taken a.w.vote_count long c.index-links.ensures.1);
      },
    )

pub view_of-view-requires : goal.view_of-view-requires
view_of-view-requires c =
    let w = c.loop-records.held in
    let sound = c.loop-records.invariant.0.sound in
    (few-members w sound, few-checkpoints w sound)

pub decide_record-decided-requires : goal.decide_record-decided-requires
decide_record-decided-requires c =
    view-fits c.loop-records.held c.loop-records.invariant.0.sound c.loop-records.invariant.1 c.view_of-view.ensures

-- what is told of the record
told_is : (p : After-record_length-passed)
    → outcome_of p.outcome_of-outcome.result ≡ brief (decide (model_of (held (goal.at.After-record_length-passed p).After-decide_record-decided)) (s (goal.at.After-record_length-passed p).After-decide_record-decided)).told
told_is p =
    let d = (goal.at.After-record_length-passed p).After-decide_record-decided in
    p.outcome_of-outcome.ensures (model_of (held d)) (held d).member_count (s d) (known d).1 ∙ ap (λ (x : Decided). brief x.told) (known d).0

pub returns-then-passed-eq0 : goal.returns-then-passed-eq0
returns-then-passed-eq0 c =
    let l = (goal.at.returns-then-passed-eq0 c).In-loop-records in
    ended (so l) (may l) (free l) (told_is (goal.at.returns-then-passed-eq0 c).After-record_length-passed) (sym c.record_length-passed.ensures ∙ c.if-passed-eq0.true)

pub store-used-requires-clause-decided : goal.store-used-requires-clause-decided
store-used-requires-clause-decided c =
    let d = (goal.at.store-used-requires-clause-decided c).After-decide_record-decided in
    subst (Says (held d) c.args.log.now c.loop-records.next) c.in-Ok.is (known d).0

pub store-used-requires-clause-bits : goal.store-used-requires-clause-bits
store-used-requires-clause-bits c =
    let d = (goal.at.store-used-requires-clause-bits c).After-decide_record-decided in
    subst (BitsFit (held d).member_count (s d)) c.in-Ok.is (known d).1

-- where the record ends is within the numbers
past : (c : After-record_length-passed) → c.loop-records.next + c.record_length-passed.result < 2 ^ 64
past c =
    let d = (goal.at.After-record_length-passed c).After-decide_record-decided in
    omega (arith, c.record_length-passed.ensures, length-inside (s d), length-drop c.loop-records.next c.args.log.now, c.loop-records.invariant.0.fits, c.well_formed)

pub overflow_add-next : goal.overflow_add-next
overflow_add-next c = omega (arith, past (goal.at.overflow_add-next c).After-record_length-passed)

-- what a record leaves
abbrev Leaves : After-decide_record-decided → List ℕ → Witness → Links → ℕ → Type 0
Leaves c rows v links end =
    let l = c.loop-records in Stores l.held (decide (model_of l.held) (s c)) l.rows l.used rows v links end

-- one that is refused: its row
refused-left : (c : After-decide_record-decided) (r : Refusal) {x : ℕ} → c.decide_record-decided.result ≡ Err r → x ≡ refusal_number r
    → 128 ≤ length c.loop-records.rows - c.loop-records.used
    → let l = c.loop-records in Leaves c (set l.rows l.used x) l.held l.links (l.used + 1)
unfolding single store_all brief row_of
refused-left c r {x} is row room =
    let l = c.loop-records in
    let w = l.held in
    let same : single (refused (refusal_number r)) ≡ decide (model_of w) (s c) = sym (ap (decision_of (model_of w) (s c)) is) ∙ (known c).0 in
    let entry : x ∷ [] ≡ entries_of (decide (model_of w) (s c)).told =
    ap (λ (n : ℕ). n ∷ []) row ∙ sym (refused-entry (refusal_number r)) ∙ ap (λ (d : Decided). entries_of d.told) same in
    record {
      all-stored = ap (stored w) same;
      searched = l.invariant.1;
      all-written =
          subst (λ (e : List ℕ). Written (take l.used l.rows ++ e) l.rows (set l.rows l.used x) (l.used + 1)) entry
          (write_one x (write_front l.rows l.used (omega (arith, room))) (omega (arith, room)));
      past = omega arith;
    }

leaves : (c : Joined-decided) → let d = c.match-decided in Leaves (goal.at.Joined-decided c).After-decide_record-decided d.rows d.held d.links d.used
leaves c =
    let d = (goal.at.Joined-decided c).After-decide_record-decided in
    let room = free (goal.at.Joined-decided c).In-loop-records in
    elim c.match-decided.branch [
      | in-Ok w ↦ transport (λ i. Leaves d (sym w.rows-is i) (sym w.held-is i) (sym w.links-is i) (sym w.used-is i)) w.store-used.ensures
      | in-Err w ↦ transport (λ i. Leaves d (sym w.rows-is i) (sym w.held-is i) (sym w.links-is i) (sym w.used-is i)) (refused-left d _ w.in-Err.is w.from.ensures room)
    ]

pub loop-records-preserved : goal.loop-records-preserved
loop-records-preserved c =
    let l = (goal.at.loop-records-preserved c).In-loop-records in
    let p = (goal.at.loop-records-preserved c).After-record_length-passed in
    let left = leaves (goal.at.loop-records-preserved c).Joined-decided in (
      passed (so l) (may l) (free l) (told_is p) c.record_length-passed.ensures c.if-passed-eq0.false left.all-stored
          (write_behind _ (so l).written left.all-written (omega (arith, left.past))) (omega (arith, past p)) (λ i h. (c.type_inv.log i).fits),
      left.searched,
    )

pub returns : goal.returns
returns c =
    all_read c.loop-records.invariant.0 (λ h. clash (both (lt-ltb _ _ h.0) (le-leb _ _ h.1)) c.loop-records-test.false)
