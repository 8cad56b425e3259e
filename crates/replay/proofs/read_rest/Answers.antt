use Prim.Native.Nat.{ℕ, ◌+◌, ◌-◌, ◌<◌}
use mathlib.Core.Path.{◌≡◌, refl, ap, ◌∙◌, subst}
use native.Mathlib.Omega.{arith}
use lib.ListN.{length, drop, length-append, length-drop}
use Rattle.model.specs.Answer.{answer}
use Rattle.model.specs.Change.{nothing_left}
use Rattle.state.specs.Reading.{brief, rows_of_votes}
use Rattle.entries.specs.Entries.{entries}
use Rattle.reader.specs.Many.{read_many, IsBatch}
use Rattle.reader.proofs.Made.{many-ends}
use Rattle.reader.proofs.Votes.{votes-fit, votes_are}
use Rattle.replay.proofs.Onward.{rest, none_read, limit_met, log-ended}
use Rattle.replay.proofs.Calls.{Call, few-read, each-passed, passed_then, one_more, stopped, passed-some, some-passed, Held, held_all}
use Rattle.replay.proofs.read_rest.Goals as goal
use Rattle.replay.proofs.read_rest.Goals.{After-last_votes-votes, After-read_from-r, In-loop-at}

pub loop-at-init : goal.loop-at-init
unfolding brief rows_of_votes
loop-at-init c =
    let a = c.args in
    (record { told = answer nothing_left; so = none_read a.limit a.log.now (answer nothing_left) a.w a.from c.requires; last-is = refl; votes_are = refl }, refl)

-- the call, after what was read before it
call : (c : After-read_from-r)
    → let i = (goal.at.After-read_from-r c).In-loop-at in
    let l = c.loop-at in
    let a = c.args in
    Call (rest (answer nothing_left) 0 a.w a.limit a.log.now a.from) a.limit a.log.now l.invariant.0.told l.records l.held l.at 1024 l.rows c.read_from-r.result c.read_from-r.new.rows
call c =
    let i = (goal.at.After-read_from-r c).In-loop-at in
    let l = c.loop-at in
    let a = c.args in
    record {
      so = l.invariant.0.so;
      bytes = λ j h. (c.shared_slice_known-1.given j).fits;
      below = c.if-records-limit.true;
      roomy = omega arith;
      is = subst (λ (n : ℕ). IsBatch (read_many (a.limit - l.records) n l.held a.log.now l.at) l.rows c.read_from-r.result c.read_from-r.new.rows) l.invariant.1 c.read_from-r.ensures;
    }

rows_long : (c : After-read_from-r) → length c.read_from-r.new.rows ≡ 1024
rows_long c =
    let l = c.loop-at in
    let a = c.args in
    let es = entries (read_many (a.limit - l.records) 1024 l.held a.log.now l.at).passed in
    ap length (call (goal.at.After-read_from-r c).After-read_from-r).is.rows
    ∙ length-append es (drop (length es) l.rows)
    ∙ omega (arith, length-drop (length es) l.rows, (many-ends a.log.now (a.limit - l.records) 1024 l.held l.at).short, l.invariant.1)

pub last_votes-votes-requires : goal.last_votes-votes-requires
last_votes-votes-requires c =
    let l = c.loop-at in
    let a = c.args in
    votes-fit (a.limit - l.records) 1024 l.held a.log.now l.at (call (goal.at.last_votes-votes-requires c).After-read_from-r).is

pub overflow_add-records : goal.overflow_add-records
overflow_add-records c = omega (arith, few-read (call (goal.at.overflow_add-records c).After-read_from-r), c.if-records-limit.true, c.ranges.limit)

pub overflow_add-result : goal.overflow_add-result
overflow_add-result c =
    omega (arith, one_more (call (goal.at.overflow_add-result c).After-read_from-r) _ c.in-Some.is, c.ranges.limit)

pub returns-then-at-log : goal.returns-then-at-log
returns-then-at-log c =
    stopped (call (goal.at.returns-then-at-log c).After-read_from-r) _ c.in-Some.is c.if-at-log.true

-- a batch that did not end the reading passed some, and the last of them told what the code has
went_on : (c : After-last_votes-votes) → let r = c.before.before.before.before in
    let i = (goal.at.After-last_votes-votes c).In-loop-at in
    let l = c.loop-at in
    let a = c.args in
    0 < c.read_from-r.result.records
    → Held (rest (answer nothing_left) 0 a.w a.limit a.log.now a.from) a.limit a.log.now c.read_from-r.result.last c.last_votes-votes.result (l.records + c.read_from-r.result.records) c.read_from-r.result.witness c.read_from-r.result.next
went_on c some =
    let r = c.before.before.before.before in
    let i = (goal.at.After-last_votes-votes c).In-loop-at in
    let l = c.loop-at in
    let a = c.args in
    record {
      told = _;
      so = some-passed (call (goal.at.After-last_votes-votes c).After-read_from-r) some;
      last-is = (call (goal.at.After-last_votes-votes c).After-read_from-r).is.last;
      votes_are = c.last_votes-votes.ensures ∙ votes_are (a.limit - l.records) 1024 l.held a.log.now l.at (call (goal.at.After-last_votes-votes c).After-read_from-r).is;
    }

pub loop-at-smaller-else-at-log : goal.loop-at-smaller-else-at-log
loop-at-smaller-else-at-log c =
    omega (arith, each-passed (call (goal.at.loop-at-smaller-else-at-log c).After-read_from-r), passed_then (call (goal.at.loop-at-smaller-else-at-log c).After-read_from-r) _ c.in-Some.is c.loop-at-test.true c.if-at-log.false, c.loop-at-test.true)

pub loop-at-preserved-else-at-log : goal.loop-at-preserved-else-at-log
loop-at-preserved-else-at-log c =
    let v = c.before.before.before.before.before in
    (went_on (goal.at.loop-at-preserved-else-at-log c).After-last_votes-votes (passed_then (call (goal.at.loop-at-preserved-else-at-log c).After-read_from-r) _ c.in-Some.is c.loop-at-test.true c.if-at-log.false), rows_long (goal.at.loop-at-preserved-else-at-log c).After-read_from-r)

pub loop-at-smaller : goal.loop-at-smaller
loop-at-smaller c =
    omega (arith, each-passed (call (goal.at.loop-at-smaller c).After-read_from-r), passed-some (call (goal.at.loop-at-smaller c).After-read_from-r) c.in_default.is, c.loop-at-test.true)

pub loop-at-preserved : goal.loop-at-preserved
loop-at-preserved c =
    let v = c.before.before.before in
    (went_on (goal.at.loop-at-preserved c).After-last_votes-votes (passed-some (call (goal.at.loop-at-preserved c).After-read_from-r) c.in_default.is), rows_long (goal.at.loop-at-preserved c).After-read_from-r)

pub returns-else-records-limit : goal.returns-else-records-limit
returns-else-records-limit c = held_all c.loop-at.invariant.0 (limit_met c.loop-at.invariant.0.so c.if-records-limit.false)

pub returns-after-loop-at : goal.returns-after-loop-at
returns-after-loop-at c = held_all c.loop-at.invariant.0 (log-ended c.loop-at.invariant.0.so c.loop-at-test.false)
