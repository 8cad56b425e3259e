use Prim.Native.Nat.{ℕ, ◌+◌, ◌≤◌}
use native.Mathlib.Omega.{arith}
use mathlib.Core.Path.{◌≡◌, refl, sym, ap, ◌∙◌}
use mathlib.Core.Logic.{inl, inr}
use mathlib.Core.List.{List, ◌++◌}
use lib.ListN.{length, take, drop, length-append, take-append-drop}
use lib.Seq.{length-take-le}
use Rattle.feeding.proofs.Onward.{none_yet, end-inside, spent-here, May, few-records, few-entries}
use Rattle.feeding.proofs.Onward.{rows_long, numbers, batch_here, some-passed, room-left, halted-last}
use Rattle.feeding.proofs.read_on.Goals as goal
use Rattle.feeding.proofs.read_on.Goals.{After-read_from-r, After-batch-most, then-loop-buf-test+else-k-lt-LAST_NUMBER, else-loop-buf-test}

pub loop-buf-init : goal.loop-buf-init
loop-buf-init c =
    let a = c.args in
    (refl, none_yet a.w a.records a.log.now a.at a.buf.now c.requires (omega arith))

-- the rows lent
abbrev lent : After-batch-most → List ℕ
lent c = take c.batch-most.result c.loop-buf.rows

lent-long : (c : After-batch-most) → length (lent (goal.at.After-batch-most c).After-batch-most) ≡ c.batch-most.result
lent-long c = length-take-le c.batch-most.result c.loop-buf.rows (omega (arith, c.batch-most.ensures.1, c.loop-buf.invariant.0))

-- each entry that may be written has room
may : (c : After-batch-most)
    → let l = c.loop-buf in
    May c.args.log.now l.buf l.k l.end (length (lent (goal.at.After-batch-most c).After-batch-most))
may c =
    let l = c.loop-buf in
    record {
      bytes = λ i h. (c.type_inv.log i).fits;
      room = omega (arith, lent-long (goal.at.After-batch-most c).After-batch-most, c.batch-most.ensures.2);
      number = c.if-k-lt-LAST_NUMBER.true;
    }

few : (c : After-read_from-r) → c.read_from-r.result.used ≤ c.batch-most.result
few c = omega (arith, few-entries c.loop-buf.invariant.1 (may (goal.at.After-read_from-r c).After-batch-most) c.read_from-r.ensures, lent-long (goal.at.After-read_from-r c).After-batch-most)

-- the rows that were not lent
abbrev others : After-batch-most → List ℕ
others c = drop c.batch-most.result c.loop-buf.rows

others-long : (c : After-batch-most) → length (lent (goal.at.After-batch-most c).After-batch-most) + length (others (goal.at.After-batch-most c).After-batch-most) ≡ 1024
others-long c = sym (length-append (lent (goal.at.After-batch-most c).After-batch-most) (others (goal.at.After-batch-most c).After-batch-most)) ∙ ap length (take-append-drop c.batch-most.result c.loop-buf.rows) ∙ c.loop-buf.invariant.0

-- the entries written lie within all rows
rows-inside : (c : After-read_from-r) → c.read_from-r.result.used ≤ length (c.read_from-r.new.rows ++ others (goal.at.After-read_from-r c).After-batch-most)
rows-inside c =
    omega (arith, few c, lent-long (goal.at.After-read_from-r c).After-batch-most, rows_long c.loop-buf.invariant.1 (may (goal.at.After-read_from-r c).After-batch-most) c.read_from-r.ensures (others (goal.at.After-read_from-r c).After-batch-most) refl)

-- those that are read of it
taken-long : (c : After-read_from-r)
    → length (take c.read_from-r.result.used (c.read_from-r.new.rows ++ others (goal.at.After-read_from-r c).After-batch-most)) ≡ c.read_from-r.result.used
taken-long c = length-take-le c.read_from-r.result.used (c.read_from-r.new.rows ++ others (goal.at.After-read_from-r c).After-batch-most) (rows-inside c)

pub refused_lines-end-requires : goal.refused_lines-end-requires
refused_lines-end-requires c =
    let l = c.loop-buf in
    let so = l.invariant.1 in (
      omega (arith, taken-long (goal.at.refused_lines-end-requires c).After-read_from-r, few (goal.at.refused_lines-end-requires c).After-read_from-r, lent-long (goal.at.refused_lines-end-requires c).After-batch-most, (may (goal.at.refused_lines-end-requires c).After-batch-most).room, end-inside so),
      omega (arith, numbers so (may (goal.at.refused_lines-end-requires c).After-batch-most) c.read_from-r.ensures (others (goal.at.refused_lines-end-requires c).After-batch-most), few-records so (may (goal.at.refused_lines-end-requires c).After-batch-most) c.read_from-r.ensures, so.numbered),
    )

pub overflow_add-k : goal.overflow_add-k
overflow_add-k c =
    let r = (goal.at.overflow_add-k c).After-read_from-r in
    let so = c.loop-buf.invariant.1 in
    omega (arith, few-records so (may (goal.at.overflow_add-k c).After-batch-most) c.read_from-r.ensures, so.numbered)

pub halt-requires : goal.halt-requires
halt-requires c =
    let r = (goal.at.halt-requires c).After-read_from-r in
    let so = c.loop-buf.invariant.1 in
    let room = room-left so (may (goal.at.halt-requires c).After-batch-most) c.read_from-r.ensures (others (goal.at.halt-requires c).After-batch-most) c.refused_lines-end.ensures.0 _ c.in-Some.is in
    omega (arith, room, end-inside (batch_here so (may (goal.at.halt-requires c).After-batch-most) c.read_from-r.ensures (others (goal.at.halt-requires c).After-batch-most) c.refused_lines-end.ensures.0))

pub returns-in-Some : goal.returns-in-Some
returns-in-Some c =
    let r = (goal.at.returns-in-Some c).After-read_from-r in
    halted-last c.loop-buf.invariant.1 (may (goal.at.returns-in-Some c).After-batch-most) c.read_from-r.ensures (others (goal.at.returns-in-Some c).After-batch-most) c.refused_lines-end.ensures.0 _ c.in-Some.is c.halt.ensures

pub loop-buf-smaller : goal.loop-buf-smaller
loop-buf-smaller c =
    let r = (goal.at.loop-buf-smaller c).After-read_from-r in
    let so = c.loop-buf.invariant.1 in
    omega (
      arith,
      lent-long (goal.at.loop-buf-smaller c).After-batch-most,
      c.batch-most.ensures.0,
      few-records so (may (goal.at.loop-buf-smaller c).After-batch-most) c.read_from-r.ensures,
      some-passed so (may (goal.at.loop-buf-smaller c).After-batch-most) c.read_from-r.ensures (others (goal.at.loop-buf-smaller c).After-batch-most) c.refused_lines-end.ensures.0 (omega (arith, lent-long (goal.at.loop-buf-smaller c).After-batch-most, c.batch-most.ensures.0)) c.in_default.is,
    )

pub loop-buf-preserved : goal.loop-buf-preserved
loop-buf-preserved c =
    let r = (goal.at.loop-buf-preserved c).After-read_from-r in
    let so = c.loop-buf.invariant.1 in
    (rows_long so (may (goal.at.loop-buf-preserved c).After-batch-most) c.read_from-r.ensures (others (goal.at.loop-buf-preserved c).After-batch-most) refl ∙ others-long (goal.at.loop-buf-preserved c).After-batch-most, batch_here so (may (goal.at.loop-buf-preserved c).After-batch-most) c.read_from-r.ensures (others (goal.at.loop-buf-preserved c).After-batch-most) c.refused_lines-end.ensures.0)

pub returns : goal.returns
returns c =
    spent-here c.loop-buf.invariant.1 c.why_spent.result c.why_spent.ensures
    (elim c.loop-buf-test.branch [
      | then-loop-buf-test+else-k-lt-LAST_NUMBER w ↦ inr w.if-k-lt-LAST_NUMBER.false
      | else-loop-buf-test w ↦ inl w.loop-buf-test.false
    ])
