use Prim.Native.Nat.{ℕ, ◌+◌, ◌*◌}
use native.Mathlib.Omega.{arith}
use mathlib.Core.Path.{◌≡◌}
use Rattle.model.specs.Bytes.{part}
use Rattle.wire.specs.Words.{le_of}
use Rattle.names.proofs.Words.{Others, other_word, others-more}
use Rattle.names.proofs.next_alike.Goals as goal
use Rattle.names.proofs.next_alike.Goals.{Else-le64-word, Else-le64-word-2, Else-le64-word-3, Else-le64-word-4, In-loop-i}

-- the names from `from` to the n-th of a turn are passed over
abbrev Over : In-loop-i → ℕ → Type 0
Over turn n =
    let a = turn.args in
    Others a.names.now a.s.now a.at a.from (turn.loop-i.i + n)

over_none : (turn : In-loop-i) → Over (goal.at.In-loop-i turn).In-loop-i 0
over_none turn k h = turn.loop-i.invariant.3 k (omega arith)

-- where the first word that is looked at in a turn stands
abbrev offset : In-loop-i → ℕ
offset turn = turn.loop-i.i * 32 + turn.args.d

over-more : (turn : In-loop-i) (n o : ℕ) {x : ℕ}
    → o ≡ offset (goal.at.In-loop-i turn).In-loop-i + n * 32
    → let start = turn.before.before.before.before.before in
    x ≡ le_of (part o 8 start.args.names.now)
    → (x ≡ turn.le64-word.result → ⊥)
    → Over (goal.at.In-loop-i turn).In-loop-i n
    → Over (goal.at.In-loop-i turn).In-loop-i (n + 1)
over-more turn n o e here differ so =
    let start = turn.before.before.before.before.before in
    let a = start.args in
    let l = turn.loop-i in
    let k = l.i + n in
    let inside = start.requires.3 in
    let word = other_word a.names.now a.s.now a.at k a.d o in
    let other = word inside (omega arith) here l.invariant.2 differ in
    others-more a.names.now a.s.now a.at k (omega arith) other so

one : (c : Else-le64-word) → Over (goal.at.Else-le64-word c).In-loop-i 1
one c =
    over-more (goal.at.Else-le64-word c).In-loop-i 0 (offset (goal.at.Else-le64-word c).In-loop-i) (omega arith) c.le64.ensures c.if-le64-word.false
    (over_none (goal.at.Else-le64-word c).In-loop-i)

two : (c : Else-le64-word-2) → Over (goal.at.Else-le64-word-2 c).In-loop-i 2
two c =
    over-more (goal.at.Else-le64-word-2 c).In-loop-i 1 (offset (goal.at.Else-le64-word-2 c).In-loop-i + 32) (omega arith) c.le64-in-loop-i.ensures c.if-le64-word-2.false
    (one (goal.at.Else-le64-word-2 c).Else-le64-word)

three : (c : Else-le64-word-3) → Over (goal.at.Else-le64-word-3 c).In-loop-i 3
three c =
    over-more (goal.at.Else-le64-word-3 c).In-loop-i 2 (offset (goal.at.Else-le64-word-3 c).In-loop-i + 64) (omega arith) c.le64-in-loop-i-2.ensures c.if-le64-word-3.false
    (two (goal.at.Else-le64-word-3 c).Else-le64-word-2)

four : (c : Else-le64-word-4) → Over (goal.at.Else-le64-word-4 c).In-loop-i 4
four c =
    over-more (goal.at.Else-le64-word-4 c).In-loop-i 3 (offset (goal.at.Else-le64-word-4 c).In-loop-i + 96) (omega arith) c.le64-in-loop-i-3.ensures c.if-le64-word-4.false
    (three (goal.at.Else-le64-word-4 c).Else-le64-word-3)

pub loop-i-init : goal.loop-i-init
loop-i-init c = (omega arith, omega arith, c.le64-word.ensures, λ k h l. absurd (omega arith))

pub returns-then-le64-word : goal.returns-then-le64-word
returns-then-le64-word c =
    let so = c.loop-i.invariant in
    (so.0, so.1, so.3)

pub returns-then-le64-word-2 : goal.returns-then-le64-word-2
returns-then-le64-word-2 c = (omega arith, omega arith, one (goal.at.returns-then-le64-word-2 c).Else-le64-word)

pub returns-then-le64-word-3 : goal.returns-then-le64-word-3
returns-then-le64-word-3 c = (omega arith, omega arith, two (goal.at.returns-then-le64-word-3 c).Else-le64-word-2)

pub returns-then-le64-word-4 : goal.returns-then-le64-word-4
returns-then-le64-word-4 c = (omega arith, omega arith, three (goal.at.returns-then-le64-word-4 c).Else-le64-word-3)

pub loop-i-preserved : goal.loop-i-preserved
loop-i-preserved c =
    (omega arith, omega arith, c.loop-i.invariant.2, four (goal.at.loop-i-preserved c).Else-le64-word-4)

pub returns : goal.returns
returns c =
    let so = c.loop-i.invariant in
    (so.0, so.1, so.3)
