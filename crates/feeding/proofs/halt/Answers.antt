-- `feeding::halt` meets its contract. Assumes nothing.
use native.Mathlib.Omega.{arith}
use mathlib.Core.Path.{sym, ◌∙◌}
use Rattle.std.specs.Prelude.{Ok}
use Rattle.text.proofs.Putting.{none}
use Rattle.feeding.specs.declared.Pause.TheVariants.{Wants, Ended}
use Rattle.feeding.proofs.Told.{halted-test, paused-fed}
use Rattle.feeding.proofs.halt.Goals as goal

pub returns-then-eq : goal.returns-then-eq
returns-then-eq c =
    let a = c.args in
    paused-fed a.w a.k a.next a.at _ a.buf.now _ (Ok Ended) (halted-test a.w a.k a.o _ (sym c.if-eq.true ∙ c.eq.ensures)) c.stopped_line.ensures.0

pub returns-else-eq : goal.returns-else-eq
returns-else-eq c =
    let a = c.args in
    paused-fed a.w a.k a.next a.at _ a.buf.now _ (Ok Wants) (halted-test a.w a.k a.o _ (sym c.if-eq.false ∙ c.eq.ensures))
    (none a.buf.now a.at (omega (arith, c.requires)))
