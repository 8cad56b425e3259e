use native.Mathlib.Omega.{arith}
use mathlib.Core.Path.{refl}
use Rattle.model.specs.Bytes.{ascii}
use Rattle.model.specs.Evidence.{broken}
use Rattle.model.specs.Report.{member_text, conduct_text, newline}
use Rattle.text.proofs.Putting.{next, ended}
use Rattle.lines.proofs.broken_line.Goals as goal

pub returns : goal.returns
unfolding member_text conduct_text ascii newline
returns c =
    let a = c.args in (
      ended conduct_text (ascii " ") newline {s = broken a.i a.j} refl (rw c.from.ensures at c.pair-one.ensures.0) (next (rw (c.from-2.ensures, c.from-3.ensures) at c.pair-two.ensures.0) c.put.ensures),
      omega arith,
    )
