use Prim.Native.Nat.{ℕ}
use native.Mathlib.Omega.{arith}
use mathlib.Core.Path.{ap}
use Rattle.model.specs.Bytes.{ascii}
use Rattle.model.specs.Report.{refused_line, newline}
use Rattle.text.proofs.Putting.{spelled, next}
use Rattle.lines.proofs.refused_line.Goals as goal

pub returns : goal.returns
unfolding refused_line ascii newline
returns c =
    (spelled (next c.pair-next.ensures.0 c.put.ensures) (ap (λ (n : ℕ). refused_line n c.args.k) c.from.ensures), omega arith)
