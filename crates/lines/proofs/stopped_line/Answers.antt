use Prim.Native.Nat.{ℕ}
use native.Mathlib.Omega.{arith}
use mathlib.Core.Path.{ap, ◌∙◌}
use Rattle.model.specs.Bytes.{ascii}
use Rattle.model.specs.Report.{stopped_line, newline}
use Rattle.text.proofs.Putting.{spelled, next}
use Rattle.lines.proofs.stopped_line.Goals as goal

pub returns : goal.returns
unfolding stopped_line ascii newline
returns c =
    (spelled (next c.pair-next.ensures.0 c.put.ensures) (ap (λ (n : ℕ). stopped_line n c.args.k) (c.from.ensures ∙ c.from-number.ensures)), omega arith)
