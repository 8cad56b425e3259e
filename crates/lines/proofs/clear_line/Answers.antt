use Prim.Native.Nat.{ℕ}
use native.Mathlib.Omega.{arith}
use mathlib.Core.Path.{ap, refl}
use Rattle.model.specs.Bytes.{ascii}
use Rattle.model.specs.Evidence.{clear}
use Rattle.model.specs.Report.{member_text, conduct_text, newline}
use Rattle.text.proofs.Putting.{spelled, ended}
use Rattle.lines.proofs.clear_line.Goals as goal

pub returns : goal.returns
unfolding member_text conduct_text ascii newline
returns c =
    (spelled (ended conduct_text (ascii " ") newline {s = clear} refl c.pair-next.ensures.0 c.put.ensures) (ap (λ (n : ℕ). member_text n c.args.bond clear) c.from.ensures), omega arith)
