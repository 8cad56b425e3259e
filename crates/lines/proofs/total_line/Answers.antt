use native.Mathlib.Omega.{arith}
use mathlib.Core.Path.{◌≡◌, refl, sym, ap, ◌∙◌}
use mathlib.Core.List.{◌++◌}
use lib.ListN.{length}
use Rattle.model.specs.Bytes.{ascii}
use Rattle.model.specs.Report.{total_text, yes_no, newline}
use Rattle.text.proofs.Putting.{spelled, ended}
use Rattle.lines.proofs.total_line.Goals as goal
use Rattle.lines.proofs.total_line.Goals.{then-conflict, else-conflict}

pub returns : goal.returns
unfolding total_text yes_no ascii newline
returns c =
    let ending : c.if-conflict.ending.now ≡ ascii " conflict " ++ yes_no c.args.conflict ++ newline = elim c.if-conflict.branch [
      | then-conflict w ↦ ap (λ b. b.now) w.ending-is ∙ ap (λ s. ascii " conflict " ++ yes_no s ++ newline) (sym w.if-conflict.true)
      | else-conflict w ↦ ap (λ b. b.now) w.ending-is ∙ ap (λ s. ascii " conflict " ++ yes_no s ++ newline) (sym w.if-conflict.false)
    ] in (
      ended yes_no (ascii " conflict ") newline {s = c.args.conflict} refl c.pair-next.ensures.0 (spelled c.put.ensures ending),
      elim c.if-conflict.branch [
        | then-conflict w ↦ omega (arith, ap (λ b. length b.now) w.ending-is)
        | else-conflict w ↦ omega (arith, ap (λ b. length b.now) w.ending-is)
      ],
    )
