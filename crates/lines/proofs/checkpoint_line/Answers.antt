use native.Mathlib.Omega.{arith}
use mathlib.Core.Path.{◌≡◌, refl, sym, ap, ◌∙◌}
use mathlib.Core.List.{◌++◌}
use lib.ListN.{length}
use Rattle.model.specs.Bytes.{ascii}
use Rattle.model.specs.Report.{checkpoint_text, status_text, newline}
use Rattle.text.proofs.Putting.{spelled, ended}
use Rattle.lines.proofs.checkpoint_line.Goals as goal
use Rattle.lines.proofs.checkpoint_line.Goals.{in-Plain, in-Justified, in-Final}

pub returns : goal.returns
unfolding checkpoint_text status_text ascii newline
returns c =
    let ending : c.match-s.ending.now ≡ ascii " " ++ status_text c.args.s ++ newline = elim c.match-s.branch [
      | in-Plain w ↦ ap (λ b. b.now) w.ending-is ∙ ap (λ s. ascii " " ++ status_text s ++ newline) (sym w.in-Plain.is)
      | in-Justified w ↦ ap (λ b. b.now) w.ending-is ∙ ap (λ s. ascii " " ++ status_text s ++ newline) (sym w.in-Justified.is)
      | in-Final w ↦ ap (λ b. b.now) w.ending-is ∙ ap (λ s. ascii " " ++ status_text s ++ newline) (sym w.in-Final.is)
    ] in (
      ended status_text (ascii " ") newline {s = c.args.s} refl (rw (c.from.ensures, c.from-2.ensures) at c.pair-next.ensures.0) (spelled c.put.ensures ending),
      elim c.match-s.branch [
        | in-Plain w ↦ omega (arith, ap (λ b. length b.now) w.ending-is)
        | in-Justified w ↦ omega (arith, ap (λ b. length b.now) w.ending-is)
        | in-Final w ↦ omega (arith, ap (λ b. length b.now) w.ending-is)
      ],
    )
