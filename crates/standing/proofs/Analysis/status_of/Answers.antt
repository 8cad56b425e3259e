-- `standing::Analysis::status_of` meets its contract. Assumes nothing.
use mathlib.Core.Path.{sym, ◌∙◌}
use Rattle.standing.specs.Answers.{status_in}
use Rattle.standing.proofs.Analysis.status_of.Goals as goal

pub returns-then-is_final : goal.returns-then-is_final
unfolding status_in
returns-then-is_final c = rw (← c.from.ensures, sym c.is_final.ensures ∙ c.if-is_final.true)

pub returns-then-mark : goal.returns-then-mark
unfolding status_in
returns-then-mark c = rw (← c.from.ensures, sym c.is_final.ensures ∙ c.if-is_final.false, c.if-mark.true)

pub returns : goal.returns
unfolding status_in
returns c = rw (← c.from.ensures, sym c.is_final.ensures ∙ c.if-is_final.false, c.if-mark.false)
