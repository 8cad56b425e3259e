-- `summary::members::member_line` meets its contract, case by case. Assumes nothing.
use mathlib.Core.Path.{sym, ap}
use Rattle.model.specs.Report.{member_text}
use Rattle.std.specs.Prelude.{Option}
use Rattle.conduct.specs.declared.Breach.{Breach}
use Rattle.conduct.specs.Shown.{conduct_of}
use Rattle.text.proofs.Putting.{spelled}
use Rattle.summary.proofs.members.member_line.Goals as goal

pub returns-in-None : goal.returns-in-None
returns-in-None c =
    let a = c.args in
    (spelled c.clear_line.ensures.0 (ap (λ (s : Option Breach). member_text a.id a.bond (conduct_of s)) (sym c.in-None.is)), c.clear_line.ensures.1)

pub returns-in-Some : goal.returns-in-Some
returns-in-Some c =
    let a = c.args in
    (spelled c.broken_line.ensures.0 (ap (λ (s : Option Breach). member_text a.id a.bond (conduct_of s)) (sym c.in-Some.is)), c.broken_line.ensures.1)
