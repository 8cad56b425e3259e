-- `board::lines::put_standing` meets its contract: the standing, and its blanks. Assumes nothing.
use mathlib.Core.List.{◌++◌}
use mathlib.Core.Path.{sym, ap}
use Rattle.model.specs.Bytes.{ascii}
use Rattle.model.specs.Paper.{left, blanks}
use Rattle.model.specs.Report.{status_text}
use Rattle.model.specs.declared.Status.{Status}
use Rattle.text.proofs.Putting.{spelled}
use Rattle.board.proofs.lines.put_standing.Goals as goal

pub returns-in-Plain : goal.returns-in-Plain
unfolding left status_text ascii
returns-in-Plain c =
    spelled c.put.ensures (ap (λ (s : Status). left 12 (status_text s) ++ blanks 2)
    (sym c.in-Plain.is))

pub returns-in-Justified : goal.returns-in-Justified
unfolding left status_text ascii
returns-in-Justified c =
    spelled c.put-in-Justified.ensures (ap (λ (s : Status). left 12 (status_text s) ++ blanks 2)
    (sym c.in-Justified.is))

pub returns-in-Final : goal.returns-in-Final
unfolding left status_text ascii
returns-in-Final c =
    spelled c.put-in-Final.ensures (ap (λ (s : Status). left 12 (status_text s) ++ blanks 2)
    (sym c.in-Final.is))
