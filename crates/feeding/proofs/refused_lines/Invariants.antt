-- `feeding::refused_lines` meets its contract. The loop's invariant: the lines so far, and those of the entries that are left,
-- are the whole (`Lined`). Assumes nothing.
use Rattle.feeding.proofs.Rows.{Lined}
use Rattle.feeding.proofs.refused_lines.Given as goal

abbrev pub invariant-loop-entry : goal.invariant-loop-entry
invariant-loop-entry l = Lined l.initial.buf l.at l.k l.rows l.buf l.end l.number l.next l.entry-index
