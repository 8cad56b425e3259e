-- `board::rows::rows` meets its contract. The loop's invariant: what the places passed have is shown. Assumes nothing.
use Rattle.board.proofs.Drawing.{Drawn}
use Rattle.board.proofs.rows.rows.Given as goal

abbrev pub invariant-loop-p : goal.invariant-loop-p
invariant-loop-p l = Drawn l.w l.b l.a l.rows l.p
