-- `standing::analyse` meets its contract. The loop's invariant: the votes are ready, and the places below t are
-- marked. Assumes nothing.
use Rattle.standing.proofs.Turns.{Turn}
use Rattle.standing.proofs.analyse.Given as goal

abbrev pub invariant-loop-t : goal.invariant-loop-t
invariant-loop-t l = Turn l.w l.b l.marks l.t
