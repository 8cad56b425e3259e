-- `reader::cast_votes` meets its contract. The loop's invariant: the votes of the places passed are stored, and their
-- entries written (`Casting`). Assumes nothing.
use Prim.Native.Nat.{◌+◌}
use Rattle.model.specs.Bytes.{part}
use Rattle.ballots.specs.Ballot.{link_answer_of}
use Rattle.reader.proofs.Casting.{Casting}
use Rattle.reader.proofs.cast_votes.Given as goal

abbrev pub invariant-loop-p : goal.invariant-loop-p
invariant-loop-p l =
    Casting l.fn.held (link_answer_of l.link) (part (l.at + 1) 16 l.log) l.fn.rows l.links l.used l.p l.rows l.held l.end
