-- `board::put_rows` meets its contract. The loop's invariant: the rows of the first `i` places are written. Assumes
-- nothing.
use Prim.Native.Nat.{◌+◌, ◌*◌}
use mathlib.Core.Path.{◌≡◌}
use Rattle.model.specs.Lists.{concat_below}
use Rattle.text.specs.Put.{Put}
use Rattle.board.specs.Rows.{row_in}
use Rattle.board.proofs.put_rows.Given as goal

abbrev pub invariant-loop-i : goal.invariant-loop-i
invariant-loop-i l =
    Put l.initial.buf l.at (concat_below l.i (λ j. row_in l.rows (l.from + j))) l.buf l.next
    × (l.next ≡ l.at + 65 * l.i)
