-- `board::put_pages` meets its contract. The loop's invariant: the first `k` pages are written. Assumes nothing.
use Prim.Native.Nat.{◌*◌}
use mathlib.Core.Path.{◌≡◌}
use Rattle.model.specs.Lists.{concat_below}
use Rattle.model.specs.Paper.{page}
use Rattle.text.specs.Put.{Put}
use Rattle.board.specs.Rows.{row_in}
use Rattle.board.proofs.put_pages.Given as goal

abbrev pub invariant-loop-k : goal.invariant-loop-k
invariant-loop-k l =
    Put l.initial.buf 0 (concat_below l.k (page (row_in l.rows))) l.buf l.at × (l.at ≡ 3250 * l.k)
