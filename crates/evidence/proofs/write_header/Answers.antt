-- `evidence::write_header` meets its contract: the mark, then two numbers. Assumes nothing.
use Prim.Native.Nat.{ℕ}
use mathlib.Core.Path.{refl, ap}
use mathlib.Core.List.{List, ◌++◌}
use lib.ListN.{drop}
use Rattle.model.specs.Bytes.{be_bytes, ascii}
use Rattle.evidence.proofs.Bytes.{written-more}
use Rattle.evidence.proofs.write_header.Goals as goal

pub returns : goal.returns
unfolding ascii be_bytes
returns c =
    let a = c.args in
    let l = a.buf.now in
    written-more 5 2 l (ascii "FFP" ++ be_bytes 2 1) (be_bytes 2 a.count)
    refl
    (written-more 3 2 l (ascii "FFP") (be_bytes 2 1) refl (ap (λ (m : List ℕ). m ++ drop 3 l) c.copy_from_slice.ensures.after) c.put_at.ensures)
    c.put_at-2.ensures
