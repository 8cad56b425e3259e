-- `evidence::our_list` meets its contract: the charges are ours, and they are written. Assumes nothing.
use Prim.Native.Nat.{ℕ}
use mathlib.Core.Path.{ap, subst, ◌∙◌}
use mathlib.Core.List.{List}
use Rattle.model.specs.Buffer.{Written}
use Rattle.model.specs.Evidence.{list_bytes, our_list}
use Rattle.evidence.proofs.our_list.Goals as goal

pub returns : goal.returns
unfolding our_list
returns c =
    subst (λ (l : List ℕ). Written l c.args.buf.now c.write_list.result c.write_list.new.buf)
    (ap list_bytes (c.as_slice.ensures.0 ∙ c.list_charges-charges.ensures.1))
    c.write_list.ensures
