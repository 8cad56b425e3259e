-- The ids of a witness are those of its model's members; so are those of a slice of exactly the held ones.
use Prim.Native.Nat.{◌≤◌}
use native.Mathlib.Omega.{arith}
use mathlib.Core.Path.{◌≡◌, sym, ap, ◌∙◌}
use lib.ListN.{length, take}
use lib.Seq.{length-take-le, get_or-take}
use Rattle.model.specs.Model.{Member}
use Rattle.state.specs.declared.Witness.{Witness}
use Rattle.state.specs.State.{model_of}
use Rattle.state.proofs.Entries.{count-members, member_is}
use Rattle.conduct.specs.Held.{IdsHeld}

pub ids-held : (w : Witness) → w.member_count ≤ length w.ids
    → let ids = take w.member_count w.ids in
    IdsHeld (model_of w).members ids (length ids)
ids-held w fits =
    let n = w.member_count in
    let long : length (take n w.ids) ≡ n = length-take-le n w.ids fits in
    record {
      count = count-members w ∙ sym long;
      id = λ i h. ap (λ (x : Member). x.id) (member_is w i (omega (arith, long))) ∙ sym (get_or-take n w.ids i 0 (omega (arith, long)));
    }
