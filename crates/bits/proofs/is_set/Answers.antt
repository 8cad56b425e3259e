-- `bits::is_set` meets its contract: the byte that has the bit, shifted down to it. Assumes nothing.
use Prim.Native.Nat.{ℕ, ◌/◌, ◌%◌, ◌^◌}
use mathlib.Core.Path.{sym, ap}
use lib.Dec.{eqb}
use Rattle.model.specs.Bits.{bit_set}
use Rattle.bits.proofs.SetPlaces.{byte_of}
use Rattle.bits.proofs.is_set.Goals as goal

pub returns : goal.returns
unfolding bit_set
returns c =
    let a = c.args in
    ap (λ (b : ℕ). eqb (b / 2 ^ (a.p % 8) % 2) 1) (sym (byte_of a.s.now a.at a.p c.requires.0))
