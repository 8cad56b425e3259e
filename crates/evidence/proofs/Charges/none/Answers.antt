-- `evidence::Charges::none` meets its contract. Assumes nothing.
use mathlib.Core.Path.{refl}
use Rattle.evidence.specs.Listed.{charges_of}
use Rattle.evidence.proofs.Charges.none.Goals as goal

pub returns : goal.returns
unfolding charges_of
returns c = (refl, refl)
