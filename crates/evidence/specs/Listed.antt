-- What the crate's charges mean in the model.
use Rattle.std.specs.Prelude.{ℕ, Option, take, map, get_or}
use mathlib.Core.List.{List, flat_map}
use Rattle.model.specs.Evidence as Model
use Rattle.conduct.specs.declared.Breach.{Breach}
use Rattle.conduct.specs.Shown.{conduct_at}
use Rattle.evidence.specs.declared.Charge.{Charge}
use Rattle.evidence.specs.declared.Charges.{Charges}

-- a charge, and a list of them

abbrev pub charge_in : Charge → Model.Charge
charge_in c = record { id = c.id; earlier = c.earlier; later = c.later }

abbrev pub charges_in : List Charge → List Model.Charge
charges_in cs = map charge_in cs

-- the first so many as the count says
unfoldable pub charges_of : Charges → List Model.Charge
charges_of c = charges_in (take c.count c.list)

-- the charges of the members at some places, in the places' order
unfoldable pub charges_at : List ℕ → List (Option Breach) → List ℕ → List Model.Charge
charges_at ids shown places = flat_map (λ p. Model.charge_of (get_or ids p 0) (conduct_at shown p)) places
