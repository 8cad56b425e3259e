-- `tally::links::reaches` meets its contract. The loop's invariant: no source passed leads on. Assumes nothing.
use Prim.Native.Nat.{ℕ}
use mathlib.Core.List.{List}
use mathlib.Core.Path.{◌≡◌}
use mathlib.Core.Bool.{Bool, false, ◌&&◌}
use lib.ListN.{length}
use Rattle.model.specs.Lists.{any_below}
use Rattle.voters.specs.declared.Voters.{Voters}
use Rattle.voters.specs.declared.Bar.{Bar}
use Rattle.voters.specs.Weights.{carried}
use Rattle.tally.specs.declared.links.Mark.{Mark}
use Rattle.tally.specs.Chains.{voters_at}
use Rattle.tally.specs.Marks.{justified_at}
use Rattle.tally.proofs.links.reaches.Given as goal

-- a source whose link leads on
abbrev pub leads : List Mark → List ℕ → Bar → List Voters → ℕ → Bool
leads marks bonds bar voters k =
    justified_at marks k && carried bonds (length bonds) bar (voters_at voters k)

abbrev pub invariant-loop-s : goal.invariant-loop-s
invariant-loop-s l = false ≡ any_below l.s (leads l.marks l.bonds l.bar l.voters)
