-- `summary::members::named_bonds` meets its contract. The loop's invariant: what is summed and what remains come to the whole. Assumes nothing.
use Rattle.summary.proofs.Named.{Summed}
use Rattle.summary.proofs.members.named_bonds.Given as goal

abbrev pub invariant-loop-i : goal.invariant-loop-i
invariant-loop-i l = Summed l.w l.i l.named
