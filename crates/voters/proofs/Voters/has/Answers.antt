-- `voters::Voters::has` meets its contract: the bit is looked up in its word. Assumes nothing.
use mathlib.Core.Path.{sym}
use Rattle.voters.specs.Bits.{bit}
use Rattle.voters.proofs.Bits.{among-low, among-high}
use Rattle.voters.proofs.Voters.has.Goals as goal

pub returns-then-i-lt64 : goal.returns-then-i-lt64
unfolding bit
returns-then-i-lt64 c = sym (among-low c.args.self c.args.i c.if-i-lt64.true)

pub returns-else-i-lt64 : goal.returns-else-i-lt64
unfolding bit
returns-else-i-lt64 c = sym (among-high c.args.self c.args.i c.if-i-lt64.false)
