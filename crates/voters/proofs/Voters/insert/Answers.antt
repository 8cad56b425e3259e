-- `voters::Voters::insert` meets its contract: the bit is set in its word. Assumes nothing.
use Rattle.voters.proofs.Bits.{insert_low, insert_high}
use Rattle.voters.proofs.Voters.insert.Goals as goal

pub returns-then-i-lt64 : goal.returns-then-i-lt64
returns-then-i-lt64 c = λ j. insert_low c.args.self.now c.args.i j c.if-i-lt64.true

pub returns-else-i-lt64 : goal.returns-else-i-lt64
returns-else-i-lt64 c = λ j. insert_high c.args.self.now c.args.i j c.if-i-lt64.false c.requires
