-- `voters::Voters::count` meets its contract: the ones of the two words. Assumes nothing.
use native.Mathlib.Omega.{arith}
use Rattle.voters.proofs.Bits.{number_law}
use Rattle.voters.proofs.Voters.count.Goals as goal

pub returns : goal.returns
returns c = number_law c.args.self (omega arith) (omega arith)
