-- `guard::judge` meets its contract: each return is by the row that applies there, or none does. Assumes nothing.
use Rattle.std.proofs.Common.{arith}
use Rattle.std.proofs.lemmas.Bool.Decides.{nat_tests}
use Rattle.model.specs.Answer.{row}
use Rattle.guard.specs.Signing.{guard_rows}
use Rattle.guard.proofs.judge.Goals as goal

pub returns-then-le : goal.returns-then-le
unfolding guard_rows row
returns-then-le c = grind (arith, nat_tests)

pub returns-then-le-2 : goal.returns-then-le-2
unfolding guard_rows row
returns-then-le-2 c = grind (arith, nat_tests)

pub returns-then-lt : goal.returns-then-lt
unfolding guard_rows row
returns-then-lt c = grind (arith, nat_tests)

pub returns-else-lt : goal.returns-else-lt
unfolding guard_rows row
returns-else-lt c = grind (arith, nat_tests)

pub returns-else-g-ne0 : goal.returns-else-g-ne0
unfolding guard_rows row
returns-else-g-ne0 c = grind (arith, nat_tests)
