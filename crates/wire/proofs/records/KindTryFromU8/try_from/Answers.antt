use native.Mathlib.Omega.{arith}
use mathlib.Core.Path.{refl}
use Rattle.model.proofs.Log.{other-kind}
use Rattle.wire.proofs.records.KindTryFromU8.try_from.Goals as goal

pub returns-in-0 : goal.returns-in-0
returns-in-0 c =
    let other = other-kind c.args.byte in
    (refl, other (λ e. omega arith) (λ e. omega arith) (λ e. omega arith) (λ e. omega arith) (λ e. omega arith))

pub returns-in-0-2 : goal.returns-in-0-2
returns-in-0-2 c =
    let other = other-kind c.args.byte in
    (refl, other (λ e. omega arith) (λ e. omega arith) (λ e. omega arith) (λ e. omega arith) (λ e. omega arith))
