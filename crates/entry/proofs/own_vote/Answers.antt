-- `entry::own_vote` meets its contract: a vote past those held is nobody's. Assumes nothing.
use native.Mathlib.Omega.{arith}
use mathlib.Core.Path.{◌∙◌}
use Rattle.entry.proofs.Rows.{own-read}
use Rattle.entry.proofs.own_vote.Goals as goal

pub returns : goal.returns
returns c =
    λ m held. c.eq.ensures ∙ own-read held c.args.number _ c.get.result c.get.ensures.lookup.0 (c.get.ensures.lookup.4 (omega arith) 0)
