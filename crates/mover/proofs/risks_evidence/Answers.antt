-- `mover::risks_evidence` meets its contract: the conflict answer, then the charges of the model. Assumes nothing.
use native.Mathlib.Omega.{arith}
use mathlib.Core.Path.{◌∙◌}
use Rattle.state.proofs.Sound.{few-votes as few}
use Rattle.mover.proofs.Rows.{charges-within, risks_evidence_lem}
use Rattle.mover.proofs.risks_evidence.Goals as goal

pub drops_evidence-dropped-requires : goal.drops_evidence-dropped-requires
drops_evidence-dropped-requires c =
    let w = c.args.w in
    let within = charges-within w c.requires.0 c.args.r.0 c.args.votes.now c.requires.1 _ (c.as_slice.ensures.0 ∙ c.list_charges-charges.ensures.1) in
    let most = few w c.requires.0 in
    λ i h. (omega (arith, (within i h).0, most), omega (arith, (within i h).1, most))

pub returns : goal.returns
returns c =
    risks_evidence_lem c.args.w c.requires.0 c.args.r.0 c.args.votes.now c.requires.1 _
    (c.as_slice.ensures.0 ∙ c.list_charges-charges.ensures.1) c.conflict-conflict.ensures c.drops_evidence-dropped.ensures
