-- `summary::summary` meets its contract: the three parts, one after another. Assumes nothing.
use Prim.Native.Nat.{◌≤◌}
use native.Mathlib.Omega.{arith}
use mathlib.Core.Path.{◌≡◌, ◌∙◌}
use lib.ListN.{length}
use Rattle.tally.proofs.Totals.{bonds-good}
use Rattle.voters.proofs.Weights.{first_good, sum_first_bonds}
use Rattle.text.proofs.Putting.{spelled, next, kept}
use Rattle.state.proofs.Sound.{few-members, few-checkpoints}
use Rattle.summary.proofs.Lines.{summary-is}
use Rattle.summary.proofs.summary.Goals as goal
use Rattle.summary.proofs.summary.Goals.{After-member_lines-two}

pub checkpoint_lines-one-requires : goal.checkpoint_lines-one-requires
checkpoint_lines-one-requires c = (c.requires.0, omega (arith, few-checkpoints c.args.w c.requires.0, c.requires.1))

-- what is left after them
room : (c : After-member_lines-two) → (c.member_lines-two.result ≤ 55296) × (length c.member_lines-two.new.buf ≡ length c.args.buf.now)
room c = (
  omega (arith, c.member_lines-two.ensures.1, c.checkpoint_lines-one.ensures.1, few-checkpoints c.args.w c.requires.0, few-members c.args.w c.requires.0),
  kept c.member_lines-two.ensures.0 ∙ kept c.checkpoint_lines-one.ensures.0,
)

pub conducts-shown-requires : goal.conducts-shown-requires
conducts-shown-requires c = c.requires.0

pub member_lines-two-requires : goal.member_lines-two-requires
member_lines-two-requires c =
    (c.requires.0, c.conducts-shown.ensures, omega (arith, c.checkpoint_lines-one.ensures.1, kept c.checkpoint_lines-one.ensures.0, few-checkpoints c.args.w c.requires.0, few-members c.args.w c.requires.0, c.requires.1))

pub total_bond-total-requires : goal.total_bond-total-requires
total_bond-total-requires c = first_good _ _ (bonds-good c.args.w c.requires.0)

pub total_line-requires : goal.total_line-requires
total_line-requires c = omega (arith, room (goal.at.total_line-requires c).After-member_lines-two)

pub returns : goal.returns
returns c = (
  spelled (next (next c.checkpoint_lines-one.ensures.0 c.member_lines-two.ensures.0) c.total_line.ensures.0)
      (summary-is c.args.w (c.total_bond-total.ensures ∙ sum_first_bonds _ _ (bonds-good c.args.w c.requires.0) _) c.named_bonds-named.ensures c.conflict-conflict.ensures),
  omega (arith, room (goal.at.returns c).After-member_lines-two, c.total_line.ensures.1),
)

pub shared_ref_as_front-total_bond : goal.shared_ref_as_front-total_bond
shared_ref_as_front-total_bond c = few-members _ c.requires.0
