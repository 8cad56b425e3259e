-- `buffered::is_ready` meets its contract.
use mathlib.Core.Path.{◌∙◌}
use mathlib.Core.Bool.{true, false}
use Rattle.buffered.proofs.Ready.{at-end, not_at_end}
use Rattle.buffered.proofs.is_ready.Goals as goal

pub returns-then-at_end : goal.returns-then-at_end
returns-then-at_end c = at-end c.args.bytes.now c.args.begun c.args.at_end c.if-at_end.true

pub returns-then-begun : goal.returns-then-begun
returns-then-begun c =
    c.is_whole.ensures ∙ not_at_end c.args.bytes.now c.args.begun c.args.at_end true c.if-at_end.false c.if-begun.true

pub returns : goal.returns
returns c = not_at_end c.args.bytes.now c.args.begun c.args.at_end false c.if-at_end.false c.if-begun.false
