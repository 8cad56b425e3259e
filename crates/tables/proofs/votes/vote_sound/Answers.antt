-- `tables::votes::vote_sound` meets its contract. Assumes nothing.
use Rattle.tables.proofs.Sound.{no_target, with_target}
use Rattle.tables.proofs.votes.vote_sound.Goals as goal

pub returns-then-parents-target : goal.returns-then-parents-target
returns-then-parents-target c =
    no_target c.args.ids.now c.args.parents.now c.args.id c.args.s.0 c.args.t.0 c.if-parents-target.true

pub returns : goal.returns
returns c =
    with_target c.args.ids.now c.args.parents.now c.args.id c.args.s.0 c.args.t.0 c.if-parents-target.false c.id_held.ensures
    (c.is_ancestor.ensures _ c.if-parents-target.false c.requires)
