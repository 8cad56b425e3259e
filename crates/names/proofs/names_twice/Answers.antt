use native.Mathlib.Nat.{le_antisymm}
use mathlib.Core.Path.{sym, ◌∙◌}
use Rattle.search.proofs.Below.{pair-none, pair-more}
use Rattle.names.proofs.Rows.{found-name, twice-found}
use Rattle.names.proofs.Slots.{marked-none, marked_more, new-name}
use Rattle.names.proofs.names_twice.Goals as goal
use Rattle.names.proofs.names_twice.Goals.{else-marked-k-via-then-marked-k+else-is_some, else-marked-k-via-else-marked-k}

pub loop-j-init : goal.loop-j-init
loop-j-init c = (pair-none _, marked-none _)

pub bounds-marked-k : goal.bounds-marked-k
bounds-marked-k c = c.slot-k.ensures.1

pub bounds-marked-k-in-loop-j : goal.bounds-marked-k-in-loop-j
bounds-marked-k-in-loop-j c = c.slot-k.ensures.1

pub returns-then-is_some : goal.returns-then-is_some
returns-then-is_some c =
    twice-found _ c.loop-j.j _ c.loop-j-test.true
    (sym (found-name _ _ _ _ c.find_name.ensures) ∙ sym c.is_some.ensures ∙ c.if-is_some.true)

pub loop-j-preserved : goal.loop-j-preserved
loop-j-preserved c =
    let slot = c.slot-k.ensures in
    let l = c.loop-j in
    let names = c.args.names.now in (
      elim c.else-marked-k.branch [
        | else-marked-k-via-then-marked-k+else-is_some w ↦
            pair-more _ _ l.invariant.0
            (sym w.if-is_some.false ∙ w.is_some.ensures ∙ found-name _ _ _ _ w.find_name.ensures)
        | else-marked-k-via-else-marked-k w ↦
            pair-more _ _ l.invariant.0 (sym (new-name names l.j _ slot.0 w.if-marked-k.false l.invariant.1))
      ],
      marked_more names l.j _ slot.0 slot.1 l.invariant.1,
    )

pub returns : goal.returns
returns c = rw (le_antisymm c.loop-j.auto.j-end c.loop-j-test.false) at c.loop-j.invariant.0
