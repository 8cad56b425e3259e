use Prim.Native.Nat.{◌+◌, ◌<◌}
use native.Mathlib.Omega.{arith}
use mathlib.Core.Path.{◌≡◌, refl, sym, ◌∙◌}
use mathlib.Core.Bool.{Bool, cond}
use lib.ListN.{get_or}
use Rattle.std.specs.Option.{is_some}
use Rattle.std.specs.Prelude.{Option, Some, None}
use Rattle.model.specs.Evidence.{broken?}
use Rattle.state.proofs.Sound.{few-members}
use Rattle.conduct.specs.declared.Breach.{Breach}
use Rattle.conduct.specs.Shown.{conduct_of}
use Rattle.summary.proofs.Named.{Summed, summed_more, summed_all, named-bound}
use Rattle.summary.proofs.members.named_bonds.Goals as goal
use Rattle.summary.proofs.members.named_bonds.Goals.{After-is_some, In-loop-i, else-is_some, then-is_some}

-- a member is one of 128
below : (c : In-loop-i) → c.loop-i.i < 128
below c = omega (arith, c.loop-i-test.true, few-members c.args.w.now c.requires.0)

-- a pair of votes is shown
some-broken : (shown : Option Breach) → is_some shown ≡ broken? (conduct_of shown)
unfolding broken?
some-broken None = refl
some-broken (Some b) = refl

-- one more member, by its conduct
more : (c : After-is_some) {b : Bool} → b ≡ c.is_some.result
    → Summed c.args.w.now (c.loop-i.i + 1) (c.loop-i.named + cond b (get_or c.args.w.now.bonds c.loop-i.i 0) 0)
more c e =
    let taken = c.loop-i-test.true in
    summed_more c.args.w.now c.loop-i.i c.loop-i.named taken (e ∙ c.is_some.ensures ∙ some-broken _) (c.requires.1 _ taken) c.loop-i.invariant

pub offset_bounds-shown-i : goal.offset_bounds-shown-i
offset_bounds-shown-i c = omega (arith, below (goal.at.offset_bounds-shown-i c).In-loop-i)

pub bounds-shown-i : goal.bounds-shown-i
bounds-shown-i c = below (goal.at.bounds-shown-i c).In-loop-i

pub overflow_add-named : goal.overflow_add-named
overflow_add-named c =
    omega (arith, more (goal.at.overflow_add-named c).After-is_some (sym c.if-is_some.true), named-bound c.args.w.now c.requires.0)

pub loop-i-preserved : goal.loop-i-preserved
loop-i-preserved c =
    elim c.if-is_some.branch [ then-is_some w ↦ omega (arith, w.named-is, more (goal.at.loop-i-preserved c).After-is_some (sym w.if-is_some.true)) | else-is_some w ↦ omega (arith, w.named-is, more (goal.at.loop-i-preserved c).After-is_some (sym w.if-is_some.false)) ]

pub returns : goal.returns
returns c = summed_all c.args.w.now c.loop-i.i c.loop-i.named c.loop-i-test.false c.loop-i.invariant
