-- `finality::conflict` meets its contract: the greatest final place decides. Assumes nothing.
use Prim.Native.Nat.{◌+◌, ◌<◌, ◌≤◌}
use native.Mathlib.Omega.{arith}
use mathlib.Core.Path.{◌≡◌, ◌∙◌}
use borrow.Author.Rules.{rules}
use lib.ListN.{length, take}
use Rattle.search.specs.Chains.{last_below}
use Rattle.search.proofs.Chains.{last_le}
use Rattle.state.proofs.Entries.{count-checkpoints}
use Rattle.state.proofs.Sound.{few-checkpoints, falling}
use Rattle.standing.specs.Answers.{is_final}
use Rattle.finality.proofs.Answered.{root-marked, last-conflict}
use Rattle.finality.proofs.Front.{many, final_front, last_front, strays_front}
use Rattle.finality.proofs.conflict.Goals as goal
use Rattle.finality.proofs.conflict.Goals.{After-statuses-a, After-last_final-f}

-- the places that are held have marks
marked : (c : After-statuses-a) → c.args.w.checkpoint_count ≤ length c.statuses-a.result.marks
marked c =
    let long : length c.statuses-a.result.marks ≡ 512 = search rules in
    omega (arith, few-checkpoints c.args.w c.requires)

-- the greatest final place, by all marks
last : (c : After-last_final-f) → c.last_final-f.result.0 + 1 ≡ last_below c.args.w.checkpoint_count (is_final c.statuses-a.result)
last c = c.last_final-f.ensures ∙ last_front _ _ (marked (goal.at.After-last_final-f c).After-statuses-a)

-- it is a held one
low : (c : After-last_final-f) → c.last_final-f.result.0 < c.args.w.checkpoint_count
low c = omega (arith, last c, last_le (is_final c.statuses-a.result) c.args.w.checkpoint_count)

-- the places below it have marks
held : (c : After-last_final-f) → c.last_final-f.result.0 ≤ length c.statuses-a.result.marks
held c = omega (arith, low c, marked (goal.at.After-last_final-f c).After-statuses-a)

below : (c : After-last_final-f) → length (take c.last_final-f.result.0 c.statuses-a.result.marks) ≡ c.last_final-f.result.0
below c = many _ _ (held c)

pub shared_ref_as_front-last_final : goal.shared_ref_as_front-last_final
shared_ref_as_front-last_final c = few-checkpoints c.args.w c.requires

pub last_final-f-requires : goal.last_final-f-requires
last_final-f-requires c =
    let w = c.args.w in
    let held : 0 < w.checkpoint_count = omega (arith, c.requires.good.tree.rooted, count-checkpoints w) in
    let front = many c.statuses-a.result.marks _ (marked (goal.at.last_final-f-requires c).After-statuses-a) in (
      omega (arith, front),
      omega (arith, front, few-checkpoints w c.requires),
      final_front _ _ 0 held ∙ root-marked w c.requires c.statuses-a.result c.statuses-a.ensures,
    )

pub shared_ref_as_front-strays : goal.shared_ref_as_front-strays
shared_ref_as_front-strays c =
    omega (arith, low (goal.at.shared_ref_as_front-strays c).After-last_final-f, few-checkpoints c.args.w c.requires)

pub strays-requires : goal.strays-requires
strays-requires c =
    let at = (goal.at.strays-requires c).After-last_final-f in
    let w = c.args.w in (
      omega (arith, below at),
      omega (arith, low at, few-checkpoints w c.requires, c.requires.typed.tree.parents),
      λ i pos h. falling w c.requires i pos (omega (arith, low at)),
    )

pub returns : goal.returns
returns c =
    let at = (goal.at.returns c).After-last_final-f in
    let w = c.args.w in
    last-conflict w c.requires c.statuses-a.result c.statuses-a.ensures c.last_final-f.result.0 (last at)
    (rw c.from.ensures at (c.strays.ensures w.checkpoint_count (low at) (falling w c.requires))
    ∙ strays_front _ _ (held at) _ _)
