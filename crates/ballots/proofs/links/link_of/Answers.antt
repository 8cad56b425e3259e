-- `ballots::links::link_of` meets its contract: rows 31 and 32 by `find_endpoints`, 33 and 34 by `check_link`. Assumes
-- nothing.
use Prim.Native.Nat.{ℕ, ◌+◌}
use mathlib.Core.Path.{ap₂, ◌∙◌}
use Rattle.std.proofs.lemmas.Result.{err_from_is_err_and}
use Rattle.model.specs.Answer.{and_then}
use Rattle.model.specs.Bytes.{part}
use Rattle.model.specs.Decide.{link_of}
use Rattle.ballots.proofs.links.link_of.Goals as goal

pub returns-in_err-link : goal.returns-in_err-link
unfolding and_then
returns-in_err-link c =
    λ m names heights ancestors.
    let p = err_from_is_err_and c.from_residual.result c.from_residual.ensures.1 in
    rw (p.1, p.2) (c.in_err-link.ensures.target_height_value m _ _ names)

pub returns : goal.returns
unfolding and_then
returns c =
    λ m names heights ancestors.
    let a = c.args in
    c.check_link.ensures m heights ancestors
    ∙ c.in_ok-link.ensures.target_height_value m c.be32.result c.be32-2.result names
    ∙ ap₂ (λ (h k : ℕ). link_of m (part a.from 32 a.log.now) (part (a.from + 32) 32 a.log.now) h k) c.be32.ensures c.be32-2.ensures
