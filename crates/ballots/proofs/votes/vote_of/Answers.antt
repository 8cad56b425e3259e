-- `ballots::votes::vote_of` meets its contract: row 30 by the search for the member, 31 to 34 by `link_of`, 35 by
-- `cast`. Assumes nothing.
use Prim.Native.Nat.{ℕ}
use mathlib.Core.Path.{◌≡◌, sym, ap, ap₂, ◌∙◌}
use mathlib.Core.List.{List}
use mathlib.Core.Bool.{Bool, true, not}
use lib.ListN.{drop}
use Rattle.std.proofs.lemmas.Result.{err_from_is_err_and}
use Rattle.model.specs.Answer.{Answer, row, and_then}
use Rattle.model.specs.Bytes.{field, part}
use Rattle.model.specs.Decide.{link_of, cast, vote_of}
use Rattle.model.specs.Model.{Model, Link, id_held}
use Rattle.state.proofs.Fields.{field_at}
use Rattle.ballots.specs.Fit.{HeldIn}
use Rattle.ballots.proofs.Linked.{link-read, found-none, found-some, id-none-among, id-some-among}
use Rattle.ballots.proofs.votes.vote_of.Goals as goal
use Rattle.ballots.proofs.votes.vote_of.Goals.{After-find_id, In_ok-ok_or, Start}

-- the bytes of the record
abbrev s : Start → List ℕ
s c = drop c.args.at c.args.log.now

id-is : (c : After-find_id) → field 1 2 (s (goal.at.After-find_id c).Start) ≡ c.be16-voter.result
id-is c = let a = c.args in field_at a.at 1 2 a.log.now ∙ sym c.be16-voter.ensures

-- row 30, then the link's rows and the member's
by-member : (m : Model) (id : ℕ) (source target : List ℕ) (h k : ℕ) {b : Bool} → id_held m id ≡ b
    → vote_of m id source target h k ≡ row 30 (not b) (and_then (link_of m source target h k) (cast m id))
unfolding vote_of
by-member m id source target h k e = rw e

pub returns-in_err-ok_or : goal.returns-in_err-ok_or
unfolding row
returns-in_err-ok_or c =
    λ m held.
    let t = s (goal.at.returns-in_err-ok_or c).Start in
    let p = err_from_is_err_and c.from_residual.result c.from_residual.ensures.1 in
    let none = found-none _ _ _ c.find_id.result (sym c.ok_or.ensures.value ∙ c.in_err-ok_or.was) c.find_id.ensures in
    let stranger =
    ap (id_held m) (id-is (goal.at.returns-in_err-ok_or c).After-find_id) ∙ id-none-among _ held.members-held none.0 in
    rw (p.1, p.2, none.1) (sym (by-member m _ (part 3 32 t) (part 35 32 t) _ _ stranger))

member-held : (c : In_ok-ok_or) (m : Model) → HeldIn m c.args.view.now c.args.links.now
    → id_held m (field 1 2 (s (goal.at.In_ok-ok_or c).Start)) ≡ true
member-held c m held =
    let some = found-some _ _ _ c.find_id.result (sym c.ok_or.ensures.value ∙ c.in_ok-ok_or.was) c.find_id.ensures in
    ap (id_held m) (id-is (goal.at.In_ok-ok_or c).After-find_id) ∙ id-some-among _ held.members-held some

pub returns-in_err-link : goal.returns-in_err-link
unfolding row and_then
returns-in_err-link c =
    λ m held.
    let p = err_from_is_err_and c.from_residual-in_err-link.result c.from_residual-in_err-link.ensures.1 in
    let a = c.args in
    rw (p.1, p.2)
    (ap (λ (l : Answer Link). and_then l (cast m (field 1 2 (s (goal.at.returns-in_err-link c).Start))))
    (c.in_err-link.ensures m held.names-held held.heights-held held.ancestors_held ∙ link-read m a.at 3 a.log.now)
    ∙ sym (by-member m _ _ _ _ _ (member-held (goal.at.returns-in_err-link c).In_ok-ok_or m held)))

pub returns : goal.returns
unfolding row and_then
returns c =
    λ m held.
    let a = c.args in
    c.cast.ensures m held.keys_held
    ∙ ap₂ (λ (l : Answer Link) (id : ℕ). and_then l (cast m id))
    (c.in_ok-link.ensures m held.names-held held.heights-held held.ancestors_held ∙ link-read m a.at 3 a.log.now)
    (sym (id-is (goal.at.returns c).After-find_id))
    ∙ sym (by-member m _ _ _ _ _ (member-held (goal.at.returns c).In_ok-ok_or m held))
