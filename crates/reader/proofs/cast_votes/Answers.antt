use Prim.Native.Nat.{ℕ, ◌+◌, ◌<◌}
use native.Mathlib.Omega.{arith}
use mathlib.Core.Path.{◌≡◌, refl, sym, ap, ◌∙◌, subst, transport}
use mathlib.Core.List.{List}
use mathlib.Core.Bool.{true, cond}
use borrow.Author.Tests.{leb-false}
use lib.Dec.{eqb, leb}
use lib.ListN.{length, set, get_or}
use Rattle.std.specs.Prelude.{Result, Ok}
use Rattle.model.specs.Answer.{Answer, refused, answer, row_of}
use Rattle.model.specs.Bits.{bit_set, set_places}
use Rattle.model.specs.Bytes.{part}
use Rattle.model.specs.Change.{Change, add_vote, Decision as Decided, single, one_vote}
use Rattle.model.specs.Model.{Link}
use Rattle.model.specs.declared.Refusal.{Refusal}
use Rattle.model.proofs.Fits.{Fits, FitAll}
use Rattle.model.proofs.Lists.{clash, not_so}
use Rattle.search.specs.declared.Links.{Links}
use Rattle.ballots.specs.Ballot.{vote_in, link_answer_of, change_of, cast_vote}
use Rattle.ballots.specs.declared.votes.Ballot.{Ballot}
use Rattle.rules.proofs.Bundled.{cast_fits}
use Rattle.state.specs.Sound.{Sound}
use Rattle.state.specs.State.{model_of, store, store_all, stored}
use Rattle.state.specs.declared.Witness.{Witness}
use Rattle.state.proofs.Entries.{count-members, count-votes}
use Rattle.bits.proofs.SetPlaces.{among, few-set}
use Rattle.entries.specs.Entries.{later}
use Rattle.entries.proofs.Entries.{written-length}
use Rattle.reader.specs.Storing.{Searched}
use Rattle.reader.proofs.Casting.{Casting, typed_now, few_now, id_now, skip, take-vote, none-cast, all-cast}
use Rattle.reader.proofs.Decisions.{first_fits}
use Rattle.reader.proofs.cast_votes.Goals as goal
use Rattle.reader.proofs.cast_votes.Goals.{Start, In-loop-p, In-Ok, After-decide_cast-vote, then-is_set+in-Ok, then-is_set+in_default, else-is_set}

abbrev link : Start → Answer Link
link c = link_answer_of c.args.link

abbrev bits : Start → List ℕ
bits c = part (c.args.at + 1) 16 c.args.log.now

pub loop-p-init : goal.loop-p-init
loop-p-init c = none-cast c.args.held.now _ _ _ _ c.args.used (omega (arith, c.requires.room)) c.requires.held.1

-- the witness handed in, and the loop at a place
abbrev first : In-loop-p → Witness
first c = c.args.held.now

sound : (c : In-loop-p) → Sound (first c)
sound c = c.requires.held.0

abbrev casting : (c : In-loop-p)
    → let l = c.loop-p in
    let a = c.args in
    Casting (first c) (link (goal.at.In-loop-p c).Start) (bits (goal.at.In-loop-p c).Start) a.rows.now l.links a.used l.p l.rows l.held l.end
casting c = c.loop-p.invariant

abbrev id-there : In-loop-p → ℕ
id-there c = get_or c.loop-p.held.ids c.loop-p.p 0

-- an entry has room
entry-room : (c : In-loop-p) → c.loop-p.end < length c.args.rows.now
entry-room c =
    omega (arith, (casting c).past, few-set (bits (goal.at.In-loop-p c).Start) c.loop-p.p, c.loop-p-test.true, c.requires.room)

-- a member stands where a bit is set
member-there : (c : In-loop-p) → bit_set (bits (goal.at.In-loop-p c).Start) c.loop-p.p ≡ true → c.loop-p.p < length (model_of (first c)).members
unfolding set_places
member-there c set =
    let n = (first c).member_count in
    let p = c.loop-p.p in
    let below : p < n = leb-false n p (not_so (λ h. clash (among (bits (goal.at.In-loop-p c).Start) (leb n) 128 p c.loop-p-test.true set h) c.requires.bits.1)) in
    omega (arith, below, count-members (first c))

-- the vote that is decided there
abbrev Votes : In-loop-p → Result Ballot Refusal → Type 0
Votes c b = single (change_of b) ≡ cast_vote (model_of c.loop-p.held) (link (goal.at.In-loop-p c).Start) (id-there c)

votes : (c : After-decide_cast-vote) → Votes (goal.at.After-decide_cast-vote c).In-loop-p c.decide_cast-vote.result
votes c = c.decide_cast-vote.ensures (model_of c.loop-p.held) (casting (goal.at.After-decide_cast-vote c).In-loop-p).searched.votes

-- one that is cast has room
cast-room : (c : In-loop-p) (b : Ballot) → Votes c (Ok b) → c.loop-p.held.vote_count < 4096
unfolding single
cast-room c b v =
    let w = c.loop-p.held in
    let fit : Fits (model_of w) (add_vote (vote_in b)) =
    first_fits (subst (λ (d : Decided). FitAll (model_of w) d.changes) (sym v) (cast_fits (model_of w) (link (goal.at.In-loop-p c).Start) (id-there c))) in
    omega (arith, fit, count-votes w)

pub decide_cast-vote-requires : goal.decide_cast-vote-requires
decide_cast-vote-requires c =
    let l = (goal.at.decide_cast-vote-requires c).In-loop-p in
    record { votes-fit = few_now (sound l) (casting l); indexed = (casting l).searched.indexed }

pub bounds-rows-end : goal.bounds-rows-end
bounds-rows-end c =
    let l = (goal.at.bounds-rows-end c).In-loop-p in
    omega (arith, entry-room l, written-length (casting l).written)

pub store_vote-requires : goal.store_vote-requires
store_vote-requires c =
    let l = (goal.at.store_vote-requires c).In-loop-p in
    let v = votes (goal.at.store_vote-requires c).After-decide_cast-vote in
    (typed_now (sound l) (casting l), cast-room l _ (subst (Votes l) c.in-Ok.is v), (casting l).searched)

-- what a vote leaves
single-row : (a : Answer Change) → row_of (one_vote (single a).told) ≡ row_of a
unfolding single one_vote row_of
single-row (refused n) = refl
single-row (answer c) = refl

-- the place is passed: with a vote that was decided there
voted : (c : In-loop-p) (b : Result Ballot Refusal) {held' : Witness} {links' : Links} {x : ℕ}
    → let l = c.loop-p in
    let a = c.args in
    bit_set (bits (goal.at.In-loop-p c).Start) l.p ≡ true → Votes c b → held' ≡ stored l.held (single (change_of b)) → Searched held' links'
    → x ≡ cond (eqb l.end a.used) (row_of (change_of b)) (later (row_of (change_of b)))
    → Casting (first c) (link (goal.at.In-loop-p c).Start) (bits (goal.at.In-loop-p c).Start) a.rows.now links' a.used (l.p + 1) (set l.rows l.end x) held' (l.end + 1)
voted c b set v stored_is searched x-is =
    take-vote (sound c) (casting c) set (id-there c) (id_now (sound c) (casting c) (member-there c set)) c.loop-p-test.true (entry-room c)
    (stored_is ∙ ap (stored c.loop-p.held) v) searched
    (sym (single-row (change_of b)) ∙ ap (λ (d : Decided). row_of (one_vote d.told)) v) x-is

pub loop-p-preserved : goal.loop-p-preserved
unfolding single store_all store
loop-p-preserved c =
    let l = (goal.at.loop-p-preserved c).In-loop-p in
    let w0 = c.loop-p.held in
    let set_is : c.is_set.result ≡ true → bit_set (bits (goal.at.loop-p-preserved c).Start) c.loop-p.p ≡ true = λ e. sym c.is_set.ensures ∙ e in
    let leaves : Result Ballot Refusal → Witness = λ b. stored w0 (single (change_of b)) in
    elim c.if-is_set.branch [
      | then-is_set+in-Ok w ↦
          let v = w.decide_cast-vote.ensures (model_of w0) (casting l).searched.votes in
          transport (λ i. Casting (first l) (link (goal.at.loop-p-preserved c).Start) (bits (goal.at.loop-p-preserved c).Start) c.args.rows.now (sym w.links-is i) c.args.used (c.loop-p.p + 1) (sym w.rows-is i) (sym w.held-is i) (sym w.end-is i))
          (voted l w.decide_cast-vote.result (set_is w.if-is_set.true) v (w.store_vote.ensures.0 ∙ ap leaves (sym w.in-Ok.is)) w.store_vote.ensures.1 w.vote_entry.ensures)
      | then-is_set+in_default w ↦
          let v = w.decide_cast-vote.ensures (model_of w0) (casting l).searched.votes in
          transport (λ i. Casting (first l) (link (goal.at.loop-p-preserved c).Start) (bits (goal.at.loop-p-preserved c).Start) c.args.rows.now (sym w.links-is i) c.args.used (c.loop-p.p + 1) (sym w.rows-is i) (sym w.held-is i) (sym w.end-is i))
          (voted l w.decide_cast-vote.result (set_is w.if-is_set.true) v (ap leaves (sym w.in_default.is)) (casting l).searched w.vote_entry.ensures)
      | else-is_set w ↦
          transport (λ i. Casting (first l) (link (goal.at.loop-p-preserved c).Start) (bits (goal.at.loop-p-preserved c).Start) c.args.rows.now (sym w.links-is i) c.args.used (c.loop-p.p + 1) (sym w.rows-is i) (sym w.held-is i) (sym w.end-is i))
          (skip (sound l) (casting l) c.loop-p-test.true (sym c.is_set.ensures ∙ w.if-is_set.false))
    ]

pub returns : goal.returns
returns c =
    let all = all-cast c.loop-p.invariant (omega (arith, c.loop-p-test.false)) in
    record {
      all-stored = all.all-stored;
      searched = all.searched;
      all-written = all.all-written;
      past = omega (arith, all.all_past, c.requires.bits.2);
    }
