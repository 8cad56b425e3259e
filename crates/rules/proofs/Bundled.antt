-- The votes of a bundle, by the link that they share: rows 31 to 34 say the same of each, since no vote changes what is
-- held of members and checkpoints.
use Prim.Native.Nat.{ℕ, suc, ◌<◌}
use native.Mathlib.Omega.{arith}
use mathlib.Core.Path.{◌≡◌, refl, sym, ap, ◌∙◌}
use mathlib.Core.List.{List, [], ◌∷◌, ◌++◌, map, flat_map}
use mathlib.Core.Bool.{Bool, true, false, not}
use borrow.Author.Tests.{lt-ltb, eq-eqb, leb-false}
use lib.Dec.{eqb}
use lib.ListN.{length, length-map}
use Rattle.std.specs.Prelude.{Result, Ok, Err}
use Rattle.model.specs.Answer.{Answer, refused, answer, row, and_then}
use Rattle.model.specs.Bits.{set_places}
use Rattle.model.specs.Change.{Change, add_vote, append, append_all, Decision, single, one_vote, decided, together, whole}
use Rattle.model.specs.Decide.{heights_agree, link_between, link_of, cast, vote_of, room, decide_vote, decide_each, bundle_ids, bit_without_member, no_bit_set, decide_bundle}
use Rattle.model.specs.Lists.{All, none, each}
use Rattle.model.specs.Model.{Model, Member as HeldMember, Vote as HeldVote, Link, member_at, member_index, id_held, name_held, no_member}
use Rattle.model.specs.declared.Refusal.{Refusal}
use Rattle.model.proofs.Answer.{row_elim, passes-row}
use Rattle.model.proofs.Bundle.{each_member}
use Rattle.model.proofs.Fits.{FitAll, no_change, one_change, append-both, fit-both}
use Rattle.model.proofs.Lists.{found-any, any-first, all_map}
use Rattle.state.specs.Reading.{many_votes, brief}
use Rattle.ballots.specs.Ballot.{cast_vote}
use Rattle.registry.specs.Decision.{cast_each, decision_of}
use Rattle.registry.specs.declared.Decision.{Decision as Decides}
use Rattle.registry.specs.declared.Decision.TheVariants.{Nothing, Member, Checkpoint, Vote, Bundle, Quorum}
use Rattle.rules.specs.Decision.{BitsFit}

-- two models say the same of links and of ids
record Alike (m n : Model) : Type 0 where
  pub links : (source target : List ℕ) (h k : ℕ) → link_of n source target h k ≡ link_of m source target h k
  pub ids : (id : ℕ) → id_held n id ≡ id_held m id
  pub members : n.members ≡ m.members

module _ (m : Model) where
  abbrev Left : Answer Change → Type 0
  Left a = Alike m (decided m (single a))

  stays : (n : ℕ) → Left (refused n)
  unfolding single append_all
  stays n = record { links = λ source target h k. refl; ids = λ id. refl; members = refl }

  added : (v : HeldVote) → Left (answer (add_vote v))
  unfolding single append_all append link_of link_between name_held heights_agree id_held
  added v = record { links = λ source target h k. refl; ids = λ id. refl; members = refl }

  vote_alike : (l : Answer Link) (id : ℕ) → Alike m (decided m (cast_vote m l id))
  unfolding cast_vote and_then cast room
  vote_alike (refused n) id = stays n
  vote_alike (answer l) id =
      row_elim (λ (a : Answer HeldVote). Left (and_then a (room m))) 35 _ _ (stays 35) λ _.
      row_elim Left 36 _ _ (stays 36) λ _.
      added _

  pub cast_fits : (l : Answer Link) (id : ℕ) → FitAll m (cast_vote m l id).changes
  unfolding cast_vote and_then cast room single
  cast_fits (refused n) id = no_change
  cast_fits (answer l) id =
      row_elim (λ (a : Answer HeldVote). FitAll m (single (and_then a (room m))).changes) 35 _ _ no_change λ _.
      row_elim (λ (a : Answer Change). FitAll m (single a).changes) 36 _ _ no_change λ fits.
      one_change (leb-false _ _ fits) no_change

  -- a held member's vote
  by-link : (id : ℕ) (source target : List ℕ) (h k : ℕ) → id_held m id ≡ true
      → single (decide_vote m id source target h k) ≡ cast_vote m (link_of m source target h k) id
  unfolding cast_vote decide_vote vote_of
  by-link id source target h k held =
      ap (λ (a : Answer HeldVote). single (and_then a (room m))) (passes-row 30 (not (id_held m id)) _ (ap not held) refl)

-- ---- the votes one after another

-- the model that they leave
abbrev pub after_each : Model → Answer Link → List ℕ → Model
after_each m l ids = decided m (together (cast_each m l ids))

-- one vote more, behind the others
pub each_more : (m : Model) (l : Answer Link) (ids : List ℕ) (id : ℕ)
    → cast_each m l (ids ++ id ∷ []) ≡ cast_each m l ids ++ cast_vote (after_each m l ids) l id ∷ []
unfolding cast_each together append_all flat_map
each_more m l [] id = refl
each_more m l (x ∷ ids) id =
    let d = cast_vote m l x in
    ap (◌∷◌ d)
    (each_more (decided m d) l ids id
    ∙ ap (λ (n : Model). cast_each (decided m d) l ids ++ cast_vote n l id ∷ [])
    (sym (append-both m d.changes (together (cast_each (decided m d) l ids)).changes)))

pub each_fits : (m : Model) (l : Answer Link) (ids : List ℕ) → FitAll m (together (cast_each m l ids)).changes
unfolding cast_each together flat_map
each_fits m l [] = no_change
each_fits m l (id ∷ ids) =
    let d = cast_vote m l id in
    fit-both m d.changes _ (cast_fits m l id) (each_fits (decided m d) l ids)

-- the members are as they were
pub each-members : (m : Model) (l : Answer Link) (ids : List ℕ) → (after_each m l ids).members ≡ m.members
unfolding cast_each together append_all flat_map
each-members m l [] = refl
each-members m l (id ∷ ids) =
    let d = cast_vote m l id in
    ap (λ (n : Model). n.members) (append-both m d.changes (together (cast_each (decided m d) l ids)).changes)
    ∙ each-members (decided m d) l ids ∙ (vote_alike m l id).members

pub each_by_link : (m : Model) (ids source target : List ℕ) (h k : ℕ) → All (λ id. id_held m id ≡ true) ids
    → decide_each m ids source target h k ≡ cast_each m (link_of m source target h k) ids
unfolding decide_each cast_each
each_by_link m [] source target h k none = refl
each_by_link m (id ∷ ids) source target h k (each held rest) =
    let l = link_of m source target h k in
    let after = decided m (cast_vote m l id) in
    let alike = vote_alike m l id in
    ap (λ (d : Decision). d ∷ decide_each (decided m d) ids source target h k) (by-link m id source target h k held)
    ∙ ap (◌∷◌ (cast_vote m l id))
    (each_by_link after ids source target h k (all_map (λ x e. alike.ids x ∙ e) rest)
    ∙ ap (λ (a : Answer Link). cast_each after a ids) (alike.links source target h k))

not_together : (ds : List Decision) (a : Answer Change) → together ds ≡ single a → ⊥
unfolding together single
not_together ds (refused n) e = let t = ap (λ (d : Decision). d.told) e in let z : ◌≡◌ {A = ℕ} 0 1 = cc in absurd (omega arith)
not_together ds (answer c) e = let t = ap (λ (d : Decision). d.told) e in let z : ◌≡◌ {A = ℕ} 0 1 = cc in absurd (omega arith)

-- as many are told of as there are bits set
pub each_number : (m : Model) (l : Answer Link) (ids : List ℕ) → length (map (λ (d : Decision). one_vote d.told) (cast_each m l ids)) ≡ length ids
unfolding cast_each
each_number m l [] = refl
each_number m l (id ∷ ids) = ap suc (each_number (decided m (cast_vote m l id)) l ids)

pub bundle-number : (m : Model) (l : Answer Link) (bits : List ℕ)
    → brief (together (cast_each m l (bundle_ids m bits))).told ≡ answer (many_votes (length (set_places bits)))
unfolding brief together bundle_ids
bundle-number m l bits =
    ap (λ (n : ℕ). answer (many_votes n))
    (each_number m l (bundle_ids m bits) ∙ length-map (set_places bits) (λ p. (member_at m.members p).id))

-- what is decided on one record by itself is no bundle
pub single-fits : (m : Model) (n : ℕ) (s : List ℕ) (a : Answer Change) (d : Result Decides Refusal) → decision_of m s d ≡ single a → BitsFit n s d
single-fits m n s a (Err r) e = tt
single-fits m n s a (Ok Nothing) e = tt
single-fits m n s a (Ok (Member id bond)) e = tt
single-fits m n s a (Ok (Checkpoint p h)) e = tt
single-fits m n s a (Ok (Vote b)) e = tt
single-fits m n s a (Ok (Bundle k l)) e = absurd (not_together _ a e)
single-fits m n s a (Ok (Quorum k)) e = tt

-- the member at a place is held
at_place : (m : Model) (p : ℕ) → p < length m.members → id_held m (member_at m.members p).id ≡ true
unfolding id_held member_index member_at
at_place m p inside =
    let own : HeldMember → Bool = λ x. eqb x.id (member_at m.members p).id in
    let id = (member_at m.members p).id in
    lt-ltb (member_index m.members id) (length m.members)
    (any-first own no_member m.members (found-any own no_member m.members p inside (eq-eqb id id refl)))

ids-held : (m : Model) (bits : List ℕ) → bit_without_member m bits ≡ false → All (λ id. id_held m id ≡ true) (bundle_ids m bits)
unfolding bundle_ids bit_without_member
ids-held m bits e = each_member (λ id. id_held m id ≡ true) m.members (at_place m) (set_places bits) e

-- once each test is known
pub bundle-rows : (m : Model) (bits source target : List ℕ) (h k : ℕ) {b61 b62 : Bool} → bit_without_member m bits ≡ b61 → no_bit_set bits ≡ b62
    → decide_bundle m bits source target h k ≡ row 61 b61 (row 62 b62 (answer (decide_each m (bundle_ids m bits) source target h k)))
unfolding decide_bundle
bundle-rows m bits source target h k e61 e62 = rw (e61, e62)

-- a bundle that rows 61 and 62 pass
pub bundle_by_link : (m : Model) (bits source target : List ℕ) (h k : ℕ) → bit_without_member m bits ≡ false → no_bit_set bits ≡ false
    → together (cast_each m (link_of m source target h k) (bundle_ids m bits)) ≡ whole (decide_bundle m bits source target h k)
unfolding row whole
bundle_by_link m bits source target h k e61 e62 =
    sym
    (ap whole (bundle-rows m bits source target h k e61 e62)
    ∙ ap together (each_by_link m (bundle_ids m bits) source target h k (ids-held m bits e61)))
