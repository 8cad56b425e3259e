-- What is decided on the bytes from an offset on: rows 4 and 5, then those of the record's kind, in rising number; a
-- bundle's own, 61 and 62, come before those of its votes; 63 and 64 are a quorum's. And what is decided on a move of
-- the root: rows 41 and 70 to 72. Rows 1 to 3, and what makes a kind unknown or a record cut (4 and 5), are in
-- Log.antt; row 40's condition in WellFormed.antt, 41 of the other calls in Support.antt and Finality.antt, 50 to 57 in
-- Checker.antt, 60 in Buffer.antt.
use Rattle.std.specs.Prelude.{ℕ, ◌+◌, List, [], ◌∷◌, map, Bool, ◌&&◌, ◌||◌, not, length, eqb, ltb, leb}
use Rattle.model.specs.Answer.{Answer, refused, answer, row, and_then}
use Rattle.model.specs.Bits.{set_places}
use Rattle.model.specs.Change.{Change, add_member, add_checkpoint, add_vote, give_quota, move_root, Decision}
use Rattle.model.specs.Change.{single, decided, whole, nothing_read}
use Rattle.model.specs.Evidence.{Charge, charges}
use Rattle.model.specs.Finality.{final?, conflicting?}
use Rattle.model.specs.Limits.{member_limit, checkpoint_limit, vote_limit, bond_limit, root_height_limit}
use Rattle.model.specs.Lists.{any}
use Rattle.model.specs.Log.{Record, no_record, unknown_kind, cut_record, member_record, checkpoint_record, vote_record}
use Rattle.model.specs.Log.{bundle_record, quorum_record, decode}
use Rattle.model.specs.Model.{Model, Member, Checkpoint, Vote, Link, link, member_at, height_of, place_of, id_held}
use Rattle.model.specs.Model.{name_held, place_held, vote_at, vote_for, vote_held}
use Rattle.model.specs.Move.{kept_vote?}
use Rattle.model.specs.Rule.{given?, permitted?}
use Rattle.model.specs.declared.Quota.{Quota}
use Rattle.model.specs.Tree.{ancestor?}

-- row 10: after an accepted vote, or an accepted checkpoint other than the root; and where the root is above height 0
-- (K7)
unfoldable pub members_fixed : Model → Bool
members_fixed m =
    ltb 0 (length m.votes) || ltb 1 (length m.checkpoints) || ltb 0 (height_of m.checkpoints 0)

-- row 11: "bond 0 or above the limit"
unfoldable pub bond_out_of_range : ℕ → Bool
bond_out_of_range bond = eqb bond 0 || ltb bond_limit bond

unfoldable pub decide_member : Model → Member → Answer Change
decide_member m x =
    row 10 (members_fixed m)
    (row 11 (bond_out_of_range x.bond)
    (row 12 (id_held m x.id)
    (row 13 (leb member_limit (length m.members))
    (answer (add_member x)))))

-- the checkpoint that a record gives
abbrev pub new_checkpoint : Model → List ℕ → List ℕ → Checkpoint
new_checkpoint m name parent =
    let p = place_of m.checkpoints parent in
    record { name = name; parent = p; height = height_of m.checkpoints p + 1 }

unfoldable pub decide_checkpoint : Model → List ℕ → List ℕ → Answer Change
decide_checkpoint m name parent =
    row 20 (name_held m name)
    (row 21 (not (name_held m parent))
    (row 22 (leb checkpoint_limit (length m.checkpoints))
    (answer (add_checkpoint (new_checkpoint m name parent)))))

-- the heights that a vote gives are the tree's
unfoldable pub heights_agree : Model → Link → ℕ → ℕ → Bool
heights_agree m l source_height target_height =
    eqb source_height (height_of m.checkpoints l.source) && eqb target_height (height_of m.checkpoints l.target)

-- rows 33 and 34, on a link between held places
unfoldable pub link_between : Model → Link → ℕ → ℕ → Answer Link
link_between m l source_height target_height =
    row 33 (not (heights_agree m l source_height target_height))
    (row 34 (not (ancestor? m.checkpoints l.source l.target))
    (answer l))

-- the link that a record's names give
abbrev pub new_link : Model → List ℕ → List ℕ → Link
new_link m source target = link (place_of m.checkpoints source) (place_of m.checkpoints target)

-- rows 31 to 34, which ask nothing of the voter
unfoldable pub link_of : Model → List ℕ → List ℕ → ℕ → ℕ → Answer Link
link_of m source target source_height target_height =
    row 31 (not (name_held m source))
    (row 32 (not (name_held m target))
    (link_between m (new_link m source target) source_height target_height))

-- row 35, on a member's vote for a link
unfoldable pub cast : Model → ℕ → Link → Answer Vote
cast m id l = let v = vote_for id l.source l.target in row 35 (vote_held m.votes v) (answer v)

-- rows 30 to 35
unfoldable pub vote_of : Model → ℕ → List ℕ → List ℕ → ℕ → ℕ → Answer Vote
vote_of m id source target source_height target_height =
    row 30 (not (id_held m id))
    (and_then (link_of m source target source_height target_height) (cast m id))

-- row 36, on a vote that rows 30 to 35 pass
unfoldable pub room : Model → Vote → Answer Change
room m v = row 36 (leb vote_limit (length m.votes)) (answer (add_vote v))

unfoldable pub decide_vote : Model → ℕ → List ℕ → List ℕ → ℕ → ℕ → Answer Change
decide_vote m id source target source_height target_height =
    and_then (vote_of m id source target source_height target_height) (room m)

-- the single votes of the members with these ids, each meeting what the last one left
unfoldable pub decide_each : Model → List ℕ → List ℕ → List ℕ → ℕ → ℕ → List Decision
decide_each m [] source target source_height target_height = []
decide_each m (id ∷ ids) source target source_height target_height =
    let d = single (decide_vote m id source target source_height target_height) in
    d ∷ decide_each (decided m d) ids source target source_height target_height

-- the ids of the members whose bits are set, "in rising place"
unfoldable pub bundle_ids : Model → List ℕ → List ℕ
bundle_ids m bits = map (λ p. (member_at m.members p).id) (set_places bits)

-- row 61: "a bit set where no member stands"
unfoldable pub bit_without_member : Model → List ℕ → Bool
bit_without_member m bits = any (λ p. leb (length m.members) p) (set_places bits)

-- row 62: "no bit set"
unfoldable pub no_bit_set : List ℕ → Bool
no_bit_set bits = eqb (length (set_places bits)) 0

-- rows 61 and 62: "either refuses the whole bundle"
unfoldable pub decide_bundle : Model → List ℕ → List ℕ → List ℕ → ℕ → ℕ → Answer (List Decision)
decide_bundle m bits source target source_height target_height =
    row 61 (bit_without_member m bits)
    (row 62 (no_bit_set bits)
    (answer (decide_each m (bundle_ids m bits) source target source_height target_height)))

-- row 64: "p above q, q not below 2p, q of 0 or above 1,000, or a quorum already given"
unfoldable pub bad_quorum : Model → Quota → Bool
bad_quorum m k = not (permitted? k) || given? m.rule

-- rows 63, "a quorum where a member would meet 10", and 64
unfoldable pub decide_quorum : Model → Quota → Answer Change
decide_quorum m k =
    row 63 (members_fixed m)
    (row 64 (bad_quorum m k)
    (answer (give_quota k)))

unfoldable pub decide_record : Model → Record → Decision
decide_record m no_record = nothing_read
decide_record m unknown_kind = single (refused 4)
decide_record m cut_record = single (refused 5)
decide_record m (member_record id bond) = single (decide_member m (record { id = id; bond = bond }))
decide_record m (checkpoint_record name parent) = single (decide_checkpoint m name parent)
decide_record m (vote_record id source target source_height target_height) =
    single (decide_vote m id source target source_height target_height)
decide_record m (bundle_record bits source target source_height target_height) =
    whole (decide_bundle m bits source target source_height target_height)
decide_record m (quorum_record p q) = single (decide_quorum m (record { p = p; q = q }))

unfoldable pub decide : Model → List ℕ → Decision
decide m s = decide_record m (decode s)

-- row 70, on a move of the root to the place r (K7): "r isn't final or is higher than that", the greatest height that
-- row 40 allows a root
unfoldable pub bars_root : Model → ℕ → Bool
bars_root m r = not (final? m r) || ltb root_height_limit (height_of m.checkpoints r)

-- a charge uses a vote to be dropped
unfoldable pub uses_dropped : Model → ℕ → Charge → Bool
uses_dropped m r c =
    not (kept_vote? m.checkpoints r (vote_at m.votes c.earlier))
    || not (kept_vote? m.checkpoints r (vote_at m.votes c.later))

-- row 71: "two final checkpoints conflict or a charge shown uses a vote to be dropped"
unfoldable pub risks_evidence : Model → ℕ → Bool
risks_evidence m r = conflicting? m || any (uses_dropped m r) (charges m)

-- the vote is to be dropped, and has a target higher than r
unfoldable pub dropped_higher : Model → ℕ → Vote → Bool
dropped_higher m r v =
    not (kept_vote? m.checkpoints r v)
    && ltb (height_of m.checkpoints r) (height_of m.checkpoints v.target)

-- row 72: "a vote to be dropped has a target higher than r"
unfoldable pub drops_higher : Model → ℕ → Bool
drops_higher m r = any (dropped_higher m r) m.votes

-- a move of the root to the place r: "Checks, after 41, which the book tries here too: 70 ..; 71 ..; 72 ..; in that
-- order."
unfoldable pub decide_move : Model → ℕ → Answer Change
decide_move m r =
    row 41 (not (place_held m r))
    (row 70 (bars_root m r)
    (row 71 (risks_evidence m r)
    (row 72 (drops_higher m r)
    (answer (move_root r)))))
