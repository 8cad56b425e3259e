-- The rows of each kind of record: refused by one of them, or taken, and then none of them applies. What is to be shown is asked
-- for once for each row.
use Prim.Native.Nat.{ℕ}
use mathlib.Core.Path.{◌≡◌}
use mathlib.Core.List.{List, [], ◌∷◌}
use mathlib.Core.Bool.{false, not}
use lib.ListN.{length}
use lib.Dec.{leb}
use Rattle.model.specs.Answer.{Answer, refused, answer, and_then}
use Rattle.model.specs.Change.{Change, add_member, add_checkpoint, add_vote, give_quota, move_root, Decision}
use Rattle.model.specs.Decide.{members_fixed, bond_out_of_range, decide_member, new_checkpoint, decide_checkpoint, heights_agree, new_link, link_between, link_of, cast, vote_of, room, decide_vote}
use Rattle.model.specs.Decide.{decide_each, bundle_ids, bit_without_member, no_bit_set, decide_bundle, bad_quorum}
use Rattle.model.specs.Decide.{decide_quorum, bars_root, risks_evidence, drops_higher, decide_move}
use Rattle.model.specs.Limits.{member_limit, checkpoint_limit, vote_limit}
use Rattle.model.specs.Lists.{All, none, each}
use Rattle.model.specs.Model.{Model, Member, Vote, Link, place_of, id_held, name_held, place_held}
use Rattle.model.specs.Model.{vote_for, vote_held}
use Rattle.model.specs.declared.Quota.{Quota}
use Rattle.model.specs.Tree.{ancestor?}
use Rattle.model.proofs.Answer.{row_elim}

abbrev pub member_rows : List ℕ
member_rows = 10 ∷ 11 ∷ 12 ∷ 13 ∷ []

abbrev pub checkpoint_rows : List ℕ
checkpoint_rows = 20 ∷ 21 ∷ 22 ∷ []

abbrev pub vote_rows : List ℕ
vote_rows = 30 ∷ 31 ∷ 32 ∷ 33 ∷ 34 ∷ 35 ∷ 36 ∷ []

abbrev pub bundle_rows : List ℕ
bundle_rows = 61 ∷ 62 ∷ []

abbrev pub quorum_rows : List ℕ
quorum_rows = 63 ∷ 64 ∷ []

abbrev pub move_rows : List ℕ
move_rows = 41 ∷ 70 ∷ 71 ∷ 72 ∷ []

-- a member's record that passes its rows
pub record MemberPasses (m : Model) (x : Member) : Type 0 where
  pub unfixed : members_fixed m ≡ false
  pub bond : bond_out_of_range x.bond ≡ false
  pub fresh : id_held m x.id ≡ false
  pub fits : leb member_limit (length m.members) ≡ false

-- a checkpoint's
pub record CheckpointPasses (m : Model) (name parent : List ℕ) : Type 0 where
  pub fresh : name_held m name ≡ false
  pub held : not (name_held m parent) ≡ false
  pub fits : leb checkpoint_limit (length m.checkpoints) ≡ false

-- the vote that a record gives
abbrev pub new_vote : Model → ℕ → List ℕ → List ℕ → Vote
new_vote m id source target = vote_for id (place_of m.checkpoints source) (place_of m.checkpoints target)

-- a vote's, by rows 30 to 35
pub record VotePasses (m : Model) (id : ℕ) (source target : List ℕ) (source_height target_height : ℕ) : Type 0 where
  pub member : not (id_held m id) ≡ false
  pub from : not (name_held m source) ≡ false
  pub to : not (name_held m target) ≡ false
  pub heights : not (heights_agree m (new_link m source target) source_height target_height) ≡ false
  pub climbs : not (ancestor? m.checkpoints (place_of m.checkpoints source) (place_of m.checkpoints target)) ≡ false
  pub fresh : vote_held m.votes (new_vote m id source target) ≡ false

-- a bundle's, as a whole
pub record BundlePasses (m : Model) (bits : List ℕ) : Type 0 where
  pub members : bit_without_member m bits ≡ false
  pub some : no_bit_set bits ≡ false

-- a quorum's
pub record QuorumPasses (m : Model) (k : Quota) : Type 0 where
  pub unfixed : members_fixed m ≡ false
  pub right : bad_quorum m k ≡ false

-- a move of the root
pub record MovePasses (m : Model) (r : ℕ) : Type 0 where
  pub held : not (place_held m r) ≡ false
  pub final : bars_root m r ≡ false
  pub shown : risks_evidence m r ≡ false
  pub low : drops_higher m r ≡ false

pub bundle_elim : (m : Model) (P : Answer (List Decision) → Type 0) (bits source target : List ℕ) (source_height target_height : ℕ)
    → All (λ n. P (refused n)) bundle_rows
    → (BundlePasses m bits → P (answer (decide_each m (bundle_ids m bits) source target source_height target_height)))
    → P (decide_bundle m bits source target source_height target_height)
unfolding decide_bundle
bundle_elim m P bits source target h k (each r61 (each r62 none)) votes =
    row_elim P 61 _ _ r61 λ members.
    row_elim P 62 _ _ r62 λ some.
    votes (record { members = members; some = some })

module _ (m : Model) (P : Answer Change → Type 0) where
  pub member_elim : (x : Member) → All (λ n. P (refused n)) member_rows → (MemberPasses m x → P (answer (add_member x))) → P (decide_member m x)
  unfolding decide_member
  member_elim x (each r10 (each r11 (each r12 (each r13 none)))) taken =
      row_elim P 10 _ _ r10 λ unfixed.
      row_elim P 11 _ _ r11 λ bond.
      row_elim P 12 _ _ r12 λ fresh.
      row_elim P 13 _ _ r13 λ fits.
      taken (record { unfixed = unfixed; bond = bond; fresh = fresh; fits = fits })

  pub checkpoint_elim : (name parent : List ℕ) → All (λ n. P (refused n)) checkpoint_rows
      → (CheckpointPasses m name parent → P (answer (add_checkpoint (new_checkpoint m name parent)))) → P (decide_checkpoint m name parent)
  unfolding decide_checkpoint
  checkpoint_elim name parent (each r20 (each r21 (each r22 none))) taken =
      row_elim P 20 _ _ r20 λ fresh.
      row_elim P 21 _ _ r21 λ held.
      row_elim P 22 _ _ r22 λ fits.
      taken (record { fresh = fresh; held = held; fits = fits })

  pub quorum_elim : (k : Quota) → All (λ n. P (refused n)) quorum_rows
      → (QuorumPasses m k → P (answer (give_quota k))) → P (decide_quorum m k)
  unfolding decide_quorum
  quorum_elim k (each r63 (each r64 none)) taken =
      row_elim P 63 _ _ r63 λ unfixed.
      row_elim P 64 _ _ r64 λ right.
      taken (record { unfixed = unfixed; right = right })

  pub move_elim : (r : ℕ) → All (λ n. P (refused n)) move_rows → (MovePasses m r → P (answer (move_root r)))
      → P (decide_move m r)
  unfolding decide_move
  move_elim r (each r41 (each r70 (each r71 (each r72 none)))) taken =
      row_elim P 41 _ _ r41 λ held.
      row_elim P 70 _ _ r70 λ final.
      row_elim P 71 _ _ r71 λ shown.
      row_elim P 72 _ _ r72 λ low.
      taken (record { held = held; final = final; shown = shown; low = low })

  pub vote_elim : (id : ℕ) (source target : List ℕ) (source_height target_height : ℕ) → All (λ n. P (refused n)) vote_rows
      → (VotePasses m id source target source_height target_height → leb vote_limit (length m.votes) ≡ false → P (answer (add_vote (new_vote m id source target))))
      → P (decide_vote m id source target source_height target_height)
  unfolding decide_vote vote_of link_of link_between cast and_then room
  vote_elim id source target h k (each r30 (each r31 (each r32 (each r33 (each r34 (each r35 (each r36 none))))))) taken =
      let Q : Answer Vote → Type 0 = λ a. P (and_then a (room m)) in
      let L : Answer Link → Type 0 = λ a. Q (and_then a (cast m id)) in
      row_elim Q 30 _ _ r30 λ member.
      row_elim L 31 _ _ r31 λ from.
      row_elim L 32 _ _ r32 λ to.
      row_elim L 33 (not (heights_agree m (new_link m source target) h k)) _ r33 λ heights.
      row_elim L 34 _ _ r34 λ climbs.
      row_elim Q 35 _ _ r35 λ fresh.
      row_elim P 36 _ _ r36 λ fits.
      taken (record { member = member; from = from; to = to; heights = heights; climbs = climbs; fresh = fresh }) fits
