-- Moves of the root (K7), each case computed: what each row turns back, and what stands just beside it; what stays;
-- what is read under a raised root; a run with moves in it; and for each row what would go wrong without it.
use Prim.Native.Nat.{ℕ, ◌+◌}
use mathlib.Core.Path.{◌≡◌, refl}
use mathlib.Core.List.{List, [], ◌∷◌, ◌++◌, map, flat_map}
use mathlib.Core.Bool.{Bool, true, false}
use Rattle.model.specs.Answer.{Answer, refused, answer, row, and_then}
use Rattle.model.specs.Bytes.{be_of, be_bytes, field, ascii}
use Rattle.model.specs.Change.{Change, add_member, add_checkpoint, add_vote, give_quota, move_root, append, append_all}
use Rattle.model.specs.Change.{Told, taken, single}
use Rattle.model.specs.Decide.{decide, decide_record, decide_member, decide_checkpoint, link_between, link_of, cast, vote_of}
use Rattle.model.specs.Decide.{room, decide_vote, heights_agree, bond_out_of_range, members_fixed, bad_quorum, decide_quorum}
use Rattle.model.specs.Decide.{bars_root, uses_dropped, risks_evidence, dropped_higher, drops_higher, decide_move}
use Rattle.model.specs.Evidence.{Charge, clear, broken, charges, charge_of, conduct, conduct_from, by_id, insert_by_id}
use Rattle.model.specs.Finality.{justified_marks, justified?, sealed?, final?, status, conflicting?}
use Rattle.model.specs.Lists.{any, any_below, all_below, pair_below, picked, first_index, same_bytes, tabulate}
use Rattle.model.specs.Log.{kind_of, size_of, decode_as, record_size, decode}
use Rattle.model.specs.Model.{Model, Member, Checkpoint, Vote, start, member_at, checkpoint_at, vote_at, member_index}
use Rattle.model.specs.Model.{place_of, id_held, name_held, vote_for, vote_held}
use Rattle.model.specs.Move.{kept?, kept_vote?, moved}
use Rattle.model.specs.Rule.{given, given?, quota_of, permitted?}
use Rattle.model.specs.Run.{Event, reading, moving, decide_event, after, outcomes}
use Rattle.model.specs.Slashing.{breaks?}
use Rattle.model.specs.Support.{sum, supports, quorum, carries, link?}
use Rattle.model.specs.Tree.{child?, reached?, ancestor?, conflict?}
use Rattle.model.specs.WellFormed.{well_formed?, counts?, members?, bonds?, tree?, steps?, vote?, votes?, id_twice?}
use Rattle.model.specs.WellFormed.{name_twice?, vote_twice?}
use Rattle.model.specs.declared.Quota.{Quota}
use Rattle.model.specs.declared.Status.TheVariants.{Plain, Justified, Final}
use Rattle.model.proofs.Cases.{name, member, checkpoint, vote, node, held, firm, filled, root_alone}

-- ---- what the cases are about

-- The tree of most cases, with heights from 0 on the left to 3 on the right; the number is the place:
--
--   R 0 -- A 1 -- C 3 -- D 5
--      \             \-- F 6
--       \- B 2 -- E 4

abbrev tree : List Checkpoint
tree =
    node "R" 0 0 ∷ node "A" 0 1 ∷ node "B" 0 1 ∷ node "C" 1 2 ∷ node "E" 2 2 ∷ node "D" 3 3 ∷ node "F" 3 3 ∷ []

abbrev at_r : ℕ
at_r = 0

abbrev at_a : ℕ
at_a = 1

abbrev at_b : ℕ
at_b = 2

abbrev at_c : ℕ
at_c = 3

abbrev at_e : ℕ
at_e = 4

abbrev at_d : ℕ
at_d = 5

abbrev at_f : ℕ
at_f = 6

-- members 1, 2 and 3 with bond 1
abbrev three : List Member
three = firm 1 1 ∷ firm 2 1 ∷ firm 3 1 ∷ []

-- members 1 and 2, who are a quorum, vote R → A and A → C: A is final and C is justified
abbrev sealing : List Vote
sealing = vote_for 1 at_r at_a ∷ vote_for 2 at_r at_a ∷ vote_for 1 at_a at_c ∷ vote_for 2 at_a at_c ∷ []

-- these votes, with numbers 0 to 3, and later ones, from 4 on; a move to A drops B and E, and the votes 0 and 1
abbrev voted : List Vote → Model
voted later = held three tree (sealing ++ later)

-- they vote C → D too: C is final
abbrev onward : List Vote
onward = vote_for 1 at_c at_d ∷ vote_for 2 at_c at_d ∷ []

-- members 2 and 3 vote B final, which conflicts with A; member 2 breaks a rule by votes 1 and 4
abbrev forked : Model
forked = voted (vote_for 2 at_r at_b ∷ vote_for 3 at_r at_b ∷ vote_for 2 at_b at_e ∷ vote_for 3 at_b at_e ∷ [])

-- Each member has the breaking pair C → D and C → F among the votes 0 to 5. So this pair is shown, and a move to C,
-- which is final, keeps it; whoever votes for B too may have a second pair, which is not shown. All votes that a move
-- to C drops have targets no higher than C.
abbrev paired : List Vote → Model
paired later =
    held three tree
    (vote_for 1 at_c at_d ∷ vote_for 1 at_c at_f ∷ vote_for 2 at_c at_d ∷ vote_for 2 at_c at_f ∷ vote_for 3 at_c at_d
    ∷ vote_for 3 at_c at_f ∷ sealing ++ later)

-- B is final in the first, and only justified in the second, where the vote B → E of member 2 is missing

abbrev clash : Model
clash = paired (vote_for 2 at_r at_b ∷ vote_for 3 at_r at_b ∷ vote_for 3 at_b at_e ∷ vote_for 2 at_b at_e ∷ [])

abbrev no_clash : Model
no_clash = paired (vote_for 2 at_r at_b ∷ vote_for 3 at_r at_b ∷ vote_for 3 at_b at_e ∷ [])

-- members 2 and 3 vote R → D, over A; the pair shown of member 2 is C → D and C → F, which a move to A keeps
abbrev over : Model
over =
    held three tree
    (vote_for 2 at_c at_d ∷ vote_for 2 at_c at_f ∷ sealing ++ vote_for 2 at_r at_d ∷ vote_for 3 at_r at_d ∷ [])

-- G, H and I, at the places 7 to 9, a branch over A beside C; members 1 and 2 vote H final
abbrev aside : List Event
aside =
    reading (checkpoint "G" "A")
    ∷ reading (checkpoint "H" "G")
    ∷ reading (checkpoint "I" "H")
    ∷ reading (vote 1 "A" 1 "H" 3)
    ∷ reading (vote 2 "A" 1 "H" 3)
    ∷ reading (vote 1 "H" 3 "I" 4)
    ∷ reading (vote 2 "H" 3 "I" 4)
    ∷ []

-- a chain R, A, C from any height of R on, where A is final
abbrev high : ℕ → Model
high h =
    held three
    (node "R" 0 h ∷ node "A" 0 (h + 1) ∷ node "C" 1 (h + 2) ∷ [])
    (vote_for 1 0 1 ∷ vote_for 2 0 1 ∷ vote_for 1 1 2 ∷ vote_for 2 1 2 ∷ [])

-- a root that names a parent, which says nothing
abbrev stray_parent : Model
stray_parent = held three (node "R" 7 0 ∷ node "A" 0 1 ∷ []) []

-- a root at any height, with members and nothing else; above height 0 no run leaves this, but it may be handed in
abbrev alone : ℕ → Model
alone h = held three (node "R" 0 h ∷ []) []

-- what rows 71 and 72 ask of a move to r: two finals conflict; a pair shown would lose a vote; a vote that would be
-- dropped has a target higher than r
abbrev rows71and72 : Model → ℕ → Bool × Bool × Bool
rows71and72 m r = (conflicting? m, any (uses_dropped m r) (charges m), drops_higher m r)

-- the move is made
abbrev moves : ℕ → Answer Change
moves r = answer (move_root r)

abbrev of : ℕ → ℕ → Quota
of p q = record { p = p; q = q }

-- a quorum's record
abbrev giving : ℕ → ℕ → List ℕ
giving p q = 4 ∷ be_bytes 2 p ++ be_bytes 2 q

-- a charge: a member's id and the numbers of two votes
abbrev charge : ℕ → ℕ → ℕ → Charge
charge id earlier later = record { id = id; earlier = earlier; later = later }

-- 3 of 4 parts are a quorum, and member 0 alone holds it; A and C are final; two votes R → B stand between the others
abbrev weighed : Model
weighed =
    record {
      rule = given (of 3 4);
      members = firm 300 10 ∷ firm 0 1000 ∷ firm 65535 7 ∷ [];
      checkpoints = tree;
      votes =
          vote_for 65535 at_c at_f ∷ vote_for 0 at_r at_a ∷ vote_for 300 at_r at_b ∷ vote_for 0 at_a at_c ∷ vote_for 300 at_c at_d
          ∷ vote_for 65535 at_r at_b ∷ vote_for 0 at_c at_d ∷ [];
    }

-- what a move to A leaves of it: A, C, D and F at the places 0 to 3
abbrev weighed_at_a : Model
weighed_at_a =
    record {
      rule = given (of 3 4);
      members = firm 300 10 ∷ firm 0 1000 ∷ firm 65535 7 ∷ [];
      checkpoints = node "A" 0 1 ∷ node "C" 0 2 ∷ node "D" 1 3 ∷ node "F" 1 3 ∷ [];
      votes = vote_for 65535 1 3 ∷ vote_for 0 0 1 ∷ vote_for 300 1 2 ∷ vote_for 0 1 2 ∷ [];
    }

-- and a move to C: C, D and F at the places 0 to 2
abbrev weighed_at_c : Model
weighed_at_c =
    record {
      rule = given (of 3 4);
      members = firm 300 10 ∷ firm 0 1000 ∷ firm 65535 7 ∷ [];
      checkpoints = node "C" 0 2 ∷ node "D" 0 3 ∷ node "F" 0 3 ∷ [];
      votes = vote_for 65535 0 2 ∷ vote_for 300 0 1 ∷ vote_for 0 0 1 ∷ [];
    }

-- ---- a run: each event beside what is told of it

record Step : Type 0 where
  event : Event
  told : Answer Told

-- taken
abbrev yes : Event → Step
yes e = record { event = e; told = answer taken }

-- refused with this number
abbrev no : ℕ → Event → Step
no n e = record { event = e; told = refused n }

-- to the first move, which leaves A, C and D at the places 0 to 2
abbrev opening : List Step
opening =
    yes (moving 0)
    ∷ no 41 (moving 1)
    ∷ yes (reading (member 1 1))
    ∷ yes (reading (member 2 1))
    ∷ yes (reading (member 3 1))
    ∷ yes (reading (checkpoint "A" "R"))
    ∷ yes (reading (checkpoint "B" "R"))
    ∷ yes (reading (checkpoint "C" "A"))
    ∷ yes (reading (checkpoint "D" "C"))
    ∷ no 70 (moving 1)
    ∷ yes (reading (vote 1 "R" 0 "A" 1))
    ∷ yes (reading (vote 2 "R" 0 "A" 1))
    ∷ yes (reading (vote 3 "R" 0 "B" 1))
    ∷ no 70 (moving 1)
    ∷ yes (reading (vote 1 "A" 1 "C" 2))
    ∷ yes (reading (vote 2 "A" 1 "C" 2))
    ∷ yes (moving 1)
    ∷ []

-- Between the moves: the dropped names R and B, of which B is given again, at place 3; heights are as they were; no
-- member and no quorum is taken. C is final, but member 3 votes over it, so D must be final too.
abbrev between : List Step
between =
    no 41 (moving 3)
    ∷ no 70 (moving 1)
    ∷ no 31 (reading (vote 3 "R" 0 "C" 2))
    ∷ no 32 (reading (vote 3 "A" 1 "B" 1))
    ∷ yes (reading (checkpoint "B" "A"))
    ∷ no 33 (reading (vote 3 "A" 0 "C" 1))
    ∷ yes (reading (vote 3 "A" 1 "D" 3))
    ∷ no 10 (reading (member 4 1))
    ∷ no 63 (reading (giving 3 4))
    ∷ yes (reading (vote 1 "C" 2 "D" 3))
    ∷ yes (reading (vote 2 "C" 2 "D" 3))
    ∷ no 72 (moving 1)
    ∷ yes (reading (checkpoint "E" "D"))
    ∷ yes (reading (vote 1 "D" 3 "E" 4))
    ∷ yes (reading (vote 2 "D" 3 "E" 4))
    ∷ yes (moving 2)
    ∷ []

-- after the second move, which leaves D and E: E is final, but the pair shown of member 3 would be dropped
abbrev closing : List Step
closing =
    yes (reading (checkpoint "F" "D"))
    ∷ yes (reading (checkpoint "G" "E"))
    ∷ yes (reading (vote 1 "E" 4 "G" 5))
    ∷ yes (reading (vote 2 "E" 4 "G" 5))
    ∷ yes (reading (vote 3 "D" 3 "E" 4))
    ∷ yes (reading (vote 3 "D" 3 "F" 4))
    ∷ no 71 (moving 1)
    ∷ yes (moving 0)
    ∷ []

abbrev events : List Step → List Event
events = map (λ (s : Step). s.event)

abbrev tellings : List Step → List (Answer Told)
tellings = map (λ (s : Step). s.told)

-- what the first move leaves, and the second

abbrev left_by_first : Model
left_by_first = held three (node "A" 0 1 ∷ node "C" 0 2 ∷ node "D" 1 3 ∷ []) (vote_for 1 0 1 ∷ vote_for 2 0 1 ∷ [])

abbrev left_by_second : Model
left_by_second = held three (node "D" 0 3 ∷ node "E" 0 4 ∷ []) (vote_for 1 0 1 ∷ vote_for 2 0 1 ∷ [])

-- ---- the table

pub record MoveCases : Type 0 where
  -- all of these may be held; the first is one whose root names a parent
  well_formed :
      map well_formed?
      (stray_parent ∷ voted onward ∷ forked ∷ clash ∷ no_clash ∷ over ∷ weighed ∷ high 4294966784 ∷ alone 4294966784 ∷ [])
      ≡ true ∷ true ∷ true ∷ true ∷ true ∷ true ∷ true ∷ true ∷ true ∷ []
  -- Row 41: one past the last place. The last place itself goes on to the next row; it is final only where it is the
  -- root, since any other final checkpoint has a child after it.
  row_41 : decide_move (voted []) 7 ≡ refused 41
  row_41_last : decide_move (voted []) at_f ≡ refused 70
  row_41_alone : decide_move (root_alone 3) 1 ≡ refused 41
  row_41_alone_last : decide_move (root_alone 3) 0 ≡ moves 0
  -- row 70: a plain checkpoint, a justified one, and one that isn't justified but has a quorum to its child; final ones
  -- pass
  row_70_plain : decide_move (voted []) at_d ≡ refused 70
  row_70_justified : decide_move (voted []) at_c ≡ refused 70
  row_70_not_justified : decide_move (voted (vote_for 1 at_b at_e ∷ vote_for 2 at_b at_e ∷ [])) at_b ≡ refused 70
  row_70_final : decide_move (voted []) at_a ≡ moves at_a
  row_70_second_final : decide_move (voted onward) at_c ≡ moves at_c
  -- row 70: a final checkpoint at the greatest height that a root may have, and one that is higher by 1; a root that
  -- stands at that height already
  row_70_highest : decide_move (high 4294966783) 1 ≡ moves 1
  row_70_too_high : decide_move (high 4294966784) 1 ≡ refused 70
  row_70_highest_root : decide_move (high 4294966784) 0 ≡ moves 0
  -- row 71: two finals conflict, though neither a pair shown nor a target stands against the move; beside it, one vote
  -- less, so that B is not final
  row_71_conflict : decide_move clash at_c ≡ refused 71
  row_71_no_conflict : decide_move no_clash at_c ≡ moves at_c
  -- Row 71: a pair shown would lose both votes, or its earlier one, or its later one, be the charge of the last member
  -- or of the first. (Where just one of the two is dropped, row 72 stands against the move too, and comes later.)
  -- Beside it, both votes stay.
  row_71_both : decide_move (voted (vote_for 3 at_r at_a ∷ vote_for 3 at_r at_b ∷ [])) at_a ≡ refused 71
  row_71_both_of_first : decide_move (voted (vote_for 1 at_r at_b ∷ [])) at_a ≡ refused 71
  row_71_earlier : decide_move (voted (vote_for 3 at_r at_e ∷ vote_for 3 at_a at_c ∷ [])) at_a ≡ refused 71
  row_71_later : decide_move (voted (vote_for 3 at_a at_c ∷ vote_for 3 at_r at_e ∷ [])) at_a ≡ refused 71
  row_71_neither : decide_move (voted (vote_for 3 at_c at_d ∷ vote_for 3 at_c at_f ∷ [])) at_a ≡ moves at_a
  -- row 71 looks at the pair shown: a second pair may be dropped, but not where it comes first
  row_71_not_shown :
      decide_move (voted (vote_for 3 at_c at_d ∷ vote_for 3 at_c at_f ∷ vote_for 3 at_r at_a ∷ vote_for 3 at_r at_b ∷ [])) at_a
      ≡ moves at_a
  row_71_shown :
      decide_move (voted (vote_for 3 at_r at_a ∷ vote_for 3 at_r at_b ∷ vote_for 3 at_c at_d ∷ vote_for 3 at_c at_f ∷ [])) at_a
      ≡ refused 71
  -- Row 72: a vote on another branch with a target higher than A, and one that climbs over A; both would be dropped.
  -- Beside it, dropped votes with targets at A's height, A itself and B, and a vote that stays.
  row_72_branch : decide_move (voted (vote_for 3 at_r at_e ∷ [])) at_a ≡ refused 72
  row_72_over : decide_move (voted (vote_for 3 at_r at_c ∷ [])) at_a ≡ refused 72
  row_72_into : decide_move (voted (vote_for 3 at_r at_a ∷ [])) at_a ≡ moves at_a
  row_72_sibling : decide_move (voted (vote_for 3 at_r at_b ∷ [])) at_a ≡ moves at_a
  row_72_kept : decide_move (voted (vote_for 3 at_a at_d ∷ [])) at_a ≡ moves at_a
  -- the same votes where r is C: E is at its height; over it, to D, is higher
  row_72_later_branch : decide_move (voted (vote_for 3 at_r at_e ∷ onward)) at_c ≡ moves at_c
  row_72_later_over : decide_move (voted (vote_for 3 at_a at_d ∷ onward)) at_c ≡ refused 72
  -- The order, where A and B are final: place 7 isn't final either; D isn't final, beside the conflict; and on a move
  -- to A the vote B → E would be dropped, beside the conflict.
  order_41 : decide_move forked 7 ≡ refused 41
  order_70 : decide_move forked at_d ≡ refused 70
  order_71 : decide_move forked at_a ≡ refused 71
  -- Place 0: nothing is dropped, so no target and no pair stands against it, but a conflict does. The root's parent
  -- says nothing and becomes 0.
  root_higher : decide_move (voted (vote_for 3 at_r at_e ∷ [])) 0 ≡ moves 0
  root-charged : decide_move (voted (vote_for 3 at_r at_a ∷ vote_for 3 at_r at_b ∷ [])) 0 ≡ moves 0
  root-conflict : decide_move forked 0 ≡ refused 71
  root-same : moved (voted (vote_for 3 at_r at_e ∷ [])) 0 ≡ voted (vote_for 3 at_r at_e ∷ [])
  root-parent : moved stray_parent 0 ≡ held three (node "R" 0 0 ∷ node "A" 0 1 ∷ []) []
  -- What stays: names and heights as they were, parents and votes by the new places, the votes in order, members and
  -- rule. A second move does the same, and both come to what one move to C leaves.
  stays-told : outcomes weighed (moving at_a ∷ []) ≡ answer taken ∷ []
  stays : after weighed (moving at_a ∷ []) ≡ weighed_at_a
  stays_twice : after weighed_at_a (moving 1 ∷ []) ≡ weighed_at_c
  stays_at_once : after weighed (moving at_c ∷ []) ≡ weighed_at_c
  stays_well_formed : well_formed? weighed_at_c ≡ true
  -- a move that is refused leaves everything
  stays-refused : after (voted (vote_for 3 at_r at_e ∷ [])) (moving at_a ∷ []) ≡ voted (vote_for 3 at_r at_e ∷ [])
  -- the standings by the new places, and the pair shown by the new numbers, also where a second pair is dropped
  standings-before : map (status weighed) (at_a ∷ at_c ∷ at_d ∷ at_f ∷ []) ≡ Final ∷ Final ∷ Justified ∷ Plain ∷ []
  standings-after : map (status weighed_at_a) (0 ∷ 1 ∷ 2 ∷ 3 ∷ []) ≡ Final ∷ Final ∷ Justified ∷ Plain ∷ []
  pair-before : charges (voted (vote_for 3 at_c at_d ∷ vote_for 3 at_r at_b ∷ vote_for 3 at_c at_f ∷ [])) ≡ charge 3 4 6 ∷ []
  pair-after :
      charges (moved (voted (vote_for 3 at_c at_d ∷ vote_for 3 at_r at_b ∷ vote_for 3 at_c at_f ∷ [])) at_a) ≡ charge 3 2 3 ∷ []
  pairs_before : charges no_clash ≡ charge 1 0 1 ∷ charge 2 2 3 ∷ charge 3 4 5 ∷ []
  pairs_after : charges (moved no_clash at_c) ≡ charge 1 0 1 ∷ charge 2 2 3 ∷ charge 3 4 5 ∷ []
  -- Rows 10 and 63: a root above height 0 fixes the members and the rule, even alone and with no vote; before rows 11
  -- and 64. At height 0 it doesn't.
  row_10_raised : decide (alone 1) (member 4 1) ≡ single (refused 10)
  row_10_first : decide (alone 1) (member 4 0) ≡ single (refused 10)
  row_10_beside : decide (alone 0) (member 4 1) ≡ single (answer (add_member (firm 4 1)))
  row_63_raised : decide (alone 1) (giving 3 4) ≡ single (refused 63)
  row_63_first : decide (alone 1) (giving 4 3) ≡ single (refused 63)
  row_63_beside : decide (alone 0) (giving 3 4) ≡ single (answer (give_quota (of 3 4)))
  -- a checkpoint under the highest root, and a vote for it
  highest_child :
      decide (alone 4294966784) (checkpoint "A" "R") ≡ single (answer (add_checkpoint (node "A" 0 4294966785)))
  highest_vote :
      decide (high 4294966784) (vote 3 "R" 4294966784 "A" 4294966785) ≡ single (answer (add_vote (vote_for 3 0 1)))
  -- row 33: heights after a move are those from before it, and are not counted from the new root
  row_33_kept : decide (moved (voted []) at_a) (vote 3 "A" 1 "C" 2) ≡ single (answer (add_vote (vote_for 3 0 1)))
  row_33_anew : decide (moved (voted []) at_a) (vote 3 "A" 0 "C" 1) ≡ single (refused 33)
  -- a dropped name: given again, it is taken; as a parent or in a vote it is not held; beside each, what was told
  -- before the move
  again_before : decide (voted []) (checkpoint "B" "A") ≡ single (refused 20)
  again_after : decide (moved (voted []) at_a) (checkpoint "B" "A") ≡ single (answer (add_checkpoint (node "B" 0 2)))
  parent-before : decide (voted []) (checkpoint "Z" "B") ≡ single (answer (add_checkpoint (node "Z" at_b 2)))
  parent-after : decide (moved (voted []) at_a) (checkpoint "Z" "B") ≡ single (refused 21)
  source-before : decide (voted []) (vote 3 "R" 0 "C" 2) ≡ single (answer (add_vote (vote_for 3 at_r at_c)))
  source-after : decide (moved (voted []) at_a) (vote 3 "R" 0 "C" 2) ≡ single (refused 31)
  target-before : decide (voted []) (vote 3 "A" 1 "B" 1) ≡ single (refused 34)
  target-after : decide (moved (voted []) at_a) (vote 3 "A" 1 "B" 1) ≡ single (refused 32)
  -- a run from a header on, with two moves that drop something and others that are refused: what is told of each event,
  -- what the moves leave, and the whole run at once
  run-opening : outcomes (start (name "R")) (events opening) ≡ tellings opening
  run-first : after (start (name "R")) (events opening) ≡ left_by_first
  run-between : outcomes left_by_first (events between) ≡ tellings between
  run-second : after left_by_first (events between) ≡ left_by_second
  run-closing : outcomes left_by_second (events closing) ≡ tellings closing
  run-told :
      outcomes (start (name "R")) (events (opening ++ between ++ closing)) ≡ tellings (opening ++ between ++ closing)
  run-votes :
      (after (start (name "R")) (events (opening ++ between ++ closing))).votes
      ≡ vote_for 1 0 1 ∷ vote_for 2 0 1 ∷ vote_for 1 1 3 ∷ vote_for 2 1 3 ∷ vote_for 3 0 1 ∷ vote_for 3 0 2 ∷ []
  -- "its space serves new records": 512 checkpoints are held, and what goes makes room. `moved` is asked here, and not
  -- the rows.
  room_checkpoints_before : decide (filled 511 0) (checkpoint "B" "A") ≡ single (refused 22)
  room_checkpoints_after : (decide (moved (filled 511 0) 511) (checkpoint "B" "A")).told ≡ answer taken
  -- Why 41: a place that isn't held has no descendants, so nothing would stay, and row 40 would meet every call.
  without_41 : moved (voted []) 7 ≡ held three [] []
  without_41_moved : well_formed? (moved (voted []) 7) ≡ false
  -- Why 70: the root is final, so the move would make C final, and it isn't. Members 1 and 2 may still vote H final,
  -- which conflicts with C, and break no rule by it. Rows 71 and 72 don't stand against the move.
  without_70 : status (voted []) at_c ≡ Justified
  without_70_moved : status (moved (voted []) at_c) 0 ≡ Final
  without_70_alone : rows71and72 (voted []) at_c ≡ (false, false, false)
  without_70_later : map (status (after (voted []) aside)) (at_c ∷ 8 ∷ []) ≡ Justified ∷ Final ∷ []
  without_70_clear : charges (after (voted []) aside) ≡ []
  -- Why 70 of heights: the last of 511 checkpoints in a chain over the highest root has the greatest height of 32 bits.
  -- One more, and its four bytes in a vote would be those of 0: no vote for it could be taken. (R and A stand for the
  -- last two of the chain.)
  without_70_fits : 4294966784 + 511 ≡ 4294967295
  without_70_bytes : be_of (be_bytes 4 4294967295) ≡ 4294967295
  without_70_vote :
      decide (high 4294967294) (vote 3 "R" 4294967294 "A" 4294967295) ≡ single (answer (add_vote (vote_for 3 0 1)))
  without_70_too_high : 4294966785 + 511 ≡ 4294967296
  without_70_too_high_bytes : be_of (be_bytes 4 4294967296) ≡ 0
  without_70_too_high_vote : decide (high 4294967295) (vote 3 "R" 4294967295 "A" 4294967296) ≡ single (refused 33)
  -- why 71 of conflicts: the move to C would drop B, and the conflict with it; nothing else stands against it
  without_71_conflict : conflicting? clash ≡ true
  without_71_conflict_moved : conflicting? (moved clash at_c) ≡ false
  without_71_conflict_alone : rows71and72 clash at_c ≡ (true, false, false)
  -- why 71 of charges: the move to A would drop the two votes by which member 3 is charged; nothing else stands against
  -- it
  without_71_charge : charges (voted (vote_for 3 at_r at_a ∷ vote_for 3 at_r at_b ∷ [])) ≡ charge 3 4 5 ∷ []
  without_71_charge_moved : charges (moved (voted (vote_for 3 at_r at_a ∷ vote_for 3 at_r at_b ∷ [])) at_a) ≡ []
  without_71_charge_alone :
      rows71and72 (voted (vote_for 3 at_r at_a ∷ vote_for 3 at_r at_b ∷ [])) at_a ≡ (false, true, false)
  -- Why 72, on another branch: member 3 voted R → E, and later votes A → C, with a target of the same height. By what
  -- the move to A would leave, the member is clear. (Row 72 is the last, so where it refuses nothing else does.)
  without_72_pair : conduct (after (voted (vote_for 3 at_r at_e ∷ [])) (reading (vote 3 "A" 1 "C" 2) ∷ [])) 3 ≡ broken 4 5
  without_72_pair_moved :
      conduct (after (moved (voted (vote_for 3 at_r at_e ∷ [])) at_a) (reading (vote 3 "A" 1 "C" 2) ∷ [])) 3 ≡ clear
  -- Why 72, over r: D is justified by the votes R → D, which the move to A would drop, and D would be plain.
  without_72_link : status over at_d ≡ Justified
  without_72_link_moved : status (moved over at_a) 2 ≡ Plain
  without_72_link_row : decide_move over at_a ≡ refused 72

pub move_cases : MoveCases
unfolding
    row and_then any any_below all_below pair_below picked first_index tabulate same_bytes be_of be_bytes field ascii flat_map
    start append append_all single member_at checkpoint_at vote_at member_index place_of id_held name_held vote_held child?
    reached? ancestor? conflict? kind_of size_of decode_as record_size decode decide decide_record decide_member
    decide_checkpoint link_between link_of cast vote_of room decide_vote heights_agree bond_out_of_range members_fixed bad_quorum
    decide_quorum given? quota_of permitted? decide_event after outcomes sum supports quorum carries link? justified_marks
    justified? sealed? final? status conflicting? breaks? conduct_from conduct insert_by_id by_id charge_of charges kept?
    kept_vote? moved bars_root uses_dropped risks_evidence dropped_higher drops_higher decide_move
    well_formed? counts? members? bonds? tree? steps? vote? votes?
    id_twice? name_twice? vote_twice?
move_cases =
    record {
      well_formed = refl;
      row_41 = refl;
      row_41_last = refl;
      row_41_alone = refl;
      row_41_alone_last = refl;
      row_70_plain = refl;
      row_70_justified = refl;
      row_70_not_justified = refl;
      row_70_final = refl;
      row_70_second_final = refl;
      row_70_highest = refl;
      row_70_too_high = refl;
      row_70_highest_root = refl;
      row_71_conflict = refl;
      row_71_no_conflict = refl;
      row_71_both = refl;
      row_71_both_of_first = refl;
      row_71_earlier = refl;
      row_71_later = refl;
      row_71_neither = refl;
      row_71_not_shown = refl;
      row_71_shown = refl;
      row_72_branch = refl;
      row_72_over = refl;
      row_72_into = refl;
      row_72_sibling = refl;
      row_72_kept = refl;
      row_72_later_branch = refl;
      row_72_later_over = refl;
      order_41 = refl;
      order_70 = refl;
      order_71 = refl;
      root_higher = refl;
      root-charged = refl;
      root-conflict = refl;
      root-same = refl;
      root-parent = refl;
      stays-told = refl;
      stays = refl;
      stays_twice = refl;
      stays_at_once = refl;
      stays_well_formed = refl;
      stays-refused = refl;
      standings-before = refl;
      standings-after = refl;
      pair-before = refl;
      pair-after = refl;
      pairs_before = refl;
      pairs_after = refl;
      row_10_raised = refl;
      row_10_first = refl;
      row_10_beside = refl;
      row_63_raised = refl;
      row_63_first = refl;
      row_63_beside = refl;
      highest_child = refl;
      highest_vote = refl;
      row_33_kept = refl;
      row_33_anew = refl;
      again_before = refl;
      again_after = refl;
      parent-before = refl;
      parent-after = refl;
      source-before = refl;
      source-after = refl;
      target-before = refl;
      target-after = refl;
      run-opening = refl;
      run-first = refl;
      run-between = refl;
      run-second = refl;
      run-closing = refl;
      run-told = refl;
      run-votes = refl;
      room_checkpoints_before = refl;
      room_checkpoints_after = refl;
      without_41 = refl;
      without_41_moved = refl;
      without_70 = refl;
      without_70_moved = refl;
      without_70_alone = refl;
      without_70_later = refl;
      without_70_clear = refl;
      without_70_fits = refl;
      without_70_bytes = refl;
      without_70_vote = refl;
      without_70_too_high = refl;
      without_70_too_high_bytes = refl;
      without_70_too_high_vote = refl;
      without_71_conflict = refl;
      without_71_conflict_moved = refl;
      without_71_conflict_alone = refl;
      without_71_charge = refl;
      without_71_charge_moved = refl;
      without_71_charge_alone = refl;
      without_72_pair = refl;
      without_72_pair_moved = refl;
      without_72_link = refl;
      without_72_link_moved = refl;
      without_72_link_row = refl;
    }
