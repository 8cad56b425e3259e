-- Cases, each computed, in four tables: those that document 01 marks ●, as the change requests word them now; those
-- that shut out plausible and wrong versions; for each row of "Why something is turned back" that the model decides, at
-- least one; and those of the board paper.
use Prim.Native.Nat.{ℕ}
use Prim.Native.String.{String}
use mathlib.Core.Path.{◌≡◌, refl}
use mathlib.Core.List.{List, [], ◌∷◌, ◌++◌, flat_map}
use mathlib.Core.Bool.{true, false, cond}
use lib.Dec.{ltb}
use lib.ListN.{length, take, replicate}
use Rattle.model.specs.Answer.{refused, answer, row, and_then}
use Rattle.model.specs.Buffer.{write_text, buffer_after}
use Rattle.model.specs.Bytes.{be_of, be_bytes, field, ascii}
use Rattle.model.specs.Checker.{check, check_from, entries, own_vote?}
use Rattle.model.specs.Change.{add_member, add_checkpoint, add_vote, append, append_all, single, nothing_left, taken}
use Rattle.model.specs.Decide.{decide, decide_record, decide_member, decide_checkpoint, link_between, link_of, cast, vote_of, room}
use Rattle.model.specs.Decide.{decide_vote, heights_agree, bond_out_of_range, members_fixed}
use Rattle.model.specs.Evidence.{our_list, charges, charge_of, conduct, conduct_from, broken?, violator?, by_id}
use Rattle.model.specs.Evidence.{insert_by_id, list_bytes, entry_bytes, bond_of}
use Rattle.model.specs.Finality.{justified_marks, justified?, sealed?, final?, status, status_at, conflicting?}
use Rattle.model.specs.Lists.{any, any_below, all_below, pair_below, first_index, same_bytes, tabulate, concat_below}
use Rattle.model.specs.Log.{header, kind_of, size_of, decode_as, record_size, record_length, decode}
use Rattle.model.specs.Model.{Model, Member, Checkpoint, Vote, start, member_at, checkpoint_at, vote_at, member_index}
use Rattle.model.specs.Model.{place_of, id_held, name_held, vote_held}
use Rattle.model.specs.Paper.{larger, best_below, best_support, left, right, row_text, checkpoint_row}
use Rattle.model.specs.Paper.{blank_row, row_at, heading, foot, page, pages, paper}
use Rattle.model.specs.Rule.{standard, quota_of, permitted?}
use Rattle.model.specs.Report.{report, report_body, report_run, summary, outcome_lines, outcome_line, stops?}
use Rattle.model.specs.Report.{refused_line, stopped_line, checkpoint_line, checkpoint_text, status_text, member_line}
use Rattle.model.specs.Report.{member_text, conduct_text, total_line, total_text, yes_no, decimal, digits, newline}
use Rattle.model.specs.Run.{after, decide_event, outcomes, readings}
use Rattle.model.specs.Slashing.{breaks?}
use Rattle.model.specs.Support.{count, sum, quorum, carries, support, support_at, supports, link?}
use Rattle.model.specs.Tree.{child?, reached?, ancestor?, conflict?}
use Rattle.model.specs.declared.Status.TheVariants.{Justified as JustifiedStatus}
use Rattle.model.specs.WellFormed.{well_formed?, counts?, members?, bonds?, tree?, steps?, vote?, votes?, id_twice?}
use Rattle.model.specs.WellFormed.{name_twice?, vote_twice?}

-- a name of one letter, repeated
abbrev pub name : String → List ℕ
name letter = flat_map (λ c. replicate 32 c) (ascii letter)

abbrev pub header_bytes : List ℕ
header_bytes = ascii "FFW" ++ be_bytes 2 1 ++ name "R"

abbrev pub member : ℕ → ℕ → List ℕ
member id bond = 1 ∷ be_bytes 2 id ++ be_bytes 8 bond

abbrev pub checkpoint : String → String → List ℕ
checkpoint own parent = 2 ∷ name own ++ name parent

abbrev pub vote : ℕ → String → ℕ → String → ℕ → List ℕ
vote id source source_height target target_height = 3 ∷ be_bytes 2 id ++ name source ++ name target ++ be_bytes 4 source_height ++ be_bytes 4 target_height

-- "members 1, 2, 3 with bond 1; A and B under the root, C under A, D under B; votes 1 and 2: root → A, then 1 and 2: A → C,
-- 2 and 3: root → B, 2 and 3: B → D; the last vote again"
abbrev records : List ℕ
records =
    member 1 1 ++ member 2 1 ++ member 3 1
    ++ checkpoint "A" "R"
    ++ checkpoint "B" "R"
    ++ checkpoint "C" "A"
    ++ checkpoint "D" "B"
    ++ vote 1 "R" 0 "A" 1
    ++ vote 2 "R" 0 "A" 1
    ++ vote 1 "A" 1 "C" 2
    ++ vote 2 "A" 1 "C" 2
    ++ vote 2 "R" 0 "B" 1
    ++ vote 3 "R" 0 "B" 1
    ++ vote 2 "B" 1 "D" 2
    ++ vote 3 "B" 1 "D" 2
    ++ vote 3 "B" 1 "D" 2

abbrev pub session : Model
session = after (start (name "R")) (readings (length records) records)

abbrev pub line : String → List ℕ
line s = ascii s ++ newline

abbrev pub node : String → ℕ → ℕ → Checkpoint
node s parent height = record { name = name s; parent = parent; height = height }

-- two votes of one member in a chain of checkpoints at places and heights 0 to 3
abbrev chain : List Checkpoint
chain = node "R" 0 0 ∷ node "A" 0 1 ∷ node "B" 1 2 ∷ node "C" 2 3 ∷ []

-- states that were handed in, not built by readings
abbrev pub held : List Member → List Checkpoint → List Vote → Model
held ms cs vs = record { rule = standard; members = ms; checkpoints = cs; votes = vs }

abbrev pub firm : ℕ → ℕ → Member
firm id bond = record { id = id; bond = bond }

abbrev along : ℕ → ℕ → Vote
along s t = record { voter = 1; source = s; target = t }

-- a table: a line for each case marked ●
pub record MarkedCases : Type 0 where
  session-report :
      report (header_bytes ++ records)
      ≡ line "refused 15 number 35"
      ++ line "checkpoint 0 height 0 final"
      ++ line "checkpoint 1 height 1 final"
      ++ line "checkpoint 2 height 1 final"
      ++ line "checkpoint 3 height 2 justified"
      ++ line "checkpoint 4 height 2 justified"
      ++ line "member 1 bond 1 clear"
      ++ line "member 2 bond 1 broken 1 4"
      ++ line "member 3 bond 1 clear"
      ++ line "total 3 named 1 conflict yes"
  session-list : our_list session ≡ 0x46 ∷ 0x46 ∷ 0x50 ∷ 0 ∷ 1 ∷ 0 ∷ 1 ∷ 0 ∷ 2 ∷ 0 ∷ 1 ∷ 0 ∷ 4 ∷ []
  session_list_passes : check session (our_list session) ≡ answer 1
  header-alone : report header_bytes ≡ line "checkpoint 0 height 0 final" ++ line "total 0 named 0 conflict no"
  two_of_three : quorum (quota_of standard) 2 3 ≡ true
  two_of_four : quorum (quota_of standard) 2 4 ≡ false
  three_of_four : quorum (quota_of standard) 3 4 ≡ true
  sixty_six_of_hundred : quorum (quota_of standard) 66 100 ≡ false
  sixty_seven_of_hundred : quorum (quota_of standard) 67 100 ≡ true
  surround : breaks? (held [] chain []) (along 0 3) (along 1 2) ≡ true
  same_source : breaks? (held [] chain []) (along 0 3) (along 0 2) ≡ false
  crossing : breaks? (held [] chain []) (along 1 3) (along 0 2) ≡ false
  following : breaks? (held [] chain []) (along 0 1) (along 1 2) ≡ false

-- ---- what shuts out plausible and wrong versions

abbrev pub three_members : List ℕ
three_members = member 1 1 ++ member 2 1 ++ member 3 1

-- three members whose ids and bonds differ, the ids in no order
abbrev unequal : List ℕ
unequal = member 300 10 ++ member 0 1000000000000 ++ member 65535 7

-- a chain R, A, B, C
abbrev line4 : List ℕ
line4 = checkpoint "A" "R" ++ checkpoint "B" "A" ++ checkpoint "C" "B"

-- a surrounding pair of member 300, and two votes of member 65535 for one target
abbrev evidence : List ℕ
evidence = unequal ++ line4 ++ vote 300 "R" 0 "C" 3 ++ vote 300 "A" 1 "B" 2 ++ vote 65535 "R" 0 "B" 2 ++ vote 65535 "A" 1 "B" 2

-- a list of charges: its count, then the fields of its entries
abbrev list : List ℕ → List ℕ
list fields = ascii "FFP" ++ be_bytes 2 1 ++ flat_map (be_bytes 2) fields

pub record WrongVersions : Type 0 where
  -- a vote whose source isn't justified yet counts once it is
  late-source :
      report (header_bytes ++ three_members ++ checkpoint "A" "R" ++ checkpoint "C" "A" ++ vote 1 "A" 1 "C" 2 ++ vote 2 "A" 1 "C" 2 ++ vote 1 "R" 0 "A" 1 ++ vote 2 "R" 0 "A" 1)
      ≡ line "checkpoint 0 height 0 final"
      ++ line "checkpoint 1 height 1 final"
      ++ line "checkpoint 2 height 2 justified"
      ++ line "member 1 bond 1 clear"
      ++ line "member 2 bond 1 clear"
      ++ line "member 3 bond 1 clear"
      ++ line "total 3 named 0 conflict no"
  -- a link to a grandchild justifies it and finalizes nothing; nor is a checkpoint final because its parent, the
  -- root, or a descendant is; a link to one of two children is enough
  grandchild :
      report
      (header_bytes ++ three_members ++ line4 ++ checkpoint "D" "C" ++ checkpoint "E" "C"
      ++ vote 1 "R" 0 "A" 1 ++ vote 2 "R" 0 "A" 1
      ++ vote 1 "A" 1 "C" 3 ++ vote 2 "A" 1 "C" 3
      ++ vote 1 "C" 3 "D" 4 ++ vote 2 "C" 3 "D" 4)
      ≡ line "checkpoint 0 height 0 final"
      ++ line "checkpoint 1 height 1 justified"
      ++ line "checkpoint 2 height 2 plain"
      ++ line "checkpoint 3 height 3 final"
      ++ line "checkpoint 4 height 4 justified"
      ++ line "checkpoint 5 height 4 plain"
      ++ line "member 1 bond 1 clear"
      ++ line "member 2 bond 1 clear"
      ++ line "member 3 bond 1 clear"
      ++ line "total 3 named 0 conflict no"
  -- no vote is turned away for the evidence that it gives; members by rising id; bonds, not members, are named
  evidence-kept : report (header_bytes ++ evidence ++ 9 ∷ []) ≡ line "stopped 4 record 10"
  evidence-shown :
      report (header_bytes ++ evidence)
      ≡ line "checkpoint 0 height 0 final"
      ++ line "checkpoint 1 height 1 plain"
      ++ line "checkpoint 2 height 2 plain"
      ++ line "checkpoint 3 height 3 plain"
      ++ line "member 0 bond 1000000000000 clear"
      ++ line "member 300 bond 10 broken 0 1"
      ++ line "member 65535 bond 7 broken 2 3"
      ++ line "total 1000000000017 named 17 conflict no"
  -- two votes from different sources for one target break the first condition
  one-target : breaks? (held [] chain []) (along 0 3) (along 1 3) ≡ true
  -- each supporter is counted once, with its bond
  supporters :
      support (after (start (name "R")) (readings 400 (unequal ++ line4 ++ vote 300 "R" 0 "A" 1 ++ vote 0 "R" 0 "A" 1))) 0 1
      ≡ record { number = 2; bonds = 1000000000010; yes? = true }
  -- at the log's end no record is left, and nothing is refused
  nothing_is_left : decide session [] ≡ record { told = answer nothing_left; changes = [] }
  -- the checker passes lists that are not ours
  empty_list : check session (list (0 ∷ [])) ≡ answer 0
  other-pair : check session (list (1 ∷ 2 ∷ 3 ∷ 6 ∷ [])) ≡ answer 1

-- ---- the rows of the table

-- Members 1 and 2; one checkpoint more than the first number; the second number of votes, all alike. No run reaches such
-- a model, in which a name and a vote stand many times: it only meets the limits.
abbrev pub filled : ℕ → ℕ → Model
filled checkpoints votes =
    record {
      rule = standard;
      members = record { id = 1; bond = 1 } ∷ record { id = 2; bond = 1 } ∷ [];
      checkpoints = replicate checkpoints (record { name = name "R"; parent = 0; height = 0 }) ++ record { name = name "A"; parent = 0; height = 1 } ∷ [];
      votes = replicate votes (record { voter = 2; source = 0; target = 1 });
    }

-- the root alone, and members with ids from 0 on
abbrev pub root_alone : ℕ → Model
root_alone members =
    record {
      rule = standard;
      members = tabulate members (λ i. record { id = i; bond = 1 });
      checkpoints = (start (name "R")).checkpoints;
      votes = [];
    }

-- Each row with its number where it applies, and where a later row would apply too.
pub record RowCases : Type 0 where
  row_1 : header [] ≡ refused 1
  row_1_short : header (take 36 header_bytes) ≡ refused 1
  row_1_report : report [] ≡ line "stopped 1 record 0"
  row_2 : header (ascii "FFX" ++ replicate 34 0) ≡ refused 2
  row_2_report : report (ascii "FFX" ++ replicate 34 0) ≡ line "stopped 2 record 0"
  row_3 : header (ascii "FFW" ++ be_bytes 2 2 ++ name "R") ≡ refused 3
  row_3_high : header (ascii "FFW" ++ be_bytes 2 257 ++ name "R") ≡ refused 3
  -- the refused lines stay, and nothing after the unknown kind is read
  row_4 : report (header_bytes ++ member 1 0 ++ 9 ∷ []) ≡ line "refused 0 number 11" ++ line "stopped 4 record 1"
  row_4_ends : report (header_bytes ++ member 1 1 ++ 9 ∷ member 1 0) ≡ line "stopped 4 record 1"
  row_4_zero : decide session (0 ∷ []) ≡ record { told = refused 4; changes = [] }
  row_4_six : decide session (6 ∷ replicate 100 0) ≡ single (refused 4)
  row_5 : report (header_bytes ++ 3 ∷ replicate 10 0) ≡ line "stopped 5 record 0"
  row_5_kind : decide session (1 ∷ []) ≡ single (refused 5)
  row_5_member : decide session (take 10 (member 9 1)) ≡ single (refused 5)
  row_5_checkpoint : decide session (take 64 (checkpoint "E" "A")) ≡ single (refused 5)
  row_5_vote : decide session (take 74 (vote 1 "R" 0 "C" 2)) ≡ single (refused 5)
  row_10 : decide session (member 1 0) ≡ single (refused 10)
  row_10_checkpoint : decide (filled 1 0) (member 9 1) ≡ single (refused 10)
  row_11 : decide (root_alone 2) (member 1 0) ≡ single (refused 11)
  row_11_above : decide (root_alone 0) (member 9 1000000000001) ≡ single (refused 11)
  row_11_limit : decide (root_alone 0) (member 9 1000000000000) ≡ single (answer (add_member (record { id = 9; bond = 1000000000000 })))
  row_12 : decide (root_alone 128) (member 1 1) ≡ single (refused 12)
  row_13 : decide (root_alone 128) (member 128 1) ≡ single (refused 13)
  row_13_room : decide (root_alone 127) (member 128 1) ≡ record { told = answer taken; changes = add_member (record { id = 128; bond = 1 }) ∷ [] }
  row_20 : decide session (checkpoint "R" "Z") ≡ single (refused 20)
  row_20_full : decide (filled 511 0) (checkpoint "A" "R") ≡ single (refused 20)
  row_21 : decide (filled 511 0) (checkpoint "Z" "Z") ≡ single (refused 21)
  row_22 : decide (filled 511 0) (checkpoint "B" "R") ≡ single (refused 22)
  row_22_room : decide (filled 510 0) (checkpoint "B" "R") ≡ single (answer (add_checkpoint (record { name = name "B"; parent = 0; height = 1 })))
  row_30 : decide session (vote 9 "Y" 7 "Z" 7) ≡ single (refused 30)
  row_31 : decide session (vote 1 "Y" 7 "Z" 7) ≡ single (refused 31)
  row_32 : decide session (vote 1 "R" 7 "Z" 7) ≡ single (refused 32)
  row_33 : decide session (vote 1 "R" 0 "R" 1) ≡ single (refused 33)
  row_33_source : decide session (vote 1 "R" 1 "A" 1) ≡ single (refused 33)
  row_34 : decide session (vote 1 "R" 0 "R" 0) ≡ single (refused 34)
  row_34_branch : decide session (vote 1 "A" 1 "D" 2) ≡ single (refused 34)
  row_35 : decide session (vote 3 "B" 1 "D" 2) ≡ single (refused 35)
  row_35_full : decide (filled 1 4096) (vote 2 "R" 0 "A" 1) ≡ single (refused 35)
  row_36 : decide (filled 1 4096) (vote 1 "R" 0 "A" 1) ≡ single (refused 36)
  row_36_room : decide (filled 1 4095) (vote 1 "R" 0 "A" 1) ≡ single (answer (add_vote (record { voter = 1; source = 0; target = 1 })))
  row_40 : well_formed? (root_alone 129) ≡ false
  row_40_room : well_formed? (root_alone 128) ≡ true
  row_40_session : well_formed? session ≡ true
  row_40_small : well_formed? (held (firm 1 1 ∷ []) chain (along 0 1 ∷ [])) ≡ true
  row_40_no_root : well_formed? (held [] [] []) ≡ false
  row_40_no_bond : well_formed? (held (firm 1 0 ∷ []) chain []) ≡ false
  row_40_bond_above : well_formed? (held (firm 1 1000000000001 ∷ []) chain []) ≡ false
  row_40_root_highest : well_formed? (held [] (node "R" 0 4294966784 ∷ node "A" 0 4294966785 ∷ []) []) ≡ true
  row_40_root_height : well_formed? (held [] (node "R" 0 4294966785 ∷ []) []) ≡ false
  row_40_parent : well_formed? (held [] (node "R" 0 0 ∷ node "A" 2 2 ∷ node "B" 0 1 ∷ []) []) ≡ false
  row_40_height : well_formed? (held [] (node "R" 0 0 ∷ node "A" 0 2 ∷ []) []) ≡ false
  row_40_stranger : well_formed? (held (firm 2 1 ∷ []) chain (along 0 1 ∷ [])) ≡ false
  row_40_place : well_formed? (held (firm 1 1 ∷ []) chain (along 0 4 ∷ [])) ≡ false
  row_40_no_ancestor : well_formed? (held (firm 1 1 ∷ []) chain (along 2 1 ∷ [])) ≡ false
  row_40_id_twice : well_formed? (held (firm 1 1 ∷ firm 1 2 ∷ []) chain []) ≡ false
  row_40_name_twice : well_formed? (held [] (node "R" 0 0 ∷ node "R" 0 1 ∷ []) []) ≡ false
  row_40_vote_twice : well_formed? (held (firm 1 1 ∷ []) chain (along 0 1 ∷ along 0 1 ∷ [])) ≡ false
  row_41 : status_at session 5 ≡ refused 41
  row_41_last : status_at session 4 ≡ answer JustifiedStatus
  row_41_source : support_at session 5 1 ≡ refused 41
  row_41_target : support_at session 0 5 ≡ refused 41
  row_50 : check session (take 6 (our_list session)) ≡ refused 50
  row_50_first : check session (ascii "FFW" ++ be_bytes 2 0 ++ be_bytes 2 1) ≡ refused 50
  row_50_more : check session (our_list session ++ 0 ∷ []) ≡ refused 50
  row_51 : check session (ascii "FFW" ++ be_bytes 2 0 ++ be_bytes 2 0) ≡ refused 51
  row_52 : check session (ascii "FFP" ++ be_bytes 2 0 ++ be_bytes 2 0) ≡ refused 52
  row_53 : check session (list (2 ∷ 2 ∷ 1 ∷ 4 ∷ 2 ∷ 9 ∷ 9 ∷ [])) ≡ refused 53
  row_54 : check session (list (1 ∷ 9 ∷ 9 ∷ 9 ∷ [])) ≡ refused 54
  row_55 : check session (list (1 ∷ 2 ∷ 4096 ∷ 1 ∷ [])) ≡ refused 55
  row_55_other : check session (list (1 ∷ 2 ∷ 5 ∷ 4 ∷ [])) ≡ refused 55
  row_56 : check session (list (1 ∷ 2 ∷ 4 ∷ 4 ∷ [])) ≡ refused 56
  row_57 : check session (list (1 ∷ 1 ∷ 0 ∷ 2 ∷ [])) ≡ refused 57
  row_60 : write_text (our_list session) (replicate 12 0) ≡ refused 60
  row_60_unwritten : buffer_after (our_list session) (9 ∷ 8 ∷ 7 ∷ []) (refused 60) ≡ 9 ∷ 8 ∷ 7 ∷ []
  row_60_written : buffer_after (1 ∷ 2 ∷ []) (9 ∷ 8 ∷ 7 ∷ 6 ∷ []) (answer 2) ≡ 1 ∷ 2 ∷ 7 ∷ 6 ∷ []
  row_60_room : write_text (our_list session) (replicate 13 0) ≡ answer 13

-- ---- the board paper

-- 1 and 2 have a bond of 1, and 3 has as much as both
abbrev two_and_one : List ℕ → Model
two_and_one votes =
    let records = member 1 1 ++ member 2 1 ++ member 3 2 ++ line4 ++ vote 1 "R" 0 "A" 1 ++ vote 3 "R" 0 "A" 1 ++
    votes in
    after (start (name "R")) (readings (length records) records)

pub record PaperCases : Type 0 where
  session-paper :
      paper session
      ≡ line "page 1                                                          "
      ++ line "    0           0  final             0                         0"
      ++ line "    1           1  final             2                         2"
      ++ line "    2           1  final             2                         2"
      ++ line "    3           2  justified         2                         2"
      ++ line "    4           2  justified         2                         2"
      ++ concat_below 43 (λ i. line "                                                                ")
      ++ line "----------------------------------------------------------------"
  -- a source that isn't justified is passed over, however much stands behind it; a link without a quorum is shown; the
  -- link need not come from the parent
  justified-source :
      row_at (after (start (name "R")) (readings 500 (unequal ++ line4 ++ vote 300 "R" 0 "B" 2 ++ vote 0 "A" 1 "B" 2))) 2
      ≡ line "    2           2  plain             1                        10"
  -- among equal bonds the source at the lowest place, whoever is behind it; a larger bond at a later place
  lowest-source :
      best_support (two_and_one (vote 1 "R" 0 "C" 3 ++ vote 2 "R" 0 "C" 3 ++ vote 3 "A" 1 "C" 3)) 3
      ≡ record { number = 2; bonds = 2; yes? = false }
  lowest_source_swapped :
      best_support (two_and_one (vote 3 "R" 0 "C" 3 ++ vote 1 "A" 1 "C" 3 ++ vote 2 "A" 1 "C" 3)) 3
      ≡ record { number = 1; bonds = 2; yes? = false }
  largest_bond :
      row_at (two_and_one (vote 1 "R" 0 "C" 3 ++ vote 2 "A" 1 "C" 3 ++ vote 3 "A" 1 "C" 3)) 3
      ≡ line "    3           3  justified         2                         3"
  -- the largest numbers
  full-row :
      row_text 65535 4294967295 JustifiedStatus 128 128000000000000
      ≡ line "65535  4294967295  justified       128           128000000000000"
  -- a buffer that has just enough room, and one byte less
  paper-fits : write_text (paper session) (replicate 3250 0) ≡ answer 3250
  paper_too_long : write_text (paper session) (replicate 3249 0) ≡ refused 60
  -- 48 checkpoints (`filled` has one more than its first number) fill a page, and the 49th begins the second, whose
  -- missing rows are blanks; the decimal place stands in for a row, whose text takes long to compute
  one-page : pages (filled 47 0) ≡ 1
  two-pages : pages (filled 48 0) ≡ 2
  second-page :
      page (λ p. cond (ltb p 49) (decimal p) (row_at (filled 48 0) p)) 1
      ≡ line "page 2                                                          "
      ++ decimal 48
      ++ concat_below 47 (λ i. line "                                                                ")
      ++ line "----------------------------------------------------------------"
  eleventh_heading : heading 11 ≡ line "page 11                                                         "

pub cases : MarkedCases × WrongVersions × RowCases × PaperCases
unfolding
    row any any_below all_below pair_below first_index tabulate concat_below same_bytes be_of be_bytes field ascii start append
    append_all single member_at checkpoint_at vote_at member_index place_of vote_held
    child? reached? ancestor? conflict? header kind_of size_of decode_as record_size record_length decode decide decide_record
    decide_member decide_checkpoint link_between link_of cast vote_of room decide_vote and_then heights_agree bond_out_of_range
    members_fixed id_held name_held decide_event after outcomes readings count sum supports quota_of quorum carries support
    support_at permitted?
    link? justified_marks justified? sealed? final? status status_at write_text buffer_after conflicting?
    breaks? conduct_from conduct broken? violator? insert_by_id by_id digits decimal newline status_text checkpoint_text
    checkpoint_line
    conduct_text member_text member_line yes_no total_text total_line summary stops? stopped_line refused_line outcome_line
    outcome_lines report_run report_body report flat_map
    entries own_vote? check_from check charge_of charges list_bytes entry_bytes our_list bond_of well_formed? counts? members?
    bonds? tree? steps? vote? votes? id_twice? name_twice? vote_twice?
    larger best_below best_support left right row_text checkpoint_row blank_row row_at heading foot page paper
cases = (
  record {
    session-report = refl;
    session-list = refl;
    session_list_passes = refl;
    header-alone = refl;
    two_of_three = refl;
    two_of_four = refl;
    three_of_four = refl;
    sixty_six_of_hundred = refl;
    sixty_seven_of_hundred = refl;
    surround = refl;
    same_source = refl;
    crossing = refl;
    following = refl;
  },
  record {
    late-source = refl;
    grandchild = refl;
    evidence-kept = refl;
    evidence-shown = refl;
    one-target = refl;
    supporters = refl;
    nothing_is_left = refl;
    empty_list = refl;
    other-pair = refl;
  },
  record {
    row_1 = refl;
    row_1_short = refl;
    row_1_report = refl;
    row_2 = refl;
    row_2_report = refl;
    row_3 = refl;
    row_3_high = refl;
    row_4 = refl;
    row_4_ends = refl;
    row_4_zero = refl;
    row_4_six = refl;
    row_5 = refl;
    row_5_kind = refl;
    row_5_member = refl;
    row_5_checkpoint = refl;
    row_5_vote = refl;
    row_10 = refl;
    row_10_checkpoint = refl;
    row_11 = refl;
    row_11_above = refl;
    row_11_limit = refl;
    row_12 = refl;
    row_13 = refl;
    row_13_room = refl;
    row_20 = refl;
    row_20_full = refl;
    row_21 = refl;
    row_22 = refl;
    row_22_room = refl;
    row_30 = refl;
    row_31 = refl;
    row_32 = refl;
    row_33 = refl;
    row_33_source = refl;
    row_34 = refl;
    row_34_branch = refl;
    row_35 = refl;
    row_35_full = refl;
    row_36 = refl;
    row_36_room = refl;
    row_40 = refl;
    row_40_room = refl;
    row_40_session = refl;
    row_40_small = refl;
    row_40_no_root = refl;
    row_40_no_bond = refl;
    row_40_bond_above = refl;
    row_40_root_highest = refl;
    row_40_root_height = refl;
    row_40_parent = refl;
    row_40_height = refl;
    row_40_stranger = refl;
    row_40_place = refl;
    row_40_no_ancestor = refl;
    row_40_id_twice = refl;
    row_40_name_twice = refl;
    row_40_vote_twice = refl;
    row_41 = refl;
    row_41_last = refl;
    row_41_source = refl;
    row_41_target = refl;
    row_50 = refl;
    row_50_first = refl;
    row_50_more = refl;
    row_51 = refl;
    row_52 = refl;
    row_53 = refl;
    row_54 = refl;
    row_55 = refl;
    row_55_other = refl;
    row_56 = refl;
    row_57 = refl;
    row_60 = refl;
    row_60_unwritten = refl;
    row_60_written = refl;
    row_60_room = refl;
  },
  record {
    session-paper = refl;
    justified-source = refl;
    lowest-source = refl;
    lowest_source_swapped = refl;
    largest_bond = refl;
    full-row = refl;
    paper-fits = refl;
    paper_too_long = refl;
    one-page = refl;
    two-pages = refl;
    second-page = refl;
    eleventh_heading = refl;
  },
)
