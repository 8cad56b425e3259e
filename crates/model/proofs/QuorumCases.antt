-- The rule for a quorum, each case computed: bars met and missed, by the standard rule and by given ones; what is named
-- where two finals conflict; rows 63, 64 and 40, each on both sides.
use Prim.Native.Nat.{ℕ}
use mathlib.Core.Path.{◌≡◌, refl}
use mathlib.Core.List.{List, [], ◌∷◌, ◌++◌, flat_map}
use mathlib.Core.Bool.{Bool, true, false}
use lib.ListN.{length, take}
use Rattle.model.specs.Answer.{Answer, refused, answer, row, and_then}
use Rattle.model.specs.Bytes.{be_of, be_bytes, field, ascii}
use Rattle.model.specs.Checker.{check, check_from, entries, own_vote?}
use Rattle.model.specs.Change.{add_member, give_quota, append, append_all, single, Decision}
use Rattle.model.specs.Decide.{decide, decide_record, decide_member, decide_checkpoint, link_between, link_of, cast}
use Rattle.model.specs.Decide.{vote_of, room}
use Rattle.model.specs.Decide.{decide_vote, heights_agree, bond_out_of_range, members_fixed, bad_quorum, decide_quorum}
use Rattle.model.specs.Evidence.{our_list, charges, charge_of, conduct, conduct_from, broken?, violator?, by_id}
use Rattle.model.specs.Evidence.{insert_by_id, list_bytes, entry_bytes, bond_of}
use Rattle.model.specs.Finality.{justified_marks, justified?, sealed?, final?, status, status_at, conflicting?}
use Rattle.model.specs.Lists.{any, any_below, all_below, pair_below, first_index, same_bytes, tabulate, concat_below}
use Rattle.model.specs.Log.{header, kind_of, size_of, decode_as, record_size, record_length, decode}
use Rattle.model.specs.Model.{Model, start, with_rule, with_votes, member_at, checkpoint_at, vote_at, member_index}
use Rattle.model.specs.Model.{place_of}
use Rattle.model.specs.Model.{id_held, name_held, vote_for, vote_held}
use Rattle.model.specs.Rule.{standard, given, given?, quota_of, permitted?}
use Rattle.model.specs.declared.Quota.{Quota}
use Rattle.model.specs.Report.{report, report_body, report_run, summary, outcome_lines, outcome_line, stops?}
use Rattle.model.specs.Report.{refused_line, stopped_line, checkpoint_line, checkpoint_text, status_text, member_line}
use Rattle.model.specs.Report.{member_text, conduct_text, total_line, total_text, yes_no, decimal, digits, newline}
use Rattle.model.specs.Run.{after, decide_event, outcomes, readings}
use Rattle.model.specs.Slashing.{breaks?}
use Rattle.model.specs.Support.{Support, count, sum, quorum, carries, support, support_at, supports, link?}
use Rattle.model.specs.Tree.{child?, reached?, ancestor?, conflict?}
use Rattle.model.specs.declared.Status.TheVariants.{Plain, Justified}
use Rattle.model.specs.WellFormed.{well_formed?, counts?, members?, bonds?, tree?, steps?, vote?, votes?, id_twice?}
use Rattle.model.specs.WellFormed.{name_twice?, vote_twice?}
use Rattle.model.proofs.Cases.{name, header_bytes, member, checkpoint, vote, session, line, three_members}
use Rattle.model.proofs.Cases.{filled, root_alone}

abbrev of : ℕ → ℕ → Quota
of p q = record { p = p; q = q }

-- a quorum's record
abbrev giving : ℕ → ℕ → List ℕ
giving p q = 4 ∷ be_bytes 2 p ++ be_bytes 2 q

-- it is taken
abbrev takes : ℕ → ℕ → Decision
takes p q = single (answer (give_quota (of p q)))

abbrev read : List ℕ → Model
read records = after (start (name "R")) (readings (length records) records)

-- members 1, 2 and 3 with bond 1, after the records of the rule; the votes root → A of these members
abbrev voted : List ℕ → List ℕ → Model
voted rule ids = read (rule ++ three_members ++ checkpoint "A" "R" ++ flat_map (λ id. vote id "R" 0 "A" 1) ids)

-- after these records some members vote A final, and some B, which excludes it
abbrev forked_by : List ℕ → List ℕ → List ℕ → Model
forked_by records left right =
    read
    (records
    ++ checkpoint "A" "R" ++ checkpoint "B" "R" ++ checkpoint "C" "A" ++ checkpoint "D" "B"
    ++ flat_map (λ id. vote id "R" 0 "A" 1 ++ vote id "A" 1 "C" 2) left
    ++ flat_map (λ id. vote id "R" 0 "B" 1 ++ vote id "B" 1 "D" 2) right)

-- members 1, 2 and 3 with these bonds; 1 and 2 are behind A, 2 and 3 behind B
abbrev forked : List ℕ → ℕ → ℕ → ℕ → Model
forked rule one two three =
    forked_by (rule ++ member 1 one ++ member 2 two ++ member 3 three) (1 ∷ 2 ∷ []) (2 ∷ 3 ∷ [])

-- the conflict answer, and what the checker makes of our list
abbrev judged : Model → Bool × Answer ℕ
judged m = (conflicting? m, check m (our_list m))

-- a backing
abbrev by : ℕ → ℕ → Bool → Answer Support
by number bonds enough = answer (record { number = number; bonds = bonds; yes? = enough })

-- the model with a vote too: where the root is the only checkpoint, which no run leaves so, the vote alone fixes members
abbrev votes_alone : Model → Model
votes_alone m = with_votes m (vote_for 0 0 0 ∷ [])

pub record QuorumCases : Type 0 where
  standard-quota : quota_of standard ≡ of 2 3
  -- each bar met, and missed by one: three quarters, three fifths, all, and 501 of 1,000
  three_quarters : quorum (of 3 4) 75 100 ≡ true
  below_three_quarters : quorum (of 3 4) 74 100 ≡ false
  three_fifths : quorum (of 3 5) 60 100 ≡ true
  below_three_fifths : quorum (of 3 5) 59 100 ≡ false
  all : quorum (of 1 1) 100 100 ≡ true
  all_but_one : quorum (of 1 1) 99 100 ≡ false
  just_most : quorum (of 501 1000) 501 1000 ≡ true
  half : quorum (of 501 1000) 500 1000 ≡ false
  -- the same quota in other numbers, and the largest sums there are
  six_eighths : quorum (of 6 8) 75 100 ≡ true
  largest_sums : quorum (of 1000 1000) 128000000000000 128000000000000 ≡ true
  largest_sums_less_one : quorum (of 1000 1000) 127999999999999 128000000000000 ≡ false
  no-bond : quorum (of 1 1) 0 0 ≡ false
  -- what votes for A come to by the rule of the log, of three members with bond 1
  two_by_the_standard : support_at (voted [] (1 ∷ 2 ∷ [])) 0 1 ≡ by 2 2 true
  two_by_three_quarters : support_at (voted (giving 3 4) (1 ∷ 2 ∷ [])) 0 1 ≡ by 2 2 false
  three_by_three_quarters : support_at (voted (giving 3 4) (1 ∷ 2 ∷ 3 ∷ [])) 0 1 ≡ by 3 3 true
  two_by_three_fifths : support_at (voted (giving 3 5) (1 ∷ 2 ∷ [])) 0 1 ≡ by 2 2 true
  one_by_three_fifths : support_at (voted (giving 3 5) (1 ∷ [])) 0 1 ≡ by 1 1 false
  two_by_all : status_at (voted (giving 7 7) (1 ∷ 2 ∷ [])) 1 ≡ answer Plain
  three_by_all : status_at (voted (giving 7 7) (1 ∷ 2 ∷ 3 ∷ [])) 1 ≡ answer Justified
  -- two conflicting finals, and what is named: (2p - q) of q parts and no bond more; beside them, bonds of which one
  -- pair of members or both are no quorum
  forked_by_the_standard : judged (forked [] 1 1 1) ≡ (true, answer 1)
  forked_by_three_quarters : judged (forked (giving 3 4) 1 2 1) ≡ (true, answer 2)
  not_forked_by_three_quarters : judged (forked (giving 3 4) 1 1 1) ≡ (false, answer 1)
  forked_by_three_fifths : judged (forked (giving 3 5) 2 1 2) ≡ (true, answer 1)
  not_forked_by_three_fifths : judged (forked (giving 3 5) 3 1 3) ≡ (false, answer 1)
  forked_by_just_most : judged (forked (giving 501 1000) 499 2 499) ≡ (true, answer 2)
  not_forked_by_just_most : judged (forked (giving 501 1000) 499 1 500) ≡ (false, answer 1)
  forked_by_all : judged (forked_by (giving 1 1 ++ three_members) (1 ∷ 2 ∷ 3 ∷ []) (3 ∷ 2 ∷ 1 ∷ [])) ≡ (true, answer 3)
  not_forked_by_all : judged (forked (giving 1 1) 1 1000000000000 1) ≡ (false, answer 1000000000000)
  -- a log with the record: its report
  quorum-report :
      report (header_bytes ++ three_members ++ giving 3 4 ++ giving 2 3 ++ checkpoint "A" "R" ++ vote 1 "R" 0 "A" 1
      ++ vote 2 "R" 0 "A" 1 ++ giving 2 3)
      ≡ line "refused 4 number 64"
      ++ line "refused 8 number 63"
      ++ line "checkpoint 0 height 0 final"
      ++ line "checkpoint 1 height 1 plain"
      ++ line "member 1 bond 1 clear"
      ++ line "member 2 bond 1 clear"
      ++ line "member 3 bond 1 clear"
      ++ line "total 3 named 0 conflict no"
  -- row 5: a quorum has 5 bytes
  row_5_quorum : decide (root_alone 0) (take 4 (giving 2 3)) ≡ single (refused 5)
  row_5_quorum_kind : decide (root_alone 0) (4 ∷ []) ≡ single (refused 5)
  quorum-passed : record_length (giving 2 3 ++ 1 ∷ []) ≡ 5
  -- row 63 by what fixes the members, and not by how many there are; before row 64
  row_63 : decide session (giving 3 4) ≡ single (refused 63)
  row_63_checkpoint : decide (filled 1 0) (giving 3 4) ≡ single (refused 63)
  row_63_vote : decide (votes_alone (root_alone 1)) (giving 3 4) ≡ single (refused 63)
  row_63_first : decide session (giving 1 2) ≡ single (refused 63)
  row_63_members : decide (root_alone 128) (giving 3 4) ≡ takes 3 4
  row_63_no_member : decide (root_alone 0) (giving 3 4) ≡ takes 3 4
  -- row 64, and what stands beside it
  row_64_above : decide (root_alone 1) (giving 4 3) ≡ single (refused 64)
  row_64_all : decide (root_alone 1) (giving 3 3) ≡ takes 3 3
  row_64_half : decide (root_alone 1) (giving 2 4) ≡ single (refused 64)
  row_64_below_half : decide (root_alone 1) (giving 1 3) ≡ single (refused 64)
  row_64_above_half : decide (root_alone 1) (giving 3 5) ≡ takes 3 5
  row_64_nothing : decide (root_alone 1) (giving 0 0) ≡ single (refused 64)
  row_64_of_nothing : decide (root_alone 1) (giving 1 0) ≡ single (refused 64)
  row_64_no_part : decide (root_alone 1) (giving 0 1) ≡ single (refused 64)
  row_64_many_parts : decide (root_alone 1) (giving 1001 1001) ≡ single (refused 64)
  row_64_most_parts : decide (root_alone 1) (giving 1000 1000) ≡ takes 1000 1000
  row_64_half_of_most : decide (root_alone 1) (giving 500 1000) ≡ single (refused 64)
  row_64_just_most : decide (root_alone 1) (giving 501 1000) ≡ takes 501 1000
  row_64_low_bytes : decide (root_alone 1) (giving 258 259) ≡ takes 258 259
  row_64_given : decide (with_rule (root_alone 1) (given (of 3 4))) (giving 3 5) ≡ single (refused 64)
  row_64_given_the_standard : decide (with_rule (root_alone 1) (given (of 2 3))) (giving 2 3) ≡ single (refused 64)
  row_64_the_standard : decide (root_alone 1) (giving 2 3) ≡ takes 2 3
  -- a quorum that is refused is not given, and one that is taken fixes no members
  refused_then_taken : (after (start (name "R")) (readings 9 (giving 1 2 ++ giving 3 4))).rule ≡ given (of 3 4)
  taken_then_refused : (after (start (name "R")) (readings 9 (giving 3 4 ++ giving 3 5))).rule ≡ given (of 3 4)
  member-after :
      decide (with_rule (root_alone 0) (given (of 3 4))) (member 9 1)
      ≡ single (answer (add_member (record { id = 9; bond = 1 })))
  -- row 40: what is held is permitted
  row_40_given : well_formed? (with_rule session (given (of 501 1000))) ≡ true
  row_40_above : well_formed? (with_rule session (given (of 4 3))) ≡ false
  row_40_half : well_formed? (with_rule session (given (of 2 4))) ≡ false
  row_40_nothing : well_formed? (with_rule session (given (of 0 0))) ≡ false
  row_40_of_nothing : well_formed? (with_rule session (given (of 1 0))) ≡ false
  row_40_many_parts : well_formed? (with_rule session (given (of 1001 1001))) ≡ false

pub quorum-cases : QuorumCases
unfolding
    row any any_below all_below pair_below first_index tabulate concat_below same_bytes be_of be_bytes field ascii start append
    append_all single member_at checkpoint_at vote_at member_index place_of vote_held
    child? reached? ancestor? conflict? header kind_of size_of decode_as record_size record_length decode decide decide_record
    decide_member decide_checkpoint link_between link_of cast vote_of room decide_vote and_then heights_agree bond_out_of_range
    members_fixed bad_quorum decide_quorum given? quota_of permitted? id_held name_held decide_event after outcomes readings
    count sum supports quorum carries support support_at link? justified_marks justified? sealed? final? status status_at
    conflicting? breaks? conduct_from conduct broken? violator? insert_by_id by_id digits decimal newline status_text
    checkpoint_text checkpoint_line conduct_text member_text member_line yes_no total_text total_line summary stops? stopped_line
    refused_line outcome_line outcome_lines report_run report_body report flat_map
    entries own_vote? check_from check charge_of charges list_bytes entry_bytes our_list bond_of well_formed? counts? members?
    bonds? tree? steps? vote? votes? id_twice? name_twice? vote_twice?
quorum-cases =
    record {
      standard-quota = refl;
      three_quarters = refl;
      below_three_quarters = refl;
      three_fifths = refl;
      below_three_fifths = refl;
      all = refl;
      all_but_one = refl;
      just_most = refl;
      half = refl;
      six_eighths = refl;
      largest_sums = refl;
      largest_sums_less_one = refl;
      no-bond = refl;
      two_by_the_standard = refl;
      two_by_three_quarters = refl;
      three_by_three_quarters = refl;
      two_by_three_fifths = refl;
      one_by_three_fifths = refl;
      two_by_all = refl;
      three_by_all = refl;
      forked_by_the_standard = refl;
      forked_by_three_quarters = refl;
      not_forked_by_three_quarters = refl;
      forked_by_three_fifths = refl;
      not_forked_by_three_fifths = refl;
      forked_by_just_most = refl;
      not_forked_by_just_most = refl;
      forked_by_all = refl;
      not_forked_by_all = refl;
      quorum-report = refl;
      row_5_quorum = refl;
      row_5_quorum_kind = refl;
      quorum-passed = refl;
      row_63 = refl;
      row_63_checkpoint = refl;
      row_63_vote = refl;
      row_63_first = refl;
      row_63_members = refl;
      row_63_no_member = refl;
      row_64_above = refl;
      row_64_all = refl;
      row_64_half = refl;
      row_64_below_half = refl;
      row_64_above_half = refl;
      row_64_nothing = refl;
      row_64_of_nothing = refl;
      row_64_no_part = refl;
      row_64_many_parts = refl;
      row_64_most_parts = refl;
      row_64_half_of_most = refl;
      row_64_just_most = refl;
      row_64_low_bytes = refl;
      row_64_given = refl;
      row_64_given_the_standard = refl;
      row_64_the_standard = refl;
      refused_then_taken = refl;
      taken_then_refused = refl;
      member-after = refl;
      row_40_given = refl;
      row_40_above = refl;
      row_40_half = refl;
      row_40_nothing = refl;
      row_40_of_nothing = refl;
      row_40_many_parts = refl;
    }
