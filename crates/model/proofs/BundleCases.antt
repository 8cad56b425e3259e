-- Bundles, each case computed: which bits are set, and of which members; rows 61 and 62; votes of a bundle that are taken
-- beside others that are refused; the lines of the report; and the single votes' records that the statement of
-- specs/Bundle.antt speaks of.
use Prim.Native.Nat.{ℕ, ◌-◌}
use Prim.Native.String.{String}
use mathlib.Core.Path.{◌≡◌, refl}
use mathlib.Core.List.{List, [], ◌∷◌, ◌++◌, flat_map}
use lib.ListN.{take, replicate}
use Rattle.model.specs.Answer.{refused, answer, row, and_then}
use Rattle.model.specs.Bits.{bit_set, set_places}
use Rattle.model.specs.Bundle.{vote_of_bundle, votes_of}
use Rattle.model.specs.Bytes.{be_of, be_bytes, field, ascii}
use Rattle.model.specs.Change.{add_vote, append, append_all, taken, bundled, single, one_vote, together, whole}
use Rattle.model.specs.Decide.{decide, decide_record, decide_member, decide_checkpoint, link_between, link_of, cast, vote_of, room}
use Rattle.model.specs.Decide.{decide_vote, decide_each, bundle_ids, bit_without_member, no_bit_set, decide_bundle, heights_agree}
use Rattle.model.specs.Decide.{bond_out_of_range, members_fixed}
use Rattle.model.specs.Lists.{any, first_index, same_bytes, tabulate, concat_below}
use Rattle.model.specs.Log.{kind_of, size_of, decode_as, record_size, record_length, decode}
use Rattle.model.specs.Model.{Model, start, member_at, checkpoint_at, member_index, place_of, id_held, name_held, vote_for, vote_held}
use Rattle.model.specs.Rule.{standard}
use Rattle.model.specs.Report.{outcome_lines, outcome_line, bundle_lines, stops?, refused_line, stopped_line, decimal, digits, newline}
use Rattle.model.specs.Run.{reading, after, decide_event, outcomes, readings}
use Rattle.model.specs.Tree.{child?, reached?, ancestor?}

abbrev name : String → List ℕ
name letter = flat_map (λ c. replicate 32 c) (ascii letter)

abbrev member : ℕ → List ℕ
member id = 1 ∷ be_bytes 2 id ++ be_bytes 8 1

abbrev checkpoint : String → String → List ℕ
checkpoint own parent = 2 ∷ name own ++ name parent

-- two names, and the heights given for them
abbrev link : String → ℕ → String → ℕ → List ℕ
link source source_height target target_height = name source ++ name target ++ be_bytes 4 source_height ++ be_bytes 4 target_height

abbrev vote : ℕ → List ℕ → List ℕ
vote id l = 3 ∷ be_bytes 2 id ++ l

-- member bits in the first two bytes and in the last
abbrev bits : ℕ → ℕ → ℕ → List ℕ
bits first second last = first ∷ second ∷ replicate 13 0 ++ last ∷ []

abbrev bundle : List ℕ → List ℕ → List ℕ
bundle b l = 5 ∷ b ++ l

-- from the root to its child
abbrev up : List ℕ
up = link "R" 0 "A" 1

-- nine members, whose ids fall as their places rise: 20 at place 0, 12 at place 8; A under the root; the vote root → A
-- of the member at place 2
abbrev nine : Model
nine =
    record {
      rule = standard;
      members = tabulate 9 (λ p. record { id = 20 - p; bond = 1 });
      checkpoints = record { name = name "R"; parent = 0; height = 0 } ∷ record { name = name "A"; parent = 0; height = 1 } ∷ [];
      votes = vote_for 18 0 1 ∷ [];
    }

-- three members, and room for one vote more; all the votes are alike, so no run reaches such a model
abbrev nearly_full : Model
nearly_full =
    record {
      rule = standard;
      members = tabulate 3 (λ p. record { id = 20 - p; bond = 1 });
      checkpoints = nine.checkpoints;
      votes = replicate 4095 (vote_for 20 0 1);
    }

-- a log, after its header: the second vote of the first bundle is refused, and all of the second's are
abbrev records : List ℕ
records =
    member 30 ++ member 20 ++ member 10
    ++ checkpoint "A" "R"
    ++ vote 20 up
    ++ bundle (bits 7 0 0) up
    ++ bundle (bits 6 0 0) up
    ++ bundle (bits 0 0 0) up
    ++ bundle (bits 8 0 0) up
    ++ vote 10 up

abbrev line : String → List ℕ
line s = ascii s ++ newline

pub record BundleCases : Type 0 where
  -- the lowest bit of the first byte is place 0, that of the second is place 8, the highest of the last is place 127
  lowest-bit : set_places (bits 1 0 0) ≡ 0 ∷ []
  places : set_places (bits 6 1 128) ≡ 1 ∷ 2 ∷ 8 ∷ 127 ∷ []
  no_place : set_places (bits 0 0 0) ≡ []
  -- a bit of each byte, and every bit
  one_in_each_byte :
      set_places (1 ∷ 2 ∷ 4 ∷ 8 ∷ 16 ∷ 32 ∷ 64 ∷ 128 ∷ 1 ∷ 2 ∷ 4 ∷ 8 ∷ 16 ∷ 32 ∷ 64 ∷ 128 ∷ [])
      ≡ 0 ∷ 9 ∷ 18 ∷ 27 ∷ 36 ∷ 45 ∷ 54 ∷ 63 ∷ 64 ∷ 73 ∷ 82 ∷ 91 ∷ 100 ∷ 109 ∷ 118 ∷ 127 ∷ []
  every_bit : set_places (replicate 16 255) ≡ tabulate 128 (λ p. p)
  -- the vote in the middle is held, and the one after it is taken; the members are found by their places
  middle_refused :
      decide nine (bundle (bits 5 1 0) up)
      ≡ record {
        told = answer (bundled (answer tt ∷ refused 35 ∷ answer tt ∷ []));
        changes = add_vote (vote_for 20 0 1) ∷ add_vote (vote_for 12 0 1) ∷ [];
      }
  -- the first vote leaves no room for the second
  no_room_left :
      decide nearly_full (bundle (bits 6 0 0) up)
      ≡ record { told = answer (bundled (answer tt ∷ refused 36 ∷ [])); changes = add_vote (vote_for 19 0 1) ∷ [] }
  -- a bundle whose votes are all refused is not refused whole
  all-refused : decide nine (bundle (bits 3 0 0) (link "Z" 0 "A" 1)) ≡ record { told = answer (bundled (refused 31 ∷ refused 31 ∷ [])); changes = [] }
  other-heights : decide nine (bundle (bits 1 0 0) (link "R" 1 "A" 0)) ≡ record { told = answer (bundled (refused 33 ∷ [])); changes = [] }
  -- rows 61 and 62, where the votes would be taken, and where each of them would be refused
  row_61 : decide nine (bundle (bits 1 2 0) up) ≡ single (refused 61)
  row_61_last : decide nine (bundle (bits 1 0 128) (link "Z" 7 "Y" 7)) ≡ single (refused 61)
  row_61_no_member : decide (start (name "R")) (bundle (bits 1 0 0) up) ≡ single (refused 61)
  row_62 : decide nine (bundle (bits 0 0 0) up) ≡ single (refused 62)
  row_62_link : decide nine (bundle (bits 0 0 0) (link "Z" 7 "Y" 7)) ≡ single (refused 62)
  row_62_no_member : decide (start (name "R")) (bundle (bits 0 0 0) up) ≡ single (refused 62)
  -- a bundle has 89 bytes
  row_5_bundle : decide nine (take 88 (bundle (bits 0 0 0) up)) ≡ single (refused 5)
  row_5_bundle_kind : decide nine (5 ∷ []) ≡ single (refused 5)
  bundle-passed : record_length (bundle (bits 0 0 0) up ++ 1 ∷ []) ≡ 89
  -- a log with bundles
  log-told :
      outcomes (start (name "R")) (readings 20 records)
      ≡ answer taken ∷ answer taken ∷ answer taken ∷ answer taken ∷ answer taken
      ∷ answer (bundled (answer tt ∷ refused 35 ∷ answer tt ∷ []))
      ∷ answer (bundled (refused 35 ∷ refused 35 ∷ []))
      ∷ refused 62 ∷ refused 61 ∷ refused 35 ∷ []
  log-votes : (after (start (name "R")) (readings 20 records)).votes ≡ vote_for 20 0 1 ∷ vote_for 30 0 1 ∷ vote_for 10 0 1 ∷ []
  log-lines :
      outcome_lines 0 (outcomes (start (name "R")) (readings 20 records))
      ≡ line "refused 5 number 35"
      ++ line "refused 6 number 35"
      ++ line "refused 6 number 35"
      ++ line "refused 7 number 62"
      ++ line "refused 8 number 61"
      ++ line "refused 9 number 35"
  -- the records of the single votes
  one_record : vote_of_bundle (bundle (bits 5 1 0) up) 300 ≡ vote 300 up
  records_of_votes :
      votes_of nine (bundle (bits 5 1 0) up)
      ≡ reading (vote 20 up) ∷ reading (vote 18 up) ∷ reading (vote 12 up) ∷ []

pub bundle-cases : BundleCases
unfolding
    row and_then any first_index same_bytes tabulate concat_below bit_set set_places vote_of_bundle votes_of be_of be_bytes field
    ascii append append_all single one_vote together whole decide decide_record decide_member decide_checkpoint link_between
    link_of cast vote_of room decide_vote decide_each bundle_ids bit_without_member no_bit_set decide_bundle heights_agree
    bond_out_of_range members_fixed kind_of size_of decode_as record_size record_length decode start member_at checkpoint_at
    member_index place_of id_held name_held vote_held outcome_lines outcome_line bundle_lines stops? refused_line stopped_line
    decimal digits newline after decide_event outcomes readings child? reached? ancestor? flat_map
bundle-cases =
    record {
      lowest-bit = refl;
      places = refl;
      no_place = refl;
      one_in_each_byte = refl;
      every_bit = refl;
      middle_refused = refl;
      no_room_left = refl;
      all-refused = refl;
      other-heights = refl;
      row_61 = refl;
      row_61_last = refl;
      row_61_no_member = refl;
      row_62 = refl;
      row_62_link = refl;
      row_62_no_member = refl;
      row_5_bundle = refl;
      row_5_bundle_kind = refl;
      bundle-passed = refl;
      log-told = refl;
      log-votes = refl;
      log-lines = refl;
      one_record = refl;
      records_of_votes = refl;
    }
