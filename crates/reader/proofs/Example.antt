-- Reading on, computed: two members, a third whose id is held, a bundle of two votes for names that aren't held, and a cut
-- record.
use Prim.Native.Nat.{ℕ}
use mathlib.Core.Path.{◌≡◌, refl}
use mathlib.Core.List.{List, [], ◌∷◌, ◌++◌, flat_map}
use lib.ListN.{take, replicate}
use Rattle.model.specs.Answer.{Answer, refused, answer, row, and_then, row_of}
use Rattle.model.specs.Bits.{bit_set, set_places}
use Rattle.model.specs.Bytes.{field, be_of}
use Rattle.model.specs.Change.{Told, taken, bundled, single, append_all, one_vote, together, whole}
use Rattle.model.specs.Decide.{members_fixed, bond_out_of_range, decide_member, decide_record, decide, link_of, vote_of, decide_vote, decide_each}
use Rattle.model.specs.Decide.{bundle_ids, bit_without_member, no_bit_set, decide_bundle}
use Rattle.model.specs.Lists.{any, first_index, tabulate, same_bytes, concat_below}
use Rattle.model.specs.Log.{kind_of, size_of, decode_as, record_size, record_length, decode}
use Rattle.model.specs.Model.{member_index, id_held, name_held, member_at, checkpoint_at, place_of}
use Rattle.state.specs.Reading.{many_votes, brief, rows_of_votes, padded}
use Rattle.state.specs.State.{empty_witness, model_of, with_member, store, store_all}
use Rattle.entries.specs.Entries.{rows_of, marked, entries, last_rows}
use Rattle.reader.specs.Many.{spent, ended_by, Many, read_many}

abbrev log : List ℕ
log =
    1 ∷ 0 ∷ 7 ∷ 0 ∷ 0 ∷ 0 ∷ 0 ∷ 0 ∷ 0 ∷ 0 ∷ 5
    ∷ 1 ∷ 0 ∷ 8 ∷ 0 ∷ 0 ∷ 0 ∷ 0 ∷ 0 ∷ 0 ∷ 0 ∷ 6
    ∷ 1 ∷ 0 ∷ 7 ∷ 0 ∷ 0 ∷ 0 ∷ 0 ∷ 0 ∷ 0 ∷ 0 ∷ 9
    ∷ 5 ∷ 3 ∷ replicate 15 0 ++ replicate 72 1
    ++ 1 ∷ []

-- at most n records, with room for so many entries, into a witness with the root alone
abbrev many : (n room : ℕ) → Many
many n room = read_many n room (empty_witness (replicate 32 0)) log 0

record Examples : Type 0 where
  -- the third record is refused by row 12 and passed, each vote of the bundle by row 31, and the cut one ends the reading
  passed :
      (many 9 200).passed
      ≡ answer taken ∷ answer taken ∷ refused 12 ∷ answer (bundled (refused 31 ∷ refused 31 ∷ [])) ∷ []
  ended : (many 9 200).end ≡ ended_by (refused 5)
  next : (many 9 200).next ≡ 122
  -- the entries: the second vote's has 128 added
  told : entries (many 9 200).passed ≡ 0 ∷ 0 ∷ 12 ∷ 31 ∷ 159 ∷ []
  -- the limit ends it
  limited : (many 1 200).end ≡ spent
  limited-next : (many 1 200).next ≡ 11
  -- and so does room for fewer entries than a bundle can have
  no_room : (many 9 130).end ≡ spent
  no_room_next : (many 9 130).next ≡ 33

examples : Examples
unfolding
    row field be_of members_fixed bond_out_of_range id_held decide_member decide_record decide first_index tabulate kind_of size_of
    decode_as record_size record_length decode member_index single empty_witness model_of with_member store store_all read_many
    and_then bit_set set_places one_vote together whole link_of vote_of decide_vote decide_each bundle_ids bit_without_member
    no_bit_set decide_bundle any same_bytes name_held member_at checkpoint_at place_of brief row_of rows_of marked flat_map concat_below
    append_all
examples =
    record {
      passed = refl;
      ended = refl;
      next = refl;
      told = refl;
      limited = refl;
      limited-next = refl;
      no_room = refl;
      no_room_next = refl;
    }

-- a bundle whose second vote is refused, as it is handed back: how many votes, and the row of each in its place; and
-- without the 128 from the entries
abbrev second : Answer Told
second = answer (bundled (answer tt ∷ refused 31 ∷ []))

handed_back : (brief second ≡ answer (many_votes 2)) × (take 3 (padded (rows_of_votes second)) ≡ 0 ∷ 31 ∷ 0 ∷ []) × (last_rows 2 3 (entries (refused 12 ∷ second ∷ [])) ≡ 0 ∷ 31 ∷ [])
unfolding brief rows_of_votes row_of rows_of marked flat_map
handed_back = (refl, refl, refl)
