-- A log fed in pieces, cut anywhere, gives the report of the whole log: the statement.
use Rattle.std.specs.Prelude.{ℕ, ◌≤◌, ◌<◌, ◌≡◌, ◌⊎◌, Bool, true, false, length, drop}
use mathlib.Core.List.{List, [], ◌∷◌, ◌++◌, flat_map}
use Rattle.model.specs.Bytes.{AreBytes}
use Rattle.model.specs.Report.{report}
use Rattle.state.specs.State.{model_of}
use Rattle.state.specs.declared.Witness.{Witness}
use Rattle.state.specs.Sound.{sound?}
use Rattle.feeding.specs.Feed.{Paused, wants, full, out_of_numbers, ended, refused_by, Feeding, paused_at}
use Rattle.feeding.specs.Feed.{line_room, record_room, last_number, open_call, feed_call, end_text, end_call}

-- a call of `open` or `feed`: the room in its buffer, and the bytes that were added to what the last call left
pub record Piece : Type 0 where
  pub room : ℕ
  pub bytes : List ℕ

-- after a call: what comes of the calls after it; where the report has ended, or the call was refused, there are none
unfoldable pub onward : {A : Type 0} → Paused → (none further : A) → A
onward wants none further = further
onward full none further = further
onward out_of_numbers none further = further
onward ended none further = none
onward (refused_by n) none further = none

-- a call paused for want of room, or of a record number
unfoldable pub in_want? : Paused → Bool
in_want? wants = false
in_want? full = true
in_want? out_of_numbers = true
in_want? ended = false
in_want? (refused_by n) = false

-- All that is written by calls of `feed` and then one of `close`, which has so much room: s is what the last call left.
unfoldable pub fed_text : ℕ → Witness → ℕ → List ℕ → List Piece → List ℕ
fed_text room w k s [] = (end_call room w k (length s)).text
fed_text room w k s (p ∷ ps) =
    let f = feed_call p.room w k (s ++ p.bytes) in
    f.text ++ onward f.paused [] (fed_text room f.witness f.records (drop f.passed (s ++ p.bytes)) ps)

-- why the last call of `feed` paused; `why` where there is none
unfoldable pub last_pause : Paused → Witness → ℕ → List ℕ → List Piece → Paused
last_pause why w k s [] = why
last_pause why w k s (p ∷ ps) =
    let f = feed_call p.room w k (s ++ p.bytes) in
    onward f.paused f.paused (last_pause f.paused f.witness f.records (drop f.passed (s ++ p.bytes)) ps)

-- why the call of `close` paused
unfoldable pub end_pause : ℕ → Witness → ℕ → List ℕ → List Piece → Paused
end_pause room w k s [] = (end_call room w k (length s)).paused
end_pause room w k s (p ∷ ps) =
    let f = feed_call p.room w k (s ++ p.bytes) in
    onward f.paused f.paused (end_pause room f.witness f.records (drop f.passed (s ++ p.bytes)) ps)

-- The report of a log: `open` on its first bytes, calls of `feed` on what that left and the pieces after it, and `close`.
module _ (room : ℕ) (w : Witness) (last : Bool) (first : Piece) (ps : List Piece) where
  abbrev pub opened : Feeding
  opened = open_call last first.room w first.bytes

  abbrev pub left : List ℕ
  left = drop opened.passed first.bytes

  abbrev pub report_text : List ℕ
  report_text = opened.text ++ onward opened.paused [] (fed_text room opened.witness opened.records left ps)

  -- Where the header is right there is a call of `feed`, and neither the last of them nor `close` paused for want of room or of a
  -- number.
  abbrev pub NoneInWant : Type 0
  NoneInWant =
      (in_want? (onward opened.paused opened.paused (last_pause full opened.witness opened.records left ps)) ≡ false)
      × (in_want? (onward opened.paused opened.paused (end_pause room opened.witness opened.records left ps)) ≡ false)

-- Any log, right or wrong, in pieces that are cut anywhere, each with any room but the first, which has room for a line; whatever
-- witness was handed in first. The first piece has the header, or is the log and said to be the last: a call of `open` that
-- wants more has read nothing, and is made again with more. Where no last call paused for want of room, or of a record number,
-- what is written is the report of the whole log.
abbrev pub InPieces : Type 0
InPieces =
    (log : List ℕ) → AreBytes log → (room : ℕ) (w : Witness) (last : Bool) (first : Piece) (ps : List Piece)
    → log ≡ first.bytes ++ flat_map (λ p. p.bytes) ps
    → (37 ≤ length first.bytes) ⊎ ((last ≡ true) × (flat_map (λ p. p.bytes) ps ≡ []))
    → line_room ≤ first.room → NoneInWant room w last first ps
    → report_text room w last first ps ≡ report log

-- A call of `open` on fewer bytes than a header's, where more may come, wants more and has done nothing: so a log may be cut in
-- its header too.
abbrev pub OpenWaits : Type 0
OpenWaits = (room : ℕ) (w : Witness) (log : List ℕ) → length log < 37 → open_call false room w log ≡ paused_at [] wants w 0

-- A call of `feed` with room for the lines of a record, and a number for it, does not pause for want of them before it
-- has passed a record.
abbrev pub FeedGoesOn : Type 0
FeedGoesOn =
    (room : ℕ) (w : Witness) (k : ℕ) (s : List ℕ) → record_room ≤ room → k < last_number
    → in_want? (feed_call room w k s).paused ≡ true → 0 < (feed_call room w k s).passed

-- A call of `close` with room for its text ends the report. No summary has more than 65,536 bytes (crate summary).
abbrev pub CloseEnds : Type 0
CloseEnds =
    (room : ℕ) (w : Witness) (k left : ℕ) → sound? w ≡ true → length (end_text (model_of w) k left) ≤ room
    → (end_call room w k left).paused ≡ ended
