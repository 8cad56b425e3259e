-- Reading a log from a file: what one turn leaves, as far as the file plays no part in it.
use Rattle.std.specs.Prelude.{ℕ, ◌-◌, ◌≤◌, ◌<◌, ◌≡◌, List, [], ◌⊎◌, Bool, true, false, cond, ◌&&◌, ◌||◌, ltb, length, take, drop}
use Rattle.state.specs.declared.Witness.{Witness}
use Rattle.text.specs.Put.{Put}
use Rattle.feeding.specs.Feed.{wants, Feeding, paused_at, record_room, last_number, open_call, feed_call}
use Rattle.state.specs.Sound.{sound?}
use Rattle.buffered.specs.Hold.{ready?}
use Rattle.turns.specs.Turns.{fate_of, Refilled}
use Rattle.turns.specs.declared.Fate.{Fate}
use Rattle.turns.specs.declared.Fate.TheVariants.{Failed}
use Rattle.turns.specs.declared.Turn.{Turn}

-- the call on the bytes at hand: on the log's first bytes, or on the records of a piece
unfoldable pub call_of : (begun at_end : Bool) (room : ℕ) → Witness → ℕ → List ℕ → Feeding
call_of begun at_end room w k bytes = cond begun (feed_call room w k bytes) (open_call at_end room w bytes)

-- ---- where reading stands at t, with these bytes in the input

module _ (t : Turn) (input : List ℕ) where
  abbrev pub at_hand : List ℕ
  at_hand = take t.have input

  abbrev pub call_at : (room : ℕ) → Feeding
  call_at room = call_of t.begun t.at_end room t.witness t.records at_hand

  abbrev pub fate_at : (room : ℕ) → Fate
  fate_at room = fate_of (t.begun && t.at_end) (call_at room).paused

  -- What a call leaves: the bytes at hand are those that it did not pass over, and all else is as the call gives it.
  pub record Called (f : Feeding) (r : Turn) (after : List ℕ) : Type 0 where
    pub begun : r.begun ≡ (t.begun || ltb 0 f.passed)
    pub at-end : r.at_end ≡ t.at_end
    pub have : r.have ≡ t.have - f.passed
    pub left : take r.have after ≡ drop f.passed at_hand
    pub records : r.records ≡ f.records
    pub witness : r.witness ≡ f.witness

  -- a call whose text stands in the output, and is still to be written out
  pub record Advanced (output : List ℕ) (r : Turn) (after told : List ℕ) : Type 0 where
    pub called : Called (call_at (length output)) r after
    pub inside : r.have ≤ length after
    pub fate : r.fate ≡ fate_at (length output)
    pub text : Put output 0 (call_at (length output)).text told r.written

  -- One turn is a call where the bytes at hand are worth one, else a read. It fails where the file cannot be read, or what the
  -- call wrote cannot be written out; when that is, no contract can say.
  pub record Stepped (room : ℕ) (r : Turn) (after : List ℕ) : Type 0 where
    pub inside : r.have ≤ length after
    pub called : ready? t.begun t.at_end at_hand ≡ true → Called (call_at room) r after × ((r.fate ≡ fate_at room) ⊎ (r.fate ≡ Failed))
    pub read : ready? t.begun t.at_end at_hand ≡ false → Refilled t input r after

-- No call is missed: on bytes that are not worth one, a call with a sound witness, room for the lines of any record and
-- a number left would want more, and would have done nothing.
abbrev pub CallWaits : Type 0
CallWaits =
    (begun : Bool) (room : ℕ) (w : Witness) (k : ℕ) (s : List ℕ)
    → sound? w ≡ true → record_room ≤ room → k < last_number → ready? begun false s ≡ false
    → call_of begun false room w k s ≡ paused_at [] wants w (cond begun k 0)
