-- Reading a log from a file: where it stands, and what a turn leaves beside its call, as far as the file plays no part
-- in it.
use Rattle.std.specs.Prelude.{ℕ, ◌+◌, ◌-◌, ◌≤◌, ◌<◌, ◌≡◌, List, ◌⊎◌, Bool, true, false, cond, get_or}
use Rattle.feeding.specs.Feed.{Paused, wants, full, out_of_numbers, ended, refused_by}
use Rattle.buffered.specs.Hold.{IsFilled}
use Rattle.turns.specs.declared.Fate.{Fate}
use Rattle.turns.specs.declared.Fate.TheVariants.{Open, Whole, Ended, Failed}
use Rattle.turns.specs.declared.Turn.{Turn}

-- nothing was read yet; the record number and the witness are set by the first call
pub record Starts (t : Turn) : Type 0 where
  pub fate : t.fate ≡ Open
  pub begun : t.begun ≡ false
  pub at-end : t.at_end ≡ false
  pub have : t.have ≡ 0

-- what follows a call; `last` says that the log has no more bytes
abbrev pub fate_of : (last : Bool) → Paused → Fate
fate_of last wants = cond last Whole Open
fate_of last full = Open
fate_of last out_of_numbers = Failed
fate_of last ended = Ended
fate_of last (refused_by n) = Failed

-- The last line of the first n bytes begins at r: after a newline, or at the start; and it has no newline but at its
-- end.
pub record BeginsLast (output : List ℕ) (n r : ℕ) : Type 0 where
  pub inside : r ≤ n
  pub some : 0 < n → r < n
  pub after-newline : 0 < r → get_or output (r - 1) 0 ≡ 10
  pub one : (k : ℕ) → r ≤ k → k + 1 < n → get_or output k 0 ≡ 10 → ⊥

-- A read changes the bytes at hand alone, of which there may be more; where it says that the file has ended, it brought
-- none. Which bytes a file has, and when it ends, no contract can say.
pub record Refilled (t : Turn) (input : List ℕ) (r : Turn) (after : List ℕ) : Type 0 where
  pub fate : (r.fate ≡ Open) ⊎ (r.fate ≡ Failed)
  pub begun : r.begun ≡ t.begun
  pub records : r.records ≡ t.records
  pub witness : r.witness ≡ t.witness
  pub at-end : r.at_end ≡ true → r.have ≡ t.have
  pub filled : IsFilled t.have input r.have after

-- a turn, once what was to be written out has been
abbrev pub told_as : Turn → Fate → Turn
told_as t fate =
    record {
      fate = fate;
      begun = t.begun;
      at_end = t.at_end;
      have = t.have;
      records = t.records;
      witness = t.witness;
      written = 0;
    }

abbrev pub Told : Turn → Turn → Type 0
Told t r = (r ≡ told_as t t.fate) ⊎ (r ≡ told_as t Failed)
