-- What the guard is for: no two votes that it signs break a slashing condition (commandment I or II).
use Rattle.std.specs.Prelude.{ℕ, ◌<◌, ◌≤◌, ◌≡◌, List, not, length, ltb}
use Rattle.model.specs.Answer.{answer, row}
use Rattle.model.specs.Model.{Model, Vote, height_of}
use Rattle.model.specs.Slashing.{Breaks}
use Rattle.guard.specs.Signing.{SignAnswer, last_signed, fresh_guard, guard_rows}
use Rattle.guard.specs.Calls.{Request, Calls, signed_in, request_at}
use Rattle.guard.specs.declared.Guard.{Guard}

-- "A fresh record meets check 65 only."
abbrev pub FreshMeets65Only : Type 0
FreshMeets65Only = (s t : ℕ) → guard_rows fresh_guard s t ≡ row 65 (not (ltb s t)) (answer tt)

-- a vote's checkpoints have the heights that were asked for
pub record HasHeights (m : Model) (v : Vote) (r : Request) : Type 0 where
  pub source : height_of m.checkpoints v.source ≡ r.source
  pub target : height_of m.checkpoints v.target ≡ r.target

-- of votes signed, in their order: each climbs, targets rise, sources never fall; and no two of them, whatever the
-- checkpoints of those heights are, break a condition
pub record Safe (votes : List Request) : Type 0 where
  pub climb : (i : ℕ) → i < length votes → (request_at votes i).source < (request_at votes i).target
  pub targets_rise : (i j : ℕ) → i < j → j < length votes → (request_at votes i).target < (request_at votes j).target
  pub sources_never_fall : (i j : ℕ) → i < j → j < length votes
      → (request_at votes i).source ≤ (request_at votes j).source
  pub none_break : (i j : ℕ) → i < length votes → j < length votes → (i ≡ j → ⊥)
      → (m : Model) (v w : Vote) → HasHeights m v (request_at votes i) → HasHeights m w (request_at votes j)
      → Breaks m v w
      → ⊥

-- "Over any sequence of calls on a record that starts fresh and is handed on as the last call left it, no two votes
-- signed break either commandment." It is so of any record that the calls start on.
abbrev pub GuardSafe : Type 0
GuardSafe =
    (g left : Guard) (rs : List Request) (answers : List SignAnswer)
    → Calls g rs answers left
    → Safe (signed_in rs answers)

-- of votes that go up as Safe says, a record that starts fresh signs every one
abbrev pub RisingSigned : Type 0
RisingSigned =
    (left : Guard) (rs : List Request) (answers : List SignAnswer)
    → Calls fresh_guard rs answers left
    → Safe rs
    → signed_in rs answers ≡ rs

-- a record that was lost may be made anew with heights at least as great as the source's and the target's of every vote
-- signed before: nothing that it signs breaks with one of those
abbrev pub RestoredSafe : Type 0
RestoredSafe =
    (s t : ℕ) (left : Guard) (rs : List Request) (answers : List SignAnswer)
    → Calls (last_signed s t) rs answers left
    → (before : Request) → before.source ≤ s → before.target ≤ t
    → (i : ℕ) → i < length (signed_in rs answers)
    → (m : Model) (v w : Vote) → HasHeights m v before → HasHeights m w (request_at (signed_in rs answers) i)
    → Breaks m v w
    → ⊥
