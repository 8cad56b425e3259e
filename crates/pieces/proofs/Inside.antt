-- No call passes over more bytes than it was lent, nor writes more than the buffer has.
use Prim.Native.Nat.{ℕ, zero, suc, ◌+◌, ◌-◌, ◌≤◌}
use native.Mathlib.Omega.{arith}
use mathlib.Core.Path.{◌≡◌, refl}
use mathlib.Core.List.{List, []}
use mathlib.Core.Bool.{Bool, true, false, cond, not, ◌&&◌, ◌||◌}
use lib.Dec.{eqb, ltb}
use lib.ListN.{length, drop, length-drop}
use Rattle.model.specs.Answer.{Answer, refused, answer}
use Rattle.model.specs.Change.{Told}
use Rattle.model.specs.Decide.{decide}
use Rattle.model.specs.Log.{header, record_length}
use Rattle.model.specs.Report.{stopped_line, outcome_line}
use Rattle.state.specs.State.{model_of, stored}
use Rattle.state.proofs.Started.{header-long}
use Rattle.state.specs.declared.Witness.{Witness}
use Rattle.reader.proofs.Made.{length-inside}
use Rattle.text.proofs.Putting.{kept}
use Rattle.state.specs.Sound.{sound?}
use Rattle.feeding.specs.Feed.{Feeding, full, wants, ended, paused_at, ahead, refused_by, line_room, record_room, last_number, spent, halted, feed_from, on_sound, feed_call, headed, open_call, IsFed}
use Rattle.feeding.specs.declared.Fed.{Fed}

halted-passes : (t : Answer Told) (w : Witness) (k : ℕ) → (halted t w k).passed ≡ 0
unfolding halted
halted-passes (refused n) w k = go (eqb n 4)
  where
    go : (b : Bool) → (cond b (paused_at (stopped_line 4 k) ended w k) (paused_at [] wants w k)).passed ≡ 0
    go true = refl
    go false = refl
halted-passes (answer t) w k = refl

from-passes : (n room : ℕ) (w : Witness) (k : ℕ) (s : List ℕ) → (feed_from n room w k s).passed ≤ length s
unfolding feed_from
from-passes zero room w k s = omega arith
from-passes (suc n) room w k s =
    let d = decide (model_of w) s in
    let size = record_length s in
    let line = outcome_line k d.told in
    one d.told size line (feed_from n (room - length line) (stored w d) (k + 1) (drop size s)) (length-inside s)
    (from-passes n (room - length line) (stored w d) (k + 1) (drop size s)) (ltb room record_room || eqb k last_number) (eqb size 0)
  where
    one : (t : Answer Told) (size : ℕ) (line : List ℕ) (later : Feeding) → size ≤ length s → later.passed ≤ length (drop size s) → (spent? none : Bool)
        → (cond spent? (paused_at [] (spent room) w k) (cond none (halted t w k) (ahead line size later))).passed ≤ length s
    one t size line later inside fewer true none = omega arith
    one t size line later inside fewer false true = omega (arith, halted-passes t w k)
    one t size line later inside fewer false false = omega (arith, fewer, inside, length-drop size s)

pub feed_passes : (room : ℕ) (w : Witness) (k : ℕ) (s : List ℕ) → (feed_call room w k s).passed ≤ length s
unfolding feed_call on_sound
feed_passes room w k s = go (sound? w)
  where
    go : (b : Bool) → (cond b (feed_from (length s + 1) room w k s) (paused_at [] (refused_by 40) w k)).passed ≤ length s
    go true = from-passes (length s + 1) room w k s
    go false = omega arith

pub open_passes : (last : Bool) (room : ℕ) (w : Witness) (log : List ℕ) → (open_call last room w log).passed ≤ length log
unfolding open_call headed
open_passes last room w log = go (ltb (length log) 37 && not last) (ltb room line_room) (header log) refl
  where
    go : (short no_room : Bool) (h : Answer (List ℕ)) → header log ≡ h → (cond short (paused_at [] wants w 0) (cond no_room (paused_at [] full w 0) (headed w h))).passed ≤ length log
    go true no_room h e = omega arith
    go false true h e = omega arith
    go false false (refused n) e = omega arith
    go false false (answer name) e = header-long log name e

-- what is written fits the buffer, which keeps its length
pub written-fits : {f : Feeding} {at : ℕ} {before : List ℕ} {r : Fed} {after : List ℕ} → IsFed f at 0 before r after → r.written ≤ length after
written-fits is = omega (arith, is.text.fits, is.text.past, kept is.text)
