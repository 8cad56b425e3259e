-- No call is missed where the bytes at hand are not worth one.
use Prim.Native.Nat.{ℕ, ◌≤◌, ◌<◌}
use native.Mathlib.Omega.{arith}
use native.Mathlib.Numerals.{add-one}
use mathlib.Core.Path.{◌≡◌, refl}
use mathlib.Core.List.{List, [], ◌∷◌}
use mathlib.Core.Bool.{true, false}
use borrow.Author.Tests.{leb-false, le-ltb, ne_eqb}
use lib.Dec.{eqb, ltb}
use lib.ListN.{length}
use Rattle.model.specs.Change.{single}
use Rattle.model.specs.Decide.{decide_record, decide}
use Rattle.model.specs.Log.{Record, record_size}
use Rattle.model.proofs.Log.{Begins, begins_cut, none-at}
use Rattle.state.specs.State.{model_of}
use Rattle.state.specs.declared.Witness.{Witness}
use Rattle.state.specs.Sound.{sound?}
use Rattle.feeding.specs.Feed.{wants, paused_at, record_room, last_number, halted, feed_from, on_sound, feed_call}
use Rattle.pieces.proofs.Pieces.{open_waits}
use Rattle.buffered.specs.Hold.{whole?, ready?}
use Rattle.steps.specs.Turns.{call_of, CallWaits}

module _ (room : ℕ) (w : Witness) (k : ℕ) (s : List ℕ) (sound : sound? w ≡ true) (fits : record_room ≤ room) (numbered : k < last_number) where
  -- where no record can be passed
  feed_halts : {r : Record} → Begins s r 0 → halted (decide_record (model_of w) r).told w k ≡ paused_at [] wants w k → feed_call room w k s ≡ paused_at [] wants w k
  unfolding feed_call on_sound feed_from decide
  feed_halts is halts =
      let roomy : ltb room record_room ≡ false = le-ltb room record_room fits in
      let other : eqb k last_number ≡ false = ne_eqb k last_number (λ e. omega (arith, e, numbered)) in
      rw (sound, add-one, roomy, other, is.long, is.decoded) halts

feed_waits : (room : ℕ) (w : Witness) (k : ℕ) (s : List ℕ) → sound? w ≡ true → record_room ≤ room → k < last_number → whole? s ≡ false → feed_call room w k s ≡ paused_at [] wants w k
unfolding whole? halted decide_record single
feed_waits room w k [] sound fits numbered e = feed_halts room w k [] sound fits numbered (none-at 0 [] (omega arith)) refl
feed_waits room w k (b ∷ rest) sound fits numbered e =
    feed_halts room w k (b ∷ rest) sound fits numbered (begins_cut b rest (leb-false (record_size b) (length (b ∷ rest)) e)) refl

pub call-waits : CallWaits
unfolding call_of ready?
call-waits true room w k s sound fits numbered e = feed_waits room w k s sound fits numbered e
call-waits false room w k s sound fits numbered e = open_waits room w s (omega (arith, leb-false 37 (length s) e))
