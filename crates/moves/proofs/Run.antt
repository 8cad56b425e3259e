-- What every run keeps: the model stays well formed, whatever is read and wherever the root is moved.
use Prim.Native.Nat.{ℕ, ◌≤◌}
use mathlib.Core.List.{List, [], ◌∷◌}
use mathlib.Core.Bool.{not}
use borrow.Author.Tests.{ltb-true, ltb-false, not-false}
use lib.Dec.{ltb}
use lib.ListN.{length}
use Rattle.model.specs.Change.{move_root, append, append_all, single, decided}
use Rattle.model.specs.Decide.{bars_root}
use Rattle.model.specs.Finality.{final?}
use Rattle.model.specs.Limits.{root_height_limit}
use Rattle.model.specs.Lists.{All, none, each}
use Rattle.model.specs.Model.{Model, height_of, place_held, start}
use Rattle.model.specs.Run.{Event, reading, moving, decide_event, after, OfBytes}
use Rattle.model.specs.WellFormed.{WellFormed}
use Rattle.model.proofs.Lists.{all_of, or_false_right}
use Rattle.model.proofs.Rows.{MovePasses, move_rows, move_elim}
use Rattle.model.proofs.Run.{Kept, stays, read_kept, start-good}
use Rattle.moves.proofs.Moved.{moved-good}

-- the place that a move names is held, and low enough
module _ (m : Model) (r : ℕ) (p : MovePasses m r) where
  pub passes-low : height_of m.checkpoints r ≤ root_height_limit
  unfolding bars_root
  passes-low =
      let high = ltb root_height_limit (height_of m.checkpoints r) in
      ltb-false root_height_limit _ (or_false_right (not (final? m r)) high p.final)

  pub moved-kept : WellFormed m → WellFormed (append m (move_root r))
  unfolding append
  moved-kept good =
      moved-good m good r (ltb-true r (length m.checkpoints) (not-false (place_held m r) p.held)) passes-low

pub event-good : (m : Model) → WellFormed m → (e : Event) → OfBytes e → WellFormed (decided m (decide_event m e))
unfolding decide_event single append_all
event-good m good (reading s) h = read_kept m good s h
event-good m good (moving r) h =
    move_elim m (Kept m good) r (all_of (stays m good) move_rows) (λ p. moved-kept m r p good)

pub run-good : (m : Model) (es : List Event) → WellFormed m → All OfBytes es → WellFormed (after m es)
unfolding after
run-good m [] good none = good
run-good m (e ∷ es) good (each h hs) = run-good (decided m (decide_event m e)) es (event-good m good e h) hs

-- every run from a root's name
pub reached-good : (name : List ℕ) (es : List Event) → All OfBytes es → WellFormed (after (start name) es)
reached-good name es h = run-good (start name) es (start-good name) h
