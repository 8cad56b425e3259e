-- What holds of a call of `feed` where no record can be read on, where none can be passed, and with a record in front of a call
-- of which it holds, holds of every call on a sound witness.
use Prim.Native.Nat.{ℕ, zero, suc, ◌+◌, ◌-◌, ◌<◌}
use native.Mathlib.Omega.{arith}
use mathlib.Core.Path.{◌≡◌, refl, ap, ◌∙◌}
use mathlib.Core.List.{List, [], ◌∷◌}
use borrow.Author.Tests.{ltb-true}
use mathlib.Core.Bool.{Bool, true, false, cond, ◌||◌}
use lib.Dec.{eqb, ltb}
use lib.ListN.{length, drop}
use Rattle.model.specs.Answer.{refused}
use Rattle.model.specs.Bytes.{AreBytes}
use Rattle.model.specs.Change.{Decision, single}
use Rattle.model.specs.Decide.{decide_record, decide}
use Rattle.model.specs.Log.{Kind, member_kind, checkpoint_kind, vote_kind, quorum_kind, bundle_kind, other_kind, kind_of}
use Rattle.model.specs.Log.{size_of, decode_as}
use Rattle.model.specs.Log.{record_size, record_length}
use Rattle.model.specs.Model.{Model}
use Rattle.model.specs.Report.{outcome_line}
use Rattle.model.proofs.Bytes.{drop-bytes}
use Rattle.model.proofs.Lists.{clash}
use Rattle.model.proofs.Log.{begins_cut, begins_whole}
use Rattle.state.specs.Sound.{Sound}
use Rattle.state.specs.State.{model_of, stored}
use Rattle.state.specs.declared.Witness.{Witness}
use Rattle.state.proofs.Kept.{reading-sound}
use Rattle.state.proofs.Sound.{true_sound}
use Rattle.feeding.specs.Feed.{Feeding, paused_at, ahead, record_room, last_number, spent, halted, feed_from, on_sound, feed_call}
use Rattle.pieces.proofs.Prefix.{left_shorter}

-- P of the room, the witness, the number of the next record, the bytes from there on, and what the call comes to
module _ (P : ℕ → Witness → ℕ → List ℕ → Feeding → Type 0)
    (spent-case : (room : ℕ) (w : Witness) → Sound w → (k : ℕ) (s : List ℕ) → (ltb room record_room || eqb k last_number) ≡ true → P room w k s (paused_at [] (spent room) w k))
    (halted-case : (room : ℕ) (w : Witness) → Sound w → (k : ℕ) (s : List ℕ) → eqb (record_length s) 0 ≡ true → P room w k s (halted (decide (model_of w) s).told w k))
    (passed-case : (room : ℕ) (w : Witness) → Sound w → (k : ℕ) (s : List ℕ) → AreBytes s → eqb (record_length s) 0 ≡ false → (f : Feeding)
    → let line = outcome_line k (decide (model_of w) s).told in
    P (room - length line) (stored w (decide (model_of w) s)) (k + 1) (drop (record_length s) s) f → P room w k s (ahead line (record_length s) f)) where
  from_elim : (n room : ℕ) (w : Witness) → Sound w → (k : ℕ) (s : List ℕ) → AreBytes s → length s < n → P room w k s (feed_from n room w k s)
  unfolding feed_from
  from_elim zero room w sound k s bytes fits = absurd (omega arith)
  from_elim (suc n) room w sound k s bytes fits =
      go (from_elim n (room - length line) (stored w d) (reading-sound w sound s bytes) (k + 1) left (drop-bytes (record_length s) s bytes)) (ltb room record_room || eqb k last_number) refl (eqb (record_length s) 0) refl
    where
      d : Decision
      d = decide (model_of w) s

      line : List ℕ
      line = outcome_line k d.told

      left : List ℕ
      left = drop (record_length s) s

      later : Feeding
      later = feed_from n (room - length line) (stored w d) (k + 1) left

      go : (length left < n → P (room - length line) (stored w d) (k + 1) left later) → (spent? : Bool) → (ltb room record_room || eqb k last_number) ≡ spent? → (halt : Bool) → eqb (record_length s) 0 ≡ halt
          → P room w k s (cond spent? (paused_at [] (spent room) w k) (cond halt (halted d.told w k) (ahead line (record_length s) later)))
      go ih true none halt e = spent-case room w sound k s none
      go ih false some true e = halted-case room w sound k s e
      go ih false some false e = passed-case room w sound k s bytes e later (ih (omega (arith, left_shorter s e)))

  pub call_elim : (room : ℕ) (w : Witness) → Sound w → (k : ℕ) (s : List ℕ) → AreBytes s → P room w k s (feed_call room w k s)
  unfolding feed_call on_sound
  call_elim room w sound k s bytes = rw (true_sound w sound) (from_elim (length s + 1) room w sound k s bytes (omega arith))

-- ---- where no record can be passed

-- nothing is left, the kind is unknown, or the record is cut
pub data Halts : List ℕ → Type 0 where
  nothing_left : Halts []
  unknown : {b : ℕ} {r : List ℕ} → kind_of b ≡ other_kind → Halts (b ∷ r)
  cut : {b : ℕ} {r : List ℕ} → length (b ∷ r) < record_size b → Halts (b ∷ r)

pub halts : (s : List ℕ) → eqb (record_length s) 0 ≡ true → Halts s
unfolding record_length record_size size_of
halts [] e = nothing_left
halts (b ∷ r) e = go (ltb (length (b ∷ r)) (record_size b)) refl (kind_of b) refl e
  where
    go : (short : Bool) → ltb (length (b ∷ r)) (record_size b) ≡ short → (k : Kind) → kind_of b ≡ k → eqb (cond short 0 (size_of k)) 0 ≡ true → Halts (b ∷ r)
    go true c k i e = cut (ltb-true (length (b ∷ r)) (record_size b) c)
    go false c member_kind i e = clash e refl
    go false c checkpoint_kind i e = clash e refl
    go false c vote_kind i e = clash e refl
    go false c quorum_kind i e = clash e refl
    go false c bundle_kind i e = clash e refl
    go false c other_kind i e = unknown i

-- what is decided there, and that nothing is passed
pub record Decided (m : Model) (s : List ℕ) (d : Decision) : Type 0 where
  pub is : decide m s ≡ d
  pub none : record_length s ≡ 0

pub unknown-decided : (m : Model) (b : ℕ) (r : List ℕ) → kind_of b ≡ other_kind → Decided m (b ∷ r) (single (refused 4))
unfolding decide decide_record decode_as record_size size_of
unknown-decided m b r e =
    let none : record_size b ≡ 0 = ap size_of e in
    let begins = begins_whole b r (omega (arith, none)) in
    record { is = ap (decide_record m) (begins.decoded ∙ ap (λ (k : Kind). decode_as k (b ∷ r)) e); none = begins.long ∙ none }

pub cut-decided : (m : Model) (b : ℕ) (r : List ℕ) → length (b ∷ r) < record_size b → Decided m (b ∷ r) (single (refused 5))
unfolding decide decide_record
cut-decided m b r short = let begins = begins_cut b r short in record { is = ap (decide_record m) begins.decoded; none = begins.long }
