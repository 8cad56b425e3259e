-- The readings of a log: a larger bound adds none, each is of the log from an offset on, and only the last can stop.
use Prim.Native.Nat.{ℕ, zero, suc, ◌+◌, ◌<◌, ◌≤◌}
use native.Mathlib.Omega.{arith}
use mathlib.Core.Path.{◌≡◌, refl, sym, ap, ◌∙◌, subst}
use mathlib.Core.List.{List, [], ◌∷◌}
use mathlib.Core.Bool.{Bool, true, false, cond}
use borrow.Author.Tests.{eqb-false}
use lib.ListN.{length, drop, get_or, length-drop}
use lib.Seq.{drop-drop}
use lib.Dec.{eqb}
use Rattle.model.specs.Answer.{Answer, refused}
use Rattle.model.specs.Bytes.{AreBytes}
use Rattle.model.specs.Change.{Change, Decision, single, decided, together, whole}
use Rattle.model.specs.Decide.{decide_record, decide}
use Rattle.model.specs.Lists.{All, none, each}
use Rattle.model.specs.Log.{Record, record_length}
use Rattle.model.specs.Model.{Model}
use Rattle.model.specs.Report.{stops?}
use Rattle.model.specs.Run.{Event, reading, decide_event, outcomes, OfBytes, readings}
use Rattle.model.proofs.Bytes.{drop-bytes}
use Rattle.model.proofs.Lists.{clash, all_map}
use Rattle.model.proofs.Log.{decode_elim}
use Rattle.model.proofs.Rows.{member_elim, checkpoint_elim, vote_elim, bundle_elim, quorum_elim}

-- ---- the bound

-- two bounds that are no smaller than the log give the same readings
pub readings-bound : (n k : ℕ) (s : List ℕ) → length s ≤ n → length s ≤ k → readings n s ≡ readings k s
unfolding readings
readings-bound zero zero s h l = refl
readings-bound zero (suc k) [] h l = refl
readings-bound zero (suc k) (x ∷ s) h l = absurd (omega arith)
readings-bound (suc n) zero [] h l = refl
readings-bound (suc n) zero (x ∷ s) h l = absurd (omega arith)
readings-bound (suc n) (suc k) [] h l = refl
readings-bound (suc n) (suc k) (x ∷ s) h l = ap (◌∷◌ (reading (x ∷ s))) (go (readings-bound n k (drop size (x ∷ s))) (eqb size 0) refl)
  where
    size : ℕ
    size = record_length (x ∷ s)

    rest : List ℕ
    rest = drop size (x ∷ s)

    go : (length rest ≤ n → length rest ≤ k → readings n rest ≡ readings k rest) → (b : Bool) → eqb size 0 ≡ b → cond b [] (readings n rest) ≡ cond b [] (readings k rest)
    go ih true e = refl
    go ih false e = ih (omega (arith, length-drop size (x ∷ s), eqb-false size 0 e)) (omega (arith, length-drop size (x ∷ s), eqb-false size 0 e))

pub readings-more : (n k : ℕ) (s : List ℕ) → length s ≤ n → readings (n + k) s ≡ readings n s
readings-more n k s h = readings-bound (n + k) n s (omega arith) h

-- ---- where each reading starts

-- the event reads s from an offset on
pub record FromOffset (s : List ℕ) (e : Event) : Type 0 where
  pub at : ℕ
  pub is : e ≡ reading (drop at s)

pub readings_of_log : (n : ℕ) (s : List ℕ) → All (FromOffset s) (readings n s)
unfolding readings
readings_of_log zero s = none
readings_of_log (suc n) [] = none
readings_of_log (suc n) (x ∷ s) = each (record { at = 0; is = refl }) (go (readings_of_log n (drop size (x ∷ s))) (eqb size 0))
  where
    size : ℕ
    size = record_length (x ∷ s)

    further : (e : Event) → FromOffset (drop size (x ∷ s)) e → FromOffset (x ∷ s) e
    further e f = record { at = size + f.at; is = f.is ∙ ap reading (drop-drop f.at size (x ∷ s)) }

    go : All (FromOffset (drop size (x ∷ s))) (readings n (drop size (x ∷ s))) → (b : Bool) → All (FromOffset (x ∷ s)) (cond b [] (readings n (drop size (x ∷ s))))
    go ih true = none
    go ih false = all_map further ih

-- so a log of bytes is read as bytes
pub readings-bytes : (n : ℕ) (s : List ℕ) → AreBytes s → All OfBytes (readings n s)
readings-bytes n s b = all_map (λ e f. subst OfBytes (sym f.is) (drop-bytes f.at s b)) (readings_of_log n s)

-- ---- only the last stops

module _ (m : Model) where
  abbrev GoesOn : Answer Change → Type 0
  GoesOn a = stops? (single a).told ≡ false

  abbrev WholeGoesOn : Answer (List Decision) → Type 0
  WholeGoesOn a = stops? (whole a).told ≡ false

  -- a record that is passed over does not stop the reading
  pub whole_goes_on : (s : List ℕ) → eqb (record_length s) 0 ≡ false → stops? (decide m s).told ≡ false
  unfolding decide decide_record single stops? together whole
  whole_goes_on s =
      decode_elim (λ (r : Record) (n : ℕ). eqb n 0 ≡ false → stops? (decide_record m r).told ≡ false) s
      (record {
        nothing = clash refl;
        unknown = clash refl;
        cut = clash refl;
        member = λ _ _. member_elim m GoesOn _ (each refl (each refl (each refl (each refl none)))) (λ _. refl);
        checkpoint = λ _ _. checkpoint_elim m GoesOn _ _ (each refl (each refl (each refl none))) (λ _. refl);
        vote = λ _ _.
            vote_elim m GoesOn _ _ _ _ _ (each refl (each refl (each refl (each refl (each refl (each refl (each refl none))))))) (λ _ _. refl);
        bundle = λ _ _. bundle_elim m WholeGoesOn _ _ _ _ _ (each refl (each refl none)) (λ _. refl);
        quorum = λ _ _. quorum_elim m GoesOn _ (each refl (each refl none)) (λ _. refl);
      })

-- the outcomes before the last do not stop
pub stop_is_last : (m : Model) (n : ℕ) (s : List ℕ) (i : ℕ) → i + 1 < length (outcomes m (readings n s)) → stops? (get_or (outcomes m (readings n s)) i (refused 0)) ≡ false
unfolding readings outcomes decide_event
stop_is_last m zero s i h = absurd (omega arith)
stop_is_last m (suc n) [] i h = absurd (omega arith)
stop_is_last m (suc n) (x ∷ s) i h = go (stop_is_last (decided m (decide m (x ∷ s))) n rest) (eqb size 0) refl i h
  where
    size : ℕ
    size = record_length (x ∷ s)

    rest : List ℕ
    rest = drop size (x ∷ s)

    then : Model
    then = decided m (decide m (x ∷ s))

    go : ((j : ℕ) → j + 1 < length (outcomes then (readings n rest)) → stops? (get_or (outcomes then (readings n rest)) j (refused 0)) ≡ false)
        → (b : Bool) → eqb size 0 ≡ b → (j : ℕ) → j + 1 < length (outcomes m (reading (x ∷ s) ∷ cond b [] (readings n rest)))
        → stops? (get_or (outcomes m (reading (x ∷ s) ∷ cond b [] (readings n rest))) j (refused 0)) ≡ false
    go ih true e j l = absurd (omega arith)
    go ih false e zero l = whole_goes_on m (x ∷ s) e
    go ih false e (suc j) l = ih j (omega arith)
