-- The guard, each case computed: rows 65 to 67 on both sides and in their order, with the record afterwards; a list of
-- calls; why rows 66 and 67 are needed; and a model that the promise to a member speaks of.
use Prim.Native.Nat.{ℕ, zero, suc, ◌<◌}
use native.Mathlib.Omega.{arith}
use mathlib.Core.Path.{◌≡◌, refl}
use mathlib.Core.List.{List, [], ◌∷◌}
use mathlib.Core.Bool.{true, false}
use lib.ListN.{length}
use Rattle.model.specs.Answer.{Answer, refused, answer, row}
use Rattle.model.specs.Model.{Model, Checkpoint, checkpoint_at, vote_for, vote_at}
use Rattle.model.specs.Rule.{standard}
use Rattle.model.specs.Slashing.{heights_break}
use Rattle.model.specs.declared.Refusal.TheVariants.{TargetNotAboveLast}
use Rattle.guard.specs.Signing.{last_signed, fresh_guard, guard_rows, rewritten_by, record_after}
use Rattle.guard.specs.Calls.{Request, Calls, none, call, if_signed, signed_in, request_at, answers_from, last_record}
use Rattle.guard.specs.Safe.{HasHeights}
use Rattle.guard.specs.Members.{OwnVote, NeverCharged}
use Rattle.guard.specs.declared.Guard.{Guard}
use Rattle.guard.specs.Signing.{SignAnswer}
use Rattle.std.specs.Prelude.{Ok, Err}
use Rattle.guard.proofs.Members.{guarded-member}

-- what a call says, and the record afterwards
abbrev put : Guard → ℕ → ℕ → Answer (Unit {0}) × Guard
put g s t = (guard_rows g s t, record_after g s t)

abbrev signs : ℕ → ℕ → Answer (Unit {0}) × Guard
signs s t = (answer tt, last_signed s t)

-- the record that signed 3 → 5 last, and two of bytes that no call leaves
abbrev last : Guard
last = last_signed 3 5

abbrev with_used : ℕ → Guard
with_used n = record { source = record { 0 = 3 }; target = record { 0 = 5 }; used = n }

abbrev odd : Guard
odd = with_used 255

abbrev unused : Guard
unused = with_used 0

abbrev ask : ℕ → ℕ → Request
ask s t = record { source = s; target = t }

abbrev asked : List Request
asked = ask 0 0 ∷ ask 0 2 ∷ ask 1 2 ∷ ask 0 1 ∷ ask 1 4 ∷ ask 0 5 ∷ ask 1 5 ∷ ask 5 6 ∷ []

pub record GuardCases : Type 0 where
  -- a fresh record meets row 65 only
  fresh-signs : put fresh_guard 0 1 ≡ signs 0 1
  fresh_anywhere : put fresh_guard 7 9 ≡ signs 7 9
  fresh_highest : put fresh_guard 4294967294 4294967295 ≡ signs 4294967294 4294967295
  fresh-zero : put fresh_guard 0 0 ≡ (refused 65, fresh_guard)
  fresh-equal : put fresh_guard 3 3 ≡ (refused 65, fresh_guard)
  fresh-above : put fresh_guard 4 3 ≡ (refused 65, fresh_guard)
  -- row 65 first, whatever the others would say
  row_65 : put last 7 7 ≡ (refused 65, last)
  row_65_above : put last 8 7 ≡ (refused 65, last)
  row_65_before_66 : put last 6 5 ≡ (refused 65, last)
  row_65_before_67 : put last 2 1 ≡ (refused 65, last)
  row_65_beside : put last 6 7 ≡ signs 6 7
  -- row 66: the target is the last, or below it; before row 67
  row_66 : put last 3 5 ≡ (refused 66, last)
  row_66_other_source : put last 4 5 ≡ (refused 66, last)
  row_66_below : put last 3 4 ≡ (refused 66, last)
  row_66_before_67 : put last 2 5 ≡ (refused 66, last)
  row_66_beside : put last 3 6 ≡ signs 3 6
  -- row 67: the source is below the last
  row_67 : put last 2 6 ≡ (refused 67, last)
  row_67_far : put last 0 4294967295 ≡ (refused 67, last)
  row_67_beside : put last 4 6 ≡ signs 4 6
  from_the_last_target : put last 5 6 ≡ signs 5 6
  -- any number but 0 counts as used
  odd-refuses : put odd 3 5 ≡ (refused 66, odd)
  odd-signs : put odd 3 6 ≡ signs 3 6
  -- a record that has signed nothing is as a fresh one, whatever its heights
  unused-signs : put unused 0 1 ≡ signs 0 1
  unused-refuses : put unused 3 3 ≡ (refused 65, unused)
  -- a list of calls on a record that starts fresh
  answers : answers_from fresh_guard asked
      ≡ refused 65 ∷ answer tt ∷ refused 66 ∷ refused 66 ∷ answer tt ∷ refused 67 ∷ answer tt ∷ answer tt ∷ []
  in_the_end : last_record fresh_guard asked ≡ last_signed 5 6
  -- what row 66 shuts out after 0 → 2 and after 0 → 4, and row 67 after 1 → 3, breaks a condition; the same source does
  -- not
  double : heights_break 0 2 0 2 ≡ true
  double_other_source : heights_break 0 2 1 2 ≡ true
  surrounded : heights_break 0 4 1 3 ≡ true
  surrounding : heights_break 1 3 0 4 ≡ true
  same_source : heights_break 1 3 1 4 ≡ false
  -- after 5 → 6 a copy of the record from before signs 4 → 7, which surrounds it
  old_copy_signs : put last 4 7 ≡ signs 4 7
  old_copy_breaks : heights_break 5 6 4 7 ≡ true

pub guard_cases : GuardCases
unfolding guard_rows row rewritten_by answers_from last_record
guard_cases =
    record {
      fresh-signs = refl;
      fresh_anywhere = refl;
      fresh_highest = refl;
      fresh-zero = refl;
      fresh-equal = refl;
      fresh-above = refl;
      row_65 = refl;
      row_65_above = refl;
      row_65_before_66 = refl;
      row_65_before_67 = refl;
      row_65_beside = refl;
      row_66 = refl;
      row_66_other_source = refl;
      row_66_below = refl;
      row_66_before_67 = refl;
      row_66_beside = refl;
      row_67 = refl;
      row_67_far = refl;
      row_67_beside = refl;
      from_the_last_target = refl;
      odd-refuses = refl;
      odd-signs = refl;
      unused-signs = refl;
      unused-refuses = refl;
      answers = refl;
      in_the_end = refl;
      double = refl;
      double_other_source = refl;
      surrounded = refl;
      surrounding = refl;
      same_source = refl;
      old_copy_signs = refl;
      old_copy_breaks = refl;
    }

-- ---- a model that GuardedMember speaks of: two votes of member 1, which did not come in the order in which they were
-- signed; a third that was signed is not held

abbrev requests : List Request
requests = ask 0 1 ∷ ask 0 1 ∷ ask 1 2 ∷ ask 2 3 ∷ []

abbrev said : List SignAnswer
said = Ok tt ∷ Err TargetNotAboveLast ∷ Ok tt ∷ Ok tt ∷ []

calls : Calls fresh_guard requests said (last_signed 2 3)
unfolding guard_rows row rewritten_by
calls =
    call (record { answered = refl; rewritten = refl })
    (call (record { answered = refl; rewritten = refl })
    (call (record { answered = refl; rewritten = refl })
    (call (record { answered = refl; rewritten = refl }) none)))

abbrev under : ℕ → ℕ → Checkpoint
under parent height = record { name = []; parent = parent; height = height }

abbrev book : Model
book =
    record {
      rule = standard;
      members = record { id = 1; bond = 1 } ∷ [];
      checkpoints = under 0 0 ∷ under 0 1 ∷ under 1 2 ∷ [];
      votes = vote_for 1 1 2 ∷ vote_for 1 0 1 ∷ [];
    }

-- vote 0 was signed second, vote 1 first
unfoldable by : ℕ → ℕ
by zero = 1
by (suc k) = 0

by-inside : (k : ℕ) → OwnVote book 1 k → by k < length (signed_in requests said)
unfolding by if_signed signed_in
by-inside zero o = omega arith
by-inside (suc k) o = omega arith

by-heights : (k : ℕ) → OwnVote book 1 k
    → HasHeights book (vote_at book.votes k) (request_at (signed_in requests said) (by k))
unfolding by if_signed signed_in vote_at checkpoint_at
by-heights zero o = record { source = refl; target = refl }
by-heights (suc zero) o = record { source = refl; target = refl }
by-heights (suc (suc k)) o = absurd (omega (arith, o.held))

by_apart : (j k : ℕ) → OwnVote book 1 j → OwnVote book 1 k → by j ≡ by k → j ≡ k
unfolding by
by_apart zero zero o p e = refl
by_apart zero (suc k) o p e = absurd (omega arith)
by_apart (suc j) zero o p e = absurd (omega arith)
by_apart (suc j) (suc k) o p e = omega (arith, o.held, p.held)

pub book_never_charged : NeverCharged book 1
book_never_charged =
    guarded-member fresh_guard (last_signed 2 3) requests said calls book 1
    (record { by = by; inside = by-inside; heights = by-heights; apart = by_apart })
