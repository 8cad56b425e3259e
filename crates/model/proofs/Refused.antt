-- An event that is refused changes nothing.
use Prim.Native.Nat.{ℕ}
use native.Mathlib.Omega.{arith}
use mathlib.Core.Path.{◌≡◌, refl}
use mathlib.Core.List.{List, []}
use Rattle.model.specs.Answer.{Answer, refused, answer}
use Rattle.model.specs.Change.{Change, Decision, single, together, whole}
use Rattle.model.specs.Decide.{decide_record, decide}
use Rattle.model.specs.Log.{Record, no_record, unknown_kind, cut_record, member_record, checkpoint_record, vote_record}
use Rattle.model.specs.Log.{bundle_record, quorum_record, decode}
use Rattle.model.specs.Model.{Model}
use Rattle.model.specs.Run.{Event, reading, moving, decide_event}

abbrev pub Keeps : Decision → Type 0
Keeps d = (n : ℕ) → d.told ≡ refused n → d.changes ≡ []

pub single-keeps : (a : Answer Change) → Keeps (single a)
unfolding single
single-keeps (refused k) n e = refl
single-keeps (answer c) n e = let z : ◌≡◌ {A = ℕ} 0 1 = cc in absurd (omega arith)

whole-keeps : (a : Answer (List Decision)) → Keeps (whole a)
unfolding whole together
whole-keeps (refused k) n e = single-keeps (refused k) n e
whole-keeps (answer ds) n e = let z : ◌≡◌ {A = ℕ} 0 1 = cc in absurd (omega arith)

record_keeps : (m : Model) (r : Record) → Keeps (decide_record m r)
unfolding decide_record
record_keeps m no_record = λ n e. refl
record_keeps m unknown_kind = single-keeps _
record_keeps m cut_record = single-keeps _
record_keeps m (member_record id bond) = single-keeps _
record_keeps m (checkpoint_record name parent) = single-keeps _
record_keeps m (vote_record id source target source_height target_height) = single-keeps _
record_keeps m (bundle_record bits source target source_height target_height) = whole-keeps _
record_keeps m (quorum_record p q) = single-keeps _

pub refused-keeps : (m : Model) (e : Event) → Keeps (decide_event m e)
unfolding decide_event decide
refused-keeps m (reading s) = record_keeps m (decode s)
refused-keeps m (moving r) = single-keeps _
