-- Demand 2, of every state that row 40 passes, however it came about: what the calls answer is what the published rules make
-- of the model that the state holds, bonds as weights. In the answers the left sides are what the calls' contracts cite; the
-- exact fields say of the model what those answers mean. `Typed` is what the types of the state's fields say.
use Rattle.std.specs.Prelude.{ℕ, ◌≡◌, List, true}
use Rattle.model.specs.Answer.{answer}
use Rattle.model.specs.Buffer.{write_text, buffer_after}
use Rattle.model.specs.Bytes.{AreBytes}
use Rattle.model.specs.Checker.{check}
use Rattle.model.specs.Evidence.{our_list, violator?}
use Rattle.model.specs.Exact.{StatusExact, ConflictExact, ConductExact, ListExact, CheckerExact, PaperExact, BestExact}
use Rattle.model.specs.Finality.{status_at, conflicting?}
use Rattle.model.specs.Model.{Model, quota}
use Rattle.model.specs.Paper.{paper}
use Rattle.model.specs.Rule.{Permitted}
use Rattle.model.specs.declared.Status.TheVariants.{Final as FinalStatus}
use Rattle.model.specs.Support.{support_at, sum}
use Rattle.moves.specs.Allowed.{MoveExact}
use Rattle.safety.specs.Share.{NamesViolators}
use Rattle.state.specs.Sound.{Typed, sound?}
use Rattle.state.specs.State.{model_of}
use Rattle.state.specs.declared.Witness.{Witness}
use Rattle.answers.specs.Calls.{status_call, support_call, conflict_call, write_call, write_buffer, check_call}

-- every call on `w` answers for the model `b`
pub record ByTheRules (w : Witness) (b : Model) : Type 0 where
  -- "the members, checkpoints and votes held are the book's, in its order", and so is the rule for a quorum, which is
  -- permitted
  pub held : model_of w ≡ b
  pub permitted : Permitted (quota b)
  -- the standings: the call's answer, and what it means
  pub status-answer : (p : ℕ) → status_call w p ≡ status_at b p
  pub status-exact : (p : ℕ) → StatusExact b p
  -- "The root shall be final from the header on, with no link needed."
  pub root-final : status_call w 0 ≡ answer FinalStatus
  -- the support of a link
  pub support-answer : (s t : ℕ) → support_call w s t ≡ support_at b s t
  -- the conflict answer
  pub conflict-answer : conflict_call w ≡ answer (conflicting? b)
  pub conflict-exact : ConflictExact b
  -- our list and the board paper: each is written, whatever the buffer, unless 60 applies, which leaves the buffer
  pub list-answer : (buffer : List ℕ) → write_call our_list w buffer ≡ write_text (our_list b) buffer
  pub list_written : (buffer : List ℕ)
      → write_buffer our_list w buffer ≡ buffer_after (our_list b) buffer (write_text (our_list b) buffer)
  pub paper-answer : (buffer : List ℕ) → write_call paper w buffer ≡ write_text (paper b) buffer
  pub paper-written : (buffer : List ℕ)
      → write_buffer paper w buffer ≡ buffer_after (paper b) buffer (write_text (paper b) buffer)
  -- our list is what the section on charges calls for
  pub list-exact : ListExact b
  -- how the board paper is laid out, and what it shows behind a checkpoint
  pub paper-exact : PaperExact b
  pub best_exact : (t : ℕ) → BestExact b t
  -- "of all lists of charges, whoever wrote them, the checker passes exactly those .."; "so none that names a member whose
  -- votes keep both commandments"
  pub checker_answer : (l : List ℕ) → check_call w l ≡ check b l
  pub checker_exact : (l : List ℕ) → AreBytes l → CheckerExact b l
  pub none_innocent : (l : List ℕ) (s : ℕ) → AreBytes l → check_call w l ≡ answer s → NamesViolators b l s
  -- what the report says of a member, and its `named`: the sum that the checker gives for our list
  pub conduct-exact : (id : ℕ) → ConductExact b id
  pub named-exact : check b (our_list b) ≡ answer (sum (violator? b) b.members)
  -- when the root may be moved up, and what a move leaves (K7)
  pub move_exact : (r : ℕ) → MoveExact b r

abbrev pub Demand2 : Type 0
Demand2 = (w : Witness) → Typed w → sound? w ≡ true → ByTheRules w (model_of w)
