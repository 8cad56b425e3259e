-- Two refusals with one number are one: a number gives its refusal back.
use Prim.Native.Nat.{ℕ, ◌<◌}
use native.Mathlib.Omega.{arith}
use mathlib.Core.Path.{◌≡◌, refl, sym, ap, ◌∙◌}
use mathlib.Core.List.{List, [], ◌∷◌}
use lib.ListN.{get_or}
use lib.Dec.{eqb}
use Rattle.model.specs.Lists.{first_index}
use Rattle.model.specs.Refusals.{refusal_number}
use Rattle.model.specs.declared.Refusal.{Refusal}
use Rattle.model.specs.declared.Refusal.TheVariants.{LogTooShort, LogMark, LogVersion, UnknownKind, CutRecord, MembersFixed}
use Rattle.model.specs.declared.Refusal.TheVariants.{BondOutOfRange, IdHeld, MembersFull, NameHeld, ParentNotHeld, CheckpointsFull}
use Rattle.model.specs.declared.Refusal.TheVariants.{VoterNotHeld, SourceNotHeld, TargetNotHeld, WrongHeight, NotAncestor, VoteHeld}
use Rattle.model.specs.declared.Refusal.TheVariants.{VotesFull, UnsoundState, PlaceNotHeld, ListLength, ListMark, ListVersion}
use Rattle.model.specs.declared.Refusal.TheVariants.{IdNotRising, ChargedNotHeld, NotOwnVote, NotEarlier, NoViolation, BufferTooShort}
use Rattle.model.specs.declared.Refusal.TheVariants.{BitWithoutMember, NoBitSet, QuorumFixed, BadQuorum, SourceNotBelowTarget, TargetNotAboveLast}
use Rattle.model.specs.declared.Refusal.TheVariants.{SourceBelowLast, RootNotFinal, EvidenceDropped}
use Rattle.model.specs.declared.Refusal.TheVariants.{HigherVoteDropped}

-- the table's cases in its order
unfoldable pub refusals : List Refusal
refusals =
    LogTooShort ∷ LogMark ∷ LogVersion ∷ UnknownKind ∷ CutRecord ∷ MembersFixed
    ∷ BondOutOfRange ∷ IdHeld ∷ MembersFull ∷ NameHeld ∷ ParentNotHeld ∷ CheckpointsFull
    ∷ VoterNotHeld ∷ SourceNotHeld ∷ TargetNotHeld ∷ WrongHeight ∷ NotAncestor ∷ VoteHeld
    ∷ VotesFull ∷ UnsoundState ∷ PlaceNotHeld ∷ ListLength ∷ ListMark ∷ ListVersion
    ∷ IdNotRising ∷ ChargedNotHeld ∷ NotOwnVote ∷ NotEarlier ∷ NoViolation ∷ BufferTooShort
    ∷ BitWithoutMember ∷ NoBitSet ∷ QuorumFixed ∷ BadQuorum ∷ SourceNotBelowTarget ∷ TargetNotAboveLast
    ∷ SourceBelowLast ∷ RootNotFinal ∷ EvidenceDropped ∷ HigherVoteDropped ∷ []

-- the refusal with a number; the first of the table where no refusal has it
unfoldable pub refusal_of : ℕ → Refusal
refusal_of n = get_or refusals (first_index (λ r. eqb (refusal_number r) n) refusals) LogTooShort

pub refusal_back : (r : Refusal) → refusal_of (refusal_number r) ≡ r
unfolding refusal_of refusals first_index
refusal_back LogTooShort = refl
refusal_back LogMark = refl
refusal_back LogVersion = refl
refusal_back UnknownKind = refl
refusal_back CutRecord = refl
refusal_back MembersFixed = refl
refusal_back BondOutOfRange = refl
refusal_back IdHeld = refl
refusal_back MembersFull = refl
refusal_back NameHeld = refl
refusal_back ParentNotHeld = refl
refusal_back CheckpointsFull = refl
refusal_back VoterNotHeld = refl
refusal_back SourceNotHeld = refl
refusal_back TargetNotHeld = refl
refusal_back WrongHeight = refl
refusal_back NotAncestor = refl
refusal_back VoteHeld = refl
refusal_back VotesFull = refl
refusal_back UnsoundState = refl
refusal_back PlaceNotHeld = refl
refusal_back ListLength = refl
refusal_back ListMark = refl
refusal_back ListVersion = refl
refusal_back IdNotRising = refl
refusal_back ChargedNotHeld = refl
refusal_back NotOwnVote = refl
refusal_back NotEarlier = refl
refusal_back NoViolation = refl
refusal_back BufferTooShort = refl
refusal_back BitWithoutMember = refl
refusal_back NoBitSet = refl
refusal_back QuorumFixed = refl
refusal_back BadQuorum = refl
refusal_back SourceNotBelowTarget = refl
refusal_back TargetNotAboveLast = refl
refusal_back SourceBelowLast = refl
refusal_back RootNotFinal = refl
refusal_back EvidenceDropped = refl
refusal_back HigherVoteDropped = refl

pub refusal_number_injective : (a b : Refusal) → refusal_number a ≡ refusal_number b → a ≡ b
refusal_number_injective a b e = sym (refusal_back a) ∙ ap refusal_of e ∙ refusal_back b

-- a row's number is below 128, and is not 0
pub refusal_small : (r : Refusal) → (0 < refusal_number r) × (refusal_number r < 128)
refusal_small LogTooShort = (omega arith, omega arith)
refusal_small LogMark = (omega arith, omega arith)
refusal_small LogVersion = (omega arith, omega arith)
refusal_small UnknownKind = (omega arith, omega arith)
refusal_small CutRecord = (omega arith, omega arith)
refusal_small MembersFixed = (omega arith, omega arith)
refusal_small BondOutOfRange = (omega arith, omega arith)
refusal_small IdHeld = (omega arith, omega arith)
refusal_small MembersFull = (omega arith, omega arith)
refusal_small NameHeld = (omega arith, omega arith)
refusal_small ParentNotHeld = (omega arith, omega arith)
refusal_small CheckpointsFull = (omega arith, omega arith)
refusal_small VoterNotHeld = (omega arith, omega arith)
refusal_small SourceNotHeld = (omega arith, omega arith)
refusal_small TargetNotHeld = (omega arith, omega arith)
refusal_small WrongHeight = (omega arith, omega arith)
refusal_small NotAncestor = (omega arith, omega arith)
refusal_small VoteHeld = (omega arith, omega arith)
refusal_small VotesFull = (omega arith, omega arith)
refusal_small UnsoundState = (omega arith, omega arith)
refusal_small PlaceNotHeld = (omega arith, omega arith)
refusal_small ListLength = (omega arith, omega arith)
refusal_small ListMark = (omega arith, omega arith)
refusal_small ListVersion = (omega arith, omega arith)
refusal_small IdNotRising = (omega arith, omega arith)
refusal_small ChargedNotHeld = (omega arith, omega arith)
refusal_small NotOwnVote = (omega arith, omega arith)
refusal_small NotEarlier = (omega arith, omega arith)
refusal_small NoViolation = (omega arith, omega arith)
refusal_small BufferTooShort = (omega arith, omega arith)
refusal_small BitWithoutMember = (omega arith, omega arith)
refusal_small NoBitSet = (omega arith, omega arith)
refusal_small QuorumFixed = (omega arith, omega arith)
refusal_small BadQuorum = (omega arith, omega arith)
refusal_small SourceNotBelowTarget = (omega arith, omega arith)
refusal_small TargetNotAboveLast = (omega arith, omega arith)
refusal_small SourceBelowLast = (omega arith, omega arith)
refusal_small RootNotFinal = (omega arith, omega arith)
refusal_small EvidenceDropped = (omega arith, omega arith)
refusal_small HigherVoteDropped = (omega arith, omega arith)
