-- What the guard keeps a member from: in a model that holds only votes which one record signed, it is never charged.
use Rattle.std.specs.Prelude.{ℕ, ◌<◌, ◌≡◌, List, length}
use Rattle.model.specs.Answer.{answer}
use Rattle.model.specs.Bytes.{AreBytes}
use Rattle.model.specs.Checker.{check}
use Rattle.model.specs.Evidence.{Charge, Layout, KeepsRules, clear, conduct}
use Rattle.model.specs.Lists.{All}
use Rattle.model.specs.Model.{Model, vote_at}
use Rattle.guard.specs.Calls.{Request, Calls, signed_in, request_at}
use Rattle.guard.specs.Safe.{HasHeights}
use Rattle.guard.specs.declared.Guard.{Guard}
use Rattle.guard.specs.Signing.{SignAnswer}

-- k is the number of a held vote of the member with this id
pub record OwnVote (m : Model) (id k : ℕ) : Type 0 where
  pub held : k < length m.votes
  pub own : (vote_at m.votes k).voter ≡ id

-- each held vote of the member is one of the votes signed, no two the same one: `by k` says which vote k is. Some that
-- were signed may not be held, and they may have come in another order.
pub record SignedVotes (m : Model) (id : ℕ) (votes : List Request) : Type 0 where
  pub by : ℕ → ℕ
  pub inside : (k : ℕ) → OwnVote m id k → by k < length votes
  pub heights : (k : ℕ) → OwnVote m id k → HasHeights m (vote_at m.votes k) (request_at votes (by k))
  pub apart : (j k : ℕ) → OwnVote m id j → OwnVote m id k → by j ≡ by k → j ≡ k

-- the member's votes keep both conditions, so the report calls it clear, and no list that the checker passes, whoever
-- wrote it, names it
pub record NeverCharged (m : Model) (id : ℕ) : Type 0 where
  pub keeps : KeepsRules m id
  pub is-clear : conduct m id ≡ clear
  pub unnamed : (l : List ℕ) (s : ℕ) → AreBytes l → check m l ≡ answer s
      → (charges : List Charge) → Layout l charges
      → All (λ c. c.id ≡ id → ⊥) charges

-- in any model in which all votes of a member were signed by one record
abbrev pub GuardedMember : Type 0
GuardedMember =
    (g left : Guard) (rs : List Request) (answers : List SignAnswer)
    → Calls g rs answers left
    → (m : Model) (id : ℕ)
    → SignedVotes m id (signed_in rs answers)
    → NeverCharged m id
