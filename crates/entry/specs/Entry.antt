-- What rows 50 to 56 leave to decide, by what was found in the header and in an entry.
use Rattle.std.specs.Prelude.{ℕ, suc, ◌+◌, ◌*◌, ◌<◌, ◌≤◌, ◌≡◌, List, ◌∷◌, not, length, get_or, drop, Result, MatchResult}
use Rattle.model.specs.Answer.{refused, row}
use Rattle.model.specs.Bytes.{field}
use Rattle.model.specs.Checker.{entries, check_from, check}
use Rattle.model.specs.Evidence.{Charge, bond_of}
use Rattle.model.specs.Model.{Model, vote_at, member_index}
use Rattle.model.specs.Refusals.{refusal_number}
use Rattle.model.specs.Slashing.{breaks?}
use Rattle.model.specs.declared.Refusal.{Refusal}
use Rattle.entry.specs.declared.Pair.{Pair}

-- a header that rows 50 to 52 pass: the list is as long as n entries, and they decide
pub record HeaderRight (l : List ℕ) (n : ℕ) : Type 0 where
  pub exact : length l ≡ 7 + 6 * n
  pub rest : (m : Model) → check m l ≡ check_from m 0 0 (entries n (drop 7 l))

abbrev pub HeaderIs : List ℕ → Result ℕ Refusal → Type 0
HeaderIs l answer = MatchResult answer (HeaderRight l) (λ r. (m : Model) → check m l ≡ refused (refusal_number r))

-- the array of the votes' members holds them
pub record VotersHeld (m : Model) (voters : List ℕ) (n : ℕ) : Type 0 where
  pub count : length m.votes ≡ n
  pub voter : (k : ℕ) → k < n → (vote_at m.votes k).voter ≡ get_or voters k 0

-- the entry whose six bytes stand at an offset of the list
abbrev pub entry_at : ℕ → List ℕ → Charge
entry_at at l = record { id = field at 2 l; earlier = field (at + 2) 2 l; later = field (at + 4) 2 l }

-- an entry that rows 53 to 56 pass: its member's place, two votes of that member, and what is left to decide
pub record PairFound (m : Model) (floor : ℕ) (c : Charge) (member id earlier later : ℕ) : Type 0 where
  pub rising : floor ≤ id
  pub index : member ≡ member_index m.members id
  pub held : member < length m.members
  pub order : earlier < later
  pub last : later < length m.votes
  pub first-voter : (vote_at m.votes earlier).voter ≡ id
  pub last-voter : (vote_at m.votes later).voter ≡ id
  pub rest : (sum : ℕ) (cs : List Charge)
      → check_from m floor sum (c ∷ cs)
      ≡ row 57 (not (breaks? m (vote_at m.votes earlier) (vote_at m.votes later)))
      (check_from m (suc id) (sum + bond_of m.members id) cs)

abbrev pub FoundIs : Model → ℕ → Charge → Result Pair Refusal → Type 0
FoundIs m floor c answer =
    MatchResult answer (λ p. PairFound m floor c p.member p.id p.earlier p.later)
    (λ r. (sum : ℕ) (cs : List Charge) → check_from m floor sum (c ∷ cs) ≡ refused (refusal_number r))
