-- Breaking pairs of a part are those of the whole among kept votes, so that the pair shown is the same.
use Prim.Native.Nat.{ℕ, ◌<◌}
use native.Mathlib.Omega.{arith}
use mathlib.Core.Path.{◌≡◌, refl, sym, ap, ◌∙◌, subst₂}
use mathlib.Core.Logic.{⊎_elim}
use lib.ListN.{length}
use Rattle.model.specs.Evidence.{Conduct, clear, broken, conduct}
use Rattle.model.specs.Exact.{BreakingPair, NotAfter, earlier, no-later, FirstPair, Violation}
use Rattle.model.specs.Model.{Model, Vote, height_of, vote_at}
use Rattle.model.specs.Slashing.{Distinct, other-source, other-target, SurroundVote, Condition, double, surrounds}
use Rattle.model.specs.Slashing.{surrounded, Breaks}
use Rattle.model.proofs.Conduct.{conduct-exact, two-votes}
use Rattle.model.proofs.Lists.{lt_or_ge}
use Rattle.moves.specs.Part.{Part, shifted}
use Rattle.moves.proofs.Part.{Within, place_same}
use Rattle.comparison.specs.Compare.{renumbered}
use Rattle.comparison.proofs.Tied.{Shown}

not_after_trans : {i j a b x y : ℕ} → NotAfter i j a b → NotAfter a b x y → NotAfter i j x y
not_after_trans (earlier l) (earlier k) = earlier (omega arith)
not_after_trans (earlier l) (no-later e k) = earlier (omega arith)
not_after_trans (no-later e l) (earlier k) = earlier (omega arith)
not_after_trans (no-later e l) (no-later q k) = no-later (e ∙ q) (omega arith)

-- two votes of one member, in two models, between the same heights
pub record SameHeights (m n : Model) (v x : Vote) : Type 0 where
  pub voter : v.voter ≡ x.voter
  pub source : height_of m.checkpoints v.source ≡ height_of n.checkpoints x.source
  pub target : height_of m.checkpoints v.target ≡ height_of n.checkpoints x.target

pub same_back : {m n : Model} {v x : Vote} → SameHeights m n v x → SameHeights n m x v
same_back s = record { voter = sym s.voter; source = sym s.source; target = sym s.target }

surrounds_by_heights : {m n : Model} {v u x y : Vote} → SameHeights m n v x → SameHeights m n u y
    → SurroundVote m v u → SurroundVote n x y
surrounds_by_heights one other s =
    record {
      below = omega (arith, s.below, one.source, other.source);
      inside = omega (arith, s.inside, other.source, other.target);
      above = omega (arith, s.above, one.target, other.target);
    }

-- whether distinct votes break a condition is a matter of heights
pub breaks_by_heights : {m n : Model} {v u x y : Vote} → SameHeights m n v x → SameHeights m n u y
    → (Distinct v u → Distinct x y) → Breaks m v u → Breaks n x y
breaks_by_heights {m} {n} {v} {u} {x} {y} one other distinct k =
    record {
      one-voter = sym one.voter ∙ k.one-voter ∙ other.voter;
      distinct = distinct k.distinct;
      condition = same k.condition;
    }
  where
    same : Condition m v u → Condition n x y
    same (double d) = double (record { equal = sym one.target ∙ d.equal ∙ other.target })
    same (surrounds s) = surrounds (surrounds_by_heights one other s)
    same (surrounded s) = surrounded (surrounds_by_heights other one s)

module _ {b w : Model} {place number : ℕ → ℕ} (within : Within b w place number) where
  abbrev part : Part b w place number
  part = within.part

  abbrev Inside : Vote → Type 0
  Inside v = (v.source < length b.checkpoints) × (v.target < length b.checkpoints)

  inside : (i : ℕ) → i < length b.votes → Inside (vote_at b.votes i)
  inside i h = (part.source i h, part.target i h)

  shifted-heights : (v : Vote) → Inside v → SameHeights b w v (shifted place v)
  shifted-heights v (s, t) =
      record { voter = refl; source = part.height v.source s; target = part.height v.target t }

  breaks-up : (v u : Vote) → Inside v → Inside u → Breaks b v u → Breaks w (shifted place v) (shifted place u)
  breaks-up v u hv hu = breaks_by_heights (shifted-heights v hv) (shifted-heights u hu) other
    where
      other : Distinct v u → Distinct (shifted place v) (shifted place u)
      other (other-source d) = other-source (λ e. d (place_same within _ _ hv.0 hu.0 e))
      other (other-target d) = other-target (λ e. d (place_same within _ _ hv.1 hu.1 e))

  breaks-down : (v u : Vote) → Inside v → Inside u → Breaks w (shifted place v) (shifted place u) → Breaks b v u
  breaks-down v u hv hu =
      breaks_by_heights (same_back (shifted-heights v hv)) (same_back (shifted-heights u hu)) other
    where
      other : Distinct (shifted place v) (shifted place u) → Distinct v u
      other (other-source d) = other-source (λ e. d (ap place e))
      other (other-target d) = other-target (λ e. d (ap place e))

  pair-up : {id i j : ℕ} → BreakingPair b id i j → BreakingPair w id (number i) (number j)
  pair-up {id} {i} {j} p =
      let hi : i < length b.votes = omega (arith, p.order, p.held) in
      let hj = p.held in
      record {
        order = part.vote-rises i j p.order hj;
        held = part.vote-inside j hj;
        voter = ap (λ (v : Vote). v.voter) (part.vote i hi) ∙ p.voter;
        breaks = subst₂ (Breaks w) (sym (part.vote i hi)) (sym (part.vote j hj))
            (breaks-up _ _ (inside i hi) (inside j hj) p.breaks);
      }

  pair-down : (id i j : ℕ) → i < length b.votes → j < length b.votes
      → BreakingPair w id (number i) (number j) → BreakingPair b id i j
  pair-down id i j hi hj p =
      record {
        order = order;
        held = hj;
        voter = sym (ap (λ (v : Vote). v.voter) (part.vote i hi)) ∙ p.voter;
        breaks = breaks-down _ _ (inside i hi) (inside j hj)
            (subst₂ (Breaks w) (part.vote i hi) (part.vote j hj) p.breaks);
      }
    where
      order : i < j
      order =
          ⊎_elim
          (λ l. l)
          (λ l. ⊎_elim
          (λ g. absurd (omega (arith, part.vote-rises j i g hi, p.order)))
          (λ g. let e : i ≡ j = omega arith in absurd (omega (arith, ap number e, p.order)))
          (lt_or_ge j i))
          (lt_or_ge i j)

  not_after_up : {i j a c : ℕ} → a < length b.votes → c < length b.votes → NotAfter i j a c
      → NotAfter (number i) (number j) (number a) (number c)
  not_after_up {i} {j} {a} {c} ha hc (earlier l) = earlier (part.vote-rises i a l ha)
  not_after_up {i} {j} {a} {c} ha hc (no-later e l) =
      no-later (ap number e)
      (⊎_elim
      (λ g. omega (arith, part.vote-rises j c g hc))
      (λ g. let q : j ≡ c = omega arith in omega (arith, ap number q))
      (lt_or_ge j c))

  -- a pair of the part, no later than the pair of the votes a and c of the whole
  pub record Inner (id a c : ℕ) : Type 0 where
    pub one : ℕ
    pub other : ℕ
    pub pair : BreakingPair b id one other
    pub before : NotAfter (number one) (number other) a c

  -- a pair of kept votes is a pair of the part
  pub inner : Shown w (place 0) → (id a c : ℕ) → BreakingPair w id a c → Inner id a c
  inner shown id a c p =
      let k = shown id a c p in
      let x = part.vote-whole k.one (omega (arith, k.pair.order, k.pair.held)) k.one_kept in
      let y = part.vote-whole k.other k.pair.held k.other-kept in
      record {
        one = x.at;
        other = y.at;
        pair = pair-down id x.at y.at x.inside y.inside
            (subst₂ (BreakingPair w id) (sym x.is) (sym y.is) k.pair);
        before = subst₂ (λ (i j : ℕ). NotAfter i j a c) (sym x.is) (sym y.is) k.before;
      }

  pub first-up : Shown w (place 0) → (id i j : ℕ) → FirstPair b id i j → FirstPair w id (number i) (number j)
  first-up shown id i j f = record { pair = pair-up f.pair; first = first }
    where
      first : (a c : ℕ) → BreakingPair w id a c → NotAfter (number i) (number j) a c
      first a c p =
          let k = inner shown id a c p in
          let one : k.one < length b.votes = omega (arith, k.pair.order, k.pair.held) in
          not_after_trans (not_after_up one k.pair.held (f.first k.one k.other k.pair)) k.before

  -- the pair shown is the same, by the numbers of the whole
  pub conduct-same : Shown w (place 0) → (id : ℕ) → conduct w id ≡ renumbered number (conduct b id)
  unfolding renumbered
  conduct-same shown id = go (conduct b id) refl
    where
      keeps : conduct b id ≡ clear → Violation w id → ⊥
      keeps e v =
          let k = inner shown id v.one v.other v.pair in
          (conduct-exact b id).clears.0 e k.one k.other (omega (arith, k.pair.order, k.pair.held))
          k.pair.held k.pair.voter k.pair.breaks

      go : (c : Conduct) → conduct b id ≡ c → conduct w id ≡ renumbered number (conduct b id)
      go clear e =
          (conduct-exact w id).clears.1 (λ i j hi hj v x. keeps e (two-votes w id i j hi hj v x))
          ∙ ap (renumbered number) (sym e)
      go (broken i j) e =
          ((conduct-exact w id).shows (number i) (number j)).1
          (first-up shown id i j (((conduct-exact b id).shows i j).0 e))
          ∙ ap (renumbered number) (sym e)
