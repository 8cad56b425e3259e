-- Pairs of votes that break a condition, over the votes' numbers and heights.
use Rattle.std.specs.Prelude.{ℕ, zero, suc, List, [], ◌∷◌, Bool, Option, Some, None, cond, get_or, eqb}
use Rattle.model.specs.Evidence.{Conduct, clear, broken}
use Rattle.model.specs.Lists.{any, first_index}
use Rattle.model.specs.Slashing.{heights_break}
use Rattle.state.specs.State.{height}
use Rattle.conduct.specs.declared.Span.{Span}

-- what stands at an index past the spans
abbrev pub no_span : Span
no_span = record { low = height 0; high = height 0 }

abbrev pub span_at : List Span → ℕ → Span
span_at spans i = get_or spans i no_span

-- two votes by their heights
abbrev pub spans_break : Span → Span → Bool
spans_break a b = heights_break a.low.0 a.high.0 b.low.0 b.high.0

-- the votes with these numbers
abbrev pub break_at : List Span → ℕ → ℕ → Bool
break_at spans i j = spans_break (span_at spans i) (span_at spans j)

-- the first element that passes the test, where one does
abbrev pub first_of : (ℕ → Bool) → List ℕ → Option ℕ
first_of p xs = cond (any p xs) (Some (get_or xs (first_index p xs) 0)) None

-- of m numbers, from i on, those that pass the test
unfoldable pub passing : (ℕ → Bool) → ℕ → ℕ → List ℕ
passing p i zero = []
passing p i (suc m) = cond (p i) (i ∷ passing p (suc i) m) (passing p (suc i) m)

-- the numbers of a member's votes, of n votes
abbrev pub own_votes : List ℕ → ℕ → ℕ → List ℕ
own_votes voters id n = passing (λ i. eqb (get_or voters i 0) id) 0 n

-- the first number that passes the test with a later one, and the first later one
unfoldable pub pair_in : (ℕ → ℕ → Bool) → List ℕ → Conduct
pair_in p [] = clear
pair_in p (i ∷ is) = cond (any (p i) is) (broken i (get_or is (first_index (p i) is) 0)) (pair_in p is)
