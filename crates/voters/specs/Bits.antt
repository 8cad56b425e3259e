-- The members behind a link as bits, and counts and sums over them.
use Rattle.std.specs.Prelude.{ℕ, zero, suc, ◌+◌, ◌-◌, ◌/◌, ◌%◌, ◌^◌, Bool, cond, eqb, ltb}
use Rattle.voters.specs.declared.Voters.{Voters}

-- no voter
abbrev pub nobody : Voters
nobody = record { lo = 0; hi = 0 }

-- bit i of a number
unfoldable pub bit : ℕ → ℕ → Bool
bit n i = eqb (n / 2 ^ i % 2) 1

-- the member at place i is among the voters
unfoldable pub among : Voters → ℕ → Bool
among v i = cond (ltb i 64) (bit v.lo i) (bit v.hi (i - 64))

-- the sum of f i over the i below n that pass the test
unfoldable pub sum_below : ℕ → (ℕ → Bool) → (ℕ → ℕ) → ℕ
sum_below zero p f = 0
sum_below (suc n) p f = sum_below n p f + cond (p n) (f n) 0

-- how many numbers below n pass the test
abbrev pub count_below : ℕ → (ℕ → Bool) → ℕ
count_below n p = sum_below n p (λ i. 1)
