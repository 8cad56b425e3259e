-- Numbers in chains, one for each slot. A number stands in a chain by itself plus 1, and 0 ends the chain: `head` has the last
-- number of a slot, `next` the last before a number that has its slot.
use Rattle.std.specs.Prelude.{ℕ, zero, suc, ◌%◌, ◌<◌, ◌≡◌, List, Bool, true, cond, eqb, length, get_or}
use Rattle.model.specs.Limits.{vote_limit}

-- the last number below n that passes the test, plus 1; 0 where none does
unfoldable pub last_below : ℕ → (ℕ → Bool) → ℕ
last_below zero p = 0
last_below (suc n) p = cond (p n) (suc n) (last_below n p)

-- each number below `count` leads to the last before it that has its slot
pub record Linked (slot : ℕ → ℕ) (count : ℕ) (next : List ℕ) : Type 0 where
  pub long : length next ≡ vote_limit
  pub nexts : (k : ℕ) → k < count → get_or next k 0 ≡ last_below k (λ i. eqb (slot i) (slot k))

-- the numbers below `count` are in chains, by slots below `size`
pub record Bucketed (slot : ℕ → ℕ) (size count : ℕ) (head next : List ℕ) : Type 0 where
  pub heads : (t : ℕ) → t < size → get_or head t 0 ≡ last_below count (λ i. eqb (slot i) t)
  pub linked : Linked slot count next

-- the numbers below `count` that pass the test are a chain that begins with `from`
pub record Chain (on : ℕ → Bool) (count : ℕ) (next : List ℕ) (from : ℕ) : Type 0 where
  pub head : from ≡ last_below count on
  pub nexts : (k : ℕ) → k < count → on k ≡ true → get_or next k 0 ≡ last_below k on

-- the slot of the k-th of a table's numbers
abbrev pub slot_of : List ℕ → ℕ → ℕ
slot_of numbers k = get_or numbers k 0 % 4093

-- the first `count` numbers are in chains by their slots
pub record Indexed (count : ℕ) (numbers heads nexts : List ℕ) : Type 0 where
  pub numbers-long : length numbers ≡ vote_limit
  pub heads-long : length heads ≡ 4093
  pub bucketed : Bucketed (slot_of numbers) 4093 count heads nexts
