-- What writing a text at an offset of a lent buffer leaves.
use Rattle.std.specs.Prelude.{ℕ, ◌+◌, ◌≤◌, ◌≡◌, List, ◌++◌, length, take, drop}

-- The text stands at the offset, and all else is as it was; `next` is the offset past it. That it fits is a part, so
-- that one such fact after another needs no side condition.
pub record Put (before : List ℕ) (at : ℕ) (text after : List ℕ) (next : ℕ) : Type 0 where
  pub fits : at + length text ≤ length before
  pub past : next ≡ at + length text
  pub left : after ≡ take at before ++ text ++ drop (at + length text) before
