-- Votes of one member that are not the same vote: the conditions ask no more than their heights.
use mathlib.Core.Path.{◌≡◌, refl}
use mathlib.Core.Bool.{Bool, true, false, ◌&&◌, ◌||◌, not, true≢false}
use lib.Dec.{eqb}
use Rattle.model.specs.Model.{Model, Vote, same_vote, height_of}
use Rattle.model.specs.Slashing.{heights_break, breaks?}

apart : (a b c d : Bool) → (a && b && c) ≡ false → (a && (not b || not c) && d) ≡ (a && d)
apart true true true d e = absurd (true≢false e)
apart true true false d e = refl
apart true false c d e = refl
apart false b c d e = refl

-- two votes of one member that are not the same vote break a condition exactly when their heights do
pub heights_break_lem : (m : Model) (v w : Vote) → same_vote v w ≡ false
    → let h = height_of m.checkpoints in
    breaks? m v w
    ≡ (eqb v.voter w.voter && heights_break (h v.source) (h v.target) (h w.source) (h w.target))
unfolding breaks?
heights_break_lem m v w e =
    apart (eqb v.voter w.voter) (eqb v.source w.source) (eqb v.target w.target) _ e
