-- Reading came so far: one turn more, and the last of them.
use Prim.Native.Nat.{ℕ}
use mathlib.Core.Path.{◌≡◌, refl, sym, subst}
use mathlib.Core.List.{List}
use Rattle.turns.specs.declared.Fate.TheVariants.{Open}
use Rattle.turns.specs.declared.Turn.{Turn}
use Rattle.steps.specs.Turns.{Stepped}
use Rattle.stream.specs.Reads.{one_more, Reads, Leaves, IsRead}
use Rattle.stream.specs.declared.Log.{Log}

-- one turn more
pub turned : (room : ℕ) {had : ℕ} {t r : Turn} {input after : List ℕ} → had ≡ room → Reads room t input → t.fate ≡ Open → Stepped t input had r after → Reads room r after
turned room {had} {t} {r} {input} {after} same reads goes_on stepped =
    record {
      log = _;
      text = _;
      reached = one_more reads.reached (record { goes_on = goes_on; stepped = subst (λ (n : ℕ). Stepped t input n r after) same stepped; came = refl; wrote = refl });
    }

-- the last of them
pub is_read : {room had : ℕ} {t : Turn} {input : List ℕ} {r : Log} → room ≡ had → Reads had t input → Leaves t r → IsRead room r
is_read {room} {had} {t} {input} {r} same reads leaves =
    record { turn = t; input = input; reads = subst (λ (n : ℕ). Reads n t input) (sym same) reads; leaves = leaves }
