-- `buffered::is_whole` meets its contract.
use Rattle.std.proofs.Common.{◌≡◌, ℕ, List, [], ◌∷◌, Some, None, false, length, refl}
use lib.Dec.{leb}
use Rattle.std.specs.List.{slice_get}
use Rattle.model.specs.Log.{record_size}
use Rattle.buffered.specs.Hold.{whole?}
use Rattle.buffered.proofs.is_whole.Goals as goal

-- no bytes
none : (s : List ℕ) → None ≡ slice_get s 0 → false ≡ whole? s
unfolding whole?
none [] e = refl
none (kind ∷ rest) e = absurd (cc e)

-- by the first byte
by_kind : (s : List ℕ) (k n : ℕ) → Some k ≡ slice_get s 0 → n ≡ record_size k → leb n (length s) ≡ whole? s
unfolding whole?
by_kind [] k n e size = absurd (cc e)
by_kind (kind ∷ rest) k n e size =
    let same : k ≡ kind = cc e in
    rw (size, same)

pub returns-in_default : goal.returns-in_default
returns-in_default c = none c.args.bytes.now c.in_default.ensures.value

pub returns : goal.returns
returns c = by_kind c.args.bytes.now c.in-Some.kind.now c.record_size.result c.in-Some.ensures.value c.record_size.ensures
