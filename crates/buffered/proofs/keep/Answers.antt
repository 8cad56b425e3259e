-- `buffered::keep` meets its contract: the bytes that were moved are those that are to be kept.
use Rattle.std.proofs.Common.{◌≡◌, ◌+◌, ◌-◌, ◌≤◌, ℕ, List, length, take, drop, arith, sym, ap, ◌∙◌, length-drop, zero-add}
use Rattle.std.proofs.lemmas.List.{drop-take}
use Rattle.std.proofs.lemmas.List.Edits.{take-paste}
use Rattle.std.proofs.Math.Seq.{paste}
use Rattle.buffered.proofs.keep.Goals as goal

-- the first bytes of what was moved, by how many they are
moved : (input : List ℕ) (from n : ℕ) → from + n ≤ length input → take n (paste input 0 (drop from input) n) ≡ drop from (take (from + n) input)
moved input from n inside =
    let many : n ≤ length (drop from input) = omega (arith, length-drop from input) in
    let front : take (0 + n) (paste input 0 (drop from input) n) ≡ take n (drop from input) = take-paste input 0 (drop from input) n (omega arith) many in
    ap (λ (k : ℕ). take k (paste input 0 (drop from input) n)) (sym (zero-add n)) ∙ front ∙ sym (drop-take from n input)

pub returns-clause-input_after : goal.returns-clause-input_after
returns-clause-input_after c =
    let a = c.args in
    let all : a.from + (a.have - a.from) ≡ a.have = omega (arith, c.requires) in
    rw c.copy_within.ensures.after
    (moved a.input.now a.from (a.have - a.from) (omega (arith, c.requires)) ∙ ap (λ (n : ℕ). drop a.from (take n a.input.now)) all)
