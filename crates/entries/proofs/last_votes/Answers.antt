use Prim.Native.Nat.{ℕ, ◌+◌, ◌-◌, ◌%◌}
use native.Mathlib.Omega.{arith}
use mathlib.Core.Path.{◌≡◌, refl, sym, ap, ap₂, ◌∙◌, subst}
use mathlib.Core.List.{List, [], ◌∷◌, ◌++◌, map}
use borrow.Table.Elements.{map_app}
use lib.ListN.{length, replicate, get_or, set, take, drop, length-take, length-drop}
use lib.Seq.{take-length}
use Rattle.model.specs.Bytes.{part}
use Rattle.wire.proofs.Parts.{part-more}
use Rattle.entries.specs.Entries.{votes_in, last_rows, Written}
use Rattle.entries.proofs.Entries.{write_one, drop-zeros}
use Rattle.entries.proofs.last_votes.Goals as goal
use Rattle.entries.proofs.last_votes.Goals.{After-votes_in-n}

pub loop-i-init : goal.loop-i-init
loop-i-init c = record { count = refl; room = omega arith; bytes = refl }

-- the entries of the last record
abbrev last : After-votes_in-n → List ℕ
last c = let a = c.args in let from = a.used - c.votes_in-n.result in take (a.used - from) (drop from a.rows.now)

long : (c : After-votes_in-n) → length (last c) ≡ votes_in c.args.last
long c =
    let a = c.args in
    let from = a.used - c.votes_in-n.result in
    omega (arith, c.votes_in-n.ensures, c.requires.0, c.requires.1, length-take (a.used - from) (drop from a.rows.now), length-drop from a.rows.now)

pub loop-i-preserved : goal.loop-i-preserved
loop-i-preserved c =
    let l = c.loop-i in
    let xs = last (goal.at.loop-i-preserved c).After-votes_in-n in
    let few = long (goal.at.loop-i-preserved c).After-votes_in-n in
    let here : get_or xs (0 + l.i) 0 ≡ get_or xs l.i 0 = ap (λ (k : ℕ). get_or xs k 0) (omega arith) in
    let more : map (λ e. e % 128) (part 0 l.i xs) ++ get_or xs l.i 0 % 128 ∷ [] ≡ map (λ e. e % 128) (part 0 (l.i + 1) xs) =
    sym
    (ap (map (λ e. e % 128)) (part-more 0 l.i xs (omega (arith, c.loop-i-test.true)) ∙ ap (λ (x : ℕ). part 0 l.i xs ++ x ∷ []) here)
    ∙ map_app (λ e. e % 128) (part 0 l.i xs) (get_or xs l.i 0 ∷ [])) in
    subst (λ (w : List ℕ). Written w (replicate 128 0) (set l.votes l.i (get_or xs l.i 0 % 128)) (l.i + 1)) more
    (write_one _ l.invariant (omega (arith, c.loop-i-test.true, few, c.requires.2)))

pub returns : goal.returns
returns c =
    let l = c.loop-i in
    let a = c.args in
    let n = votes_in a.last in
    let xs = last (goal.at.returns c).After-votes_in-n in
    let few = long (goal.at.returns c).After-votes_in-n in
    let all : l.i ≡ length xs = omega (arith, c.loop-i-test.false, l.auto.i-end) in
    let from : a.used - c.votes_in-n.result ≡ a.used - n = ap (λ (k : ℕ). a.used - k) c.votes_in-n.ensures in
    let many : a.used - (a.used - c.votes_in-n.result) ≡ n = omega (arith, c.votes_in-n.ensures, c.requires.1) in
    let rows_are : map (λ e. e % 128) (part 0 l.i xs) ≡ last_rows n a.used a.rows.now =
    ap (λ (k : ℕ). map (λ e. e % 128) (take k xs)) all
    ∙ ap (map (λ e. e % 128)) (take-length xs)
    ∙ ap₂ (λ (p k : ℕ). map (λ e. e % 128) (part p k a.rows.now)) from many in
    l.invariant.bytes ∙ ap₂ (λ (x y : List ℕ). x ++ y) rows_are
    (drop-zeros l.i 128 ∙ ap (λ (k : ℕ). replicate (128 - k) 0) (l.invariant.count ∙ ap length rows_are))
