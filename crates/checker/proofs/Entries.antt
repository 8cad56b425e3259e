-- The entries of a list against the arrays of a sound witness: what one turn of the checker's loop reads and adds.
use Prim.Native.Nat.{ℕ, suc, ◌+◌, ◌-◌, ◌*◌, ◌<◌, ◌≤◌}
use native.Mathlib.Omega.{arith}
use native.Mathlib.Numerals.{add-one}
use mathlib.Core.Path.{◌≡◌, sym, ap, ap₂, ◌∙◌}
use mathlib.Core.List.{List, ◌∷◌}
use mathlib.Core.Bool.{Bool, false, ◌&&◌, not}
use borrow.Author.Tests.{eq-eqb}
use lib.ListN.{length, get_or, take, drop}
use lib.Seq.{drop-drop, length-take-le, get_or-take, take-take}
use lib.Dec.{eqb}
use Rattle.model.specs.Answer.{Answer, answer, row}
use Rattle.model.specs.Bytes.{field}
use Rattle.model.specs.Checker.{entries, check_from}
use Rattle.model.specs.Evidence.{Charge, bond_of}
use Rattle.model.specs.Limits.{member_limit, checkpoint_limit, vote_limit, bond_limit}
use Rattle.model.specs.Lists.{first_index}
use Rattle.model.specs.Model.{Model, Member, Vote, member_at, vote_at, height_of, same_vote}
use Rattle.model.specs.Slashing.{breaks?, heights_break}
use Rattle.slashing.proofs.Heights.{heights_break_lem}
use Rattle.state.specs.declared.Witness.{Witness}
use Rattle.state.specs.Sound.{Sound}
use Rattle.state.specs.State.{place, model_of}
use Rattle.state.specs.Tables.{MembersHeld}
use Rattle.state.proofs.Entries.{count-members, count-votes, member_is, vote-is}
use Rattle.state.proofs.Fields.{field_at}
use Rattle.state.proofs.Held.{members-held}
use Rattle.state.proofs.Sound.{few-members, few-checkpoints, few-votes, ids-long, voters-long, source-held, target-held, source-height, target-height}
use Rattle.entry.specs.Entry.{VotersHeld, entry_at, PairFound}
use Rattle.checker.specs.Check.{low_of, high_of}

-- ---- the entries that are left

-- the entry at an offset, then those after it
entries_at : (n at : ℕ) (l : List ℕ) → entries (suc n) (drop at l) ≡ entry_at at l ∷ entries n (drop (at + 6) l)
unfolding entries field
entries_at n at l =
    ap₂ ◌∷◌
    (λ i. record { id = field at 2 l; earlier = field_at at 2 2 l i; later = field_at at 4 2 l i })
    (ap (entries n) (drop-drop 6 at l))

entries-more : (count i : ℕ) (l : List ℕ) → i < count
    → entries (count - i) (drop (7 + 6 * i) l)
    ≡ entry_at (7 + 6 * i) l ∷ entries (count - (i + 1)) (drop (7 + 6 * (i + 1)) l)
entries-more count i l h =
    let less : count - i ≡ suc (count - (i + 1)) = omega arith in
    let next : 7 + 6 * i + 6 ≡ 7 + 6 * (i + 1) = omega arith in
    ap (λ (n : ℕ). entries n (drop (7 + 6 * i) l)) less
    ∙ entries_at (count - (i + 1)) (7 + 6 * i) l
    ∙ ap (λ (at : ℕ). entry_at (7 + 6 * i) l ∷ entries (count - (i + 1)) (drop at l)) next

-- what the entries left come to, the first of them written out
pub next-entry : (m : Model) (floor sum count i : ℕ) (l : List ℕ) {whole : Answer ℕ} → i < count
    → check_from m floor sum (entries (count - i) (drop (7 + 6 * i) l)) ≡ whole
    → check_from m floor sum (entry_at (7 + 6 * i) l ∷ entries (count - (i + 1)) (drop (7 + 6 * (i + 1)) l)) ≡ whole
next-entry m floor sum count i l h e = sym (ap (check_from m floor sum) (entries-more count i l h)) ∙ e

pub entries_none : (m : Model) (floor sum count i : ℕ) (l : List ℕ) → count ≤ i
    → check_from m floor sum (entries (count - i) l) ≡ answer sum
unfolding entries check_from
entries_none m floor sum count i l h =
    let none : count - i ≡ 0 = omega arith in
    ap (λ (n : ℕ). check_from m floor sum (entries n l)) none

-- ---- two distinct votes of one member

-- two votes of one member break a condition exactly when their heights do
breaks_by_heights : (m : Model) (v w : Vote) → v.voter ≡ w.voter → same_vote v w ≡ false
    → let h = height_of m.checkpoints in
    breaks? m v w ≡ heights_break (h v.source) (h v.target) (h w.source) (h w.target)
breaks_by_heights m v w e d =
    let h = height_of m.checkpoints in
    heights_break_lem m v w d
    ∙ ap (λ (b : Bool). b && heights_break (h v.source) (h v.target) (h w.source) (h w.target))
    (eq-eqb _ _ e)

-- ---- the arrays of a witness, of which slices as long as what is held are handed on

-- two votes break a condition, by the heights of their places
abbrev pub broken : Witness → ℕ → ℕ → Bool
broken w i j = heights_break (low_of w i) (high_of w i) (low_of w j) (high_of w j)

module _ (w : Witness) (sound : Sound w) where
  pub ids-held : MembersHeld (model_of w) (take w.member_count w.ids) (length (take w.member_count w.ids))
  ids-held =
      let n = w.member_count in
      let long : length (take n w.ids) ≡ n = length-take-le n w.ids (ids-long w sound) in
      let held = members-held w (ids-long w sound) in
      record {
        count = held.count ∙ sym long;
        index = λ id. held.index id ∙ ap (first_index (λ x. eqb x id)) (sym (ap (λ (k : ℕ). take k (take n w.ids)) long ∙ take-take n n w.ids (omega arith)));
      }

  pub voters-held : VotersHeld (model_of w) (take w.vote_count w.voters) (length (take w.vote_count w.voters))
  voters-held =
      let n = w.vote_count in
      let long : length (take n w.voters) ≡ n = length-take-le n w.voters (voters-long w sound) in
      record {
        count = count-votes w ∙ sym long;
        voter = λ k h. ap (λ (v : Vote). v.voter) (vote-is w k (omega (arith, long))) ∙ sym (get_or-take n w.voters k 0 (omega (arith, long)));
      }

  -- the places and heights of a vote are read inside the arrays
  module _ {k : ℕ} (h : k < w.vote_count) where
    pub vote-inside : k < vote_limit
    vote-inside = omega (arith, few-votes w sound)

    pub source-inside : (get_or w.sources k (place 0)).0 < checkpoint_limit
    source-inside = omega (arith, source-held w sound k h, few-checkpoints w sound)

    pub target-inside : (get_or w.targets k (place 0)).0 < checkpoint_limit
    target-inside = omega (arith, target-held w sound k h, few-checkpoints w sound)

  module _ {floor : ℕ} {c : Charge} {member id a b : ℕ} (p : PairFound (model_of w) floor c member id a b) where
    pub first-held : a < w.vote_count
    first-held = omega (arith, p.order, p.last, count-votes w)

    pub last-held : b < w.vote_count
    last-held = omega (arith, p.last, count-votes w)

    pub bond-inside : member < member_limit
    bond-inside = omega (arith, p.held, count-members w, few-members w sound)

    bond-read : (member_at (model_of w).members member).bond ≡ get_or w.bonds member 0
    bond-read = ap (λ (x : Member). x.bond) (member_is w member (omega (arith, p.held, count-members w)))

    pub bond-small : get_or w.bonds member 0 ≤ bond_limit
    bond-small = omega (arith, bond-read, sound.good.members.bond-high member p.held)

    bond-of : bond_of (model_of w).members id ≡ get_or w.bonds member 0
    unfolding bond_of
    bond-of = ap (λ (k : ℕ). (member_at (model_of w).members k).bond) (sym p.index) ∙ bond-read

    test_read : breaks? (model_of w) (vote_at (model_of w).votes a) (vote_at (model_of w).votes b) ≡ broken w a b
    test_read =
        breaks_by_heights _ _ _ (p.first-voter ∙ sym p.last-voter) (sound.good.distinct a b p.order p.last)
        ∙ (λ i.
        heights_break (source-height w sound a first-held i) (target-height w sound a first-held i)
        (source-height w sound b last-held i) (target-height w sound b last-held i))

    -- row 57 by the heights, and what the turn adds
    pub last_row : (sum : ℕ) (cs : List Charge) {b57 : Bool}
        → broken w a b ≡ b57
        → check_from (model_of w) floor sum (c ∷ cs)
        ≡ row 57 (not b57) (check_from (model_of w) (id + 1) (sum + get_or w.bonds member 0) cs)
    last_row sum cs {b57} e =
        p.rest sum cs
        ∙ ap (λ (b : Bool). row 57 (not b) (check_from (model_of w) (suc id) (sum + bond_of (model_of w).members id) cs))
        (test_read ∙ e)
        ∙ ap₂ (λ (f b : ℕ). row 57 (not b57) (check_from (model_of w) f (sum + b) cs)) (sym (add-one id)) bond-of
