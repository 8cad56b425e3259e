-- The lines of a state, one after another.
use Prim.Native.Nat.{ℕ, ◌+◌, ◌<◌, ◌≤◌}
use native.Mathlib.Numerals.{add-one}
use mathlib.Core.Path.{◌≡◌, refl, sym, ap, ap₂, ◌∙◌}
use mathlib.Core.List.{List, [], ◌∷◌, ◌++◌, map, flat_map}
use mathlib.Core.Bool.{Bool, true}
use lib.ListN.{length, get_or, take}
use lib.Seq.{take-suc}
use Rattle.model.specs.Evidence.{Conduct, conduct, violator?, by_id}
use Rattle.model.specs.Finality.{status, conflicting?}
use Rattle.model.specs.Model.{Checkpoint, Member, member_at}
use Rattle.model.specs.Report.{checkpoint_text, checkpoint_line, checkpoint_lines, member_text, member_line, total_text, total_line, summary}
use Rattle.model.specs.Support.{sum, total}
use Rattle.model.specs.declared.Status.{Status}
use Rattle.state.specs.declared.Witness.{Witness}
use Rattle.state.specs.State.{member_in, height, model_of}
use Rattle.state.proofs.Entries.{count-checkpoints, member_is, checkpoint-is}
use Rattle.voters.specs.Bits.{sum_below}
use Rattle.tally.proofs.Totals.{all-sum}
use Rattle.conduct.specs.Held.{Ordered}
use Rattle.evidence.proofs.Bytes.{flat_snoc}
use Rattle.conduct.proofs.Members.{ids-held}
use Rattle.text.specs.Put.{Put}
use Rattle.text.proofs.Putting.{none, spelled, next, concat_more}

-- the line of the member at a place
abbrev pub line_at : Witness → ℕ → List ℕ
line_at w p = member_line (model_of w) (member_at (model_of w).members p)

module _ (w : Witness) (l : List ℕ) (at : ℕ) where
  pub checkpoints-more : (p : ℕ) {s : Status} {m o : List ℕ} {n k : ℕ}
      → p < w.checkpoint_count
      → s ≡ status (model_of w) p
      → Put l at (checkpoint_lines (model_of w) p) m n
      → Put m n (checkpoint_text p (get_or w.heights p (height 0)).0 s) o k
      → Put l at (checkpoint_lines (model_of w) (p + 1)) o k
  unfolding checkpoint_line
  checkpoints-more p inside stands before line =
      concat_more (checkpoint_line (model_of w)) p before
      (spelled line
      (ap₂ (checkpoint_text p) (sym (ap (λ (c : Checkpoint). c.height) (checkpoint-is w p inside))) stands))

  pub members-none : at ≤ length l → Put l at (flat_map (line_at w) []) l at
  unfolding flat_map
  members-none fits = none l at fits

  pub members-more : (k : ℕ) (places : List ℕ) {shown : Conduct} {m o : List ℕ} {n r : ℕ} → k < length places → get_or places k 0 < w.member_count
      → shown ≡ conduct (model_of w) (get_or w.ids (get_or places k 0) 0)
      → Put l at (flat_map (line_at w) (take k places)) m n
      → Put m n (member_text (get_or w.ids (get_or places k 0) 0) (get_or w.bonds (get_or places k 0) 0) shown) o r
      → Put l at (flat_map (line_at w) (take (k + 1) places)) o r
  unfolding member_line
  members-more k places {shown} inside held found before line =
      let p = get_or places k 0 in
      let x : Member = member_in w p in
      spelled (next before line)
      (ap (λ (t : List ℕ). flat_map (line_at w) (take k places) ++ t) (ap (member_text x.id x.bond) found ∙ ap (member_line (model_of w)) (sym (member_is w p held)))
      ∙ sym (flat_snoc (line_at w) (take k places) p)
      ∙ ap (flat_map (line_at w)) (sym (take-suc places k 0 inside) ∙ ap (λ (i : ℕ). take i places) (sym (add-one k))))

flat_map-map : {A B C : Type 0} (f : B → List C) (g : A → B) (xs : List A) → flat_map f (map g xs) ≡ flat_map (λ x. f (g x)) xs
unfolding flat_map
flat_map-map f g [] = refl
flat_map-map f g (x ∷ xs) = ap (λ t. f (g x) ++ t) (flat_map-map f g xs)

-- all of them, by rising id
pub members-all : (w : Witness) (fits : w.member_count ≤ length w.ids) (places : List ℕ)
    → let ids = take w.member_count w.ids in
    Ordered ids (length ids) 0 places
    → flat_map (line_at w) places ≡ flat_map (member_line (model_of w)) (by_id (model_of w).members)
members-all w fits places o =
    sym (flat_map-map (member_line (model_of w)) (member_at (model_of w).members) places) ∙ ap (flat_map (member_line (model_of w))) (o.rising (model_of w).members (ids-held w fits))

-- the three parts
pub summary-is : (w : Witness) {bonds named : ℕ} {conflict : Bool}
    → bonds ≡ sum_below w.member_count (λ i. true) (λ i. get_or w.bonds i 0)
    → named ≡ sum (violator? (model_of w)) (model_of w).members
    → conflict ≡ conflicting? (model_of w)
    → checkpoint_lines (model_of w) w.checkpoint_count ++ flat_map (member_line (model_of w)) (by_id (model_of w).members) ++ total_text bonds named conflict ≡ summary (model_of w)
unfolding summary total_line
summary-is w {conflict = conflict} b n c =
    let m = model_of w in
    ap₂ (λ (places : ℕ) (t : List ℕ). checkpoint_lines m places ++ flat_map (member_line m) (by_id m.members) ++ t)
    (sym (count-checkpoints w))
    (ap₂ (λ (bonds named : ℕ). total_text bonds named conflict) (b ∙ all-sum w) n ∙ ap (total_text (total m.members) (sum (violator? m) m.members)) c)
