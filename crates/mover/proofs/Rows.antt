-- The code's tests on a move of the root are the rows' of the model: by vote number, by charge, and by the heights
-- held.
use Prim.Native.Nat.{ℕ, zero, suc, ◌<◌, ◌≤◌}
use native.Mathlib.Omega.{arith}
use mathlib.Core.Path.{◌≡◌, refl, sym, ap, ap₂, ◌∙◌, subst}
use mathlib.Core.List.{List, [], ◌∷◌}
use mathlib.Core.Bool.{Bool, true, false, cond, ◌&&◌, ◌||◌, not}
use borrow.Author.Tests.{lt-ltb, le-ltb}
use lib.Dec.{ltb}
use lib.ListN.{length, get_or, length-map}
use Rattle.model.specs.Decide.{bars_root, uses_dropped, risks_evidence, dropped_higher, drops_higher}
use Rattle.model.specs.Evidence as Model
use Rattle.model.specs.Evidence.{charges}
use Rattle.model.specs.Exact.{ShowsFirst}
use Rattle.model.specs.Finality.{final?, justified?, status, conflicting?}
use Rattle.model.specs.Limits.{root_height_limit}
use Rattle.model.specs.Lists.{any, any_below, tabulate, All, none, each}
use Rattle.model.specs.Model.{Model, height_of, vote_at}
use Rattle.model.specs.Move.{kept_vote?}
use Rattle.model.specs.declared.Status.{Status}
use Rattle.model.specs.declared.Status.TheVariants.{Plain, Justified, Final}
use Rattle.model.proofs.Charges.{charges-first}
use Rattle.model.proofs.Lists.{any-tabulate, tabulate-list, or_right, or_nothing}
use Rattle.search.proofs.Pointwise.{any_same}
use Rattle.tables.specs.Places.{place_at, height_at}
use Rattle.state.specs.Sound.{Sound}
use Rattle.state.specs.State.{model_of, vote_in}
use Rattle.state.specs.declared.Witness.{Witness}
use Rattle.state.proofs.Entries.{count-votes, vote-is}
use Rattle.state.proofs.Held.{heights-held}
use Rattle.state.proofs.Sound.{source-held, target-held}
use Rattle.evidence.specs.Listed.{charge_in, charges_in}
use Rattle.evidence.specs.declared.Charge.{Charge}
use Rattle.pruning.specs.Kept.{IsKept}
use Rattle.pruning.specs.declared.Kept.{Kept}
use Rattle.mover.specs.Moved.{VotesKept, charge_at, ChargesWithin, shows_dropped}

all_in : {P : Model.Charge → Type 0} (cs : List Charge) (i : ℕ) → All P (charges_in cs) → i < length cs → P (charge_in (charge_at cs i))
all_in [] i none h = absurd (omega arith)
all_in (c ∷ cs) zero (each p ps) h = p
all_in (c ∷ cs) (suc i) (each p ps) h = all_in cs i ps (omega arith)

read_at : (cs : List Charge) (i : ℕ) → charge_in (charge_at cs i) ≡ get_or (charges_in cs) i (record { id = 0; earlier = 0; later = 0 })
read_at [] i = refl
read_at (c ∷ cs) zero = refl
read_at (c ∷ cs) (suc i) = read_at cs i

tabulated : (cs : List Charge) → tabulate (length cs) (λ i. charge_in (charge_at cs i)) ≡ charges_in cs
tabulated cs =
    let f = λ (i : ℕ). charge_in (charge_at cs i) in
    ap (λ (n : ℕ). tabulate n f) (sym (length-map cs charge_in)) ∙ tabulate-list f _ (charges_in cs) (λ i h. read_at cs i)

any_charges : (p : Model.Charge → Bool) (cs : List Charge) → any p (charges_in cs) ≡ any_below (length cs) (λ i. p (charge_in (charge_at cs i)))
any_charges p cs =
    ap (any p) (sym (tabulated cs))
    ∙ any-tabulate p (length cs) (λ i. charge_in (charge_at cs i))

-- whether a standing is final
abbrev pub final-status : Status → Bool
final-status Plain = false
final-status Justified = false
final-status Final = true

final-is : (m : Model) (p : ℕ) → final-status (status m p) ≡ final? m p
unfolding status
final-is m p = go (final? m p) (justified? m p)
  where
    go : (f j : Bool) → final-status (cond f Final (cond j Justified Plain)) ≡ f
    go true j = refl
    go false true = refl
    go false false = refl

module _ (w : Witness) (s : Sound w) (r : ℕ) where
  height-is : (p : ℕ) → p < w.checkpoint_count → height_of (model_of w).checkpoints p ≡ height_at w.heights p
  height-is p h = (heights-held w).height p h

  -- ---- which votes stay

  pub kept_at : {k : Kept} → IsKept w r k → (i : ℕ) → i < w.vote_count
      → (get_or k.stays (place_at w.sources i) false && get_or k.stays (place_at w.targets i) false)
      ≡ kept_vote? (model_of w).checkpoints r (vote_in w i)
  unfolding kept_vote?
  kept_at is i h = ap₂ ◌&&◌ (is.stays _ (source-held w s i h)) (is.stays _ (target-held w s i h))

  module _ (votes : List Bool) (kept : VotesKept w r votes) where
    -- ---- row 72

    -- the vote with a number does not stay, and its target is higher
    abbrev pub drops_at : ℕ → ℕ → Bool
    drops_at root i = not (get_or votes i false) && ltb root (height_at w.heights (place_at w.targets i))

    votes_are : (model_of w).votes ≡ tabulate w.vote_count (vote_in w)
    unfolding model_of
    votes_are = refl

    drops_at_lem : r < w.checkpoint_count → (i : ℕ) → i < w.vote_count
        → dropped_higher (model_of w) r (vote_in w i) ≡ drops_at (height_at w.heights r) i
    unfolding dropped_higher
    drops_at_lem held i h =
        ap₂ ◌&&◌ (ap not (sym (kept i h))) (ap₂ ltb (height-is r held) (height-is _ (target-held w s i h)))

    pub drops_higher_lem : r < w.checkpoint_count
        → any_below w.vote_count (drops_at (height_at w.heights r))
        ≡ drops_higher (model_of w) r
    unfolding drops_higher
    drops_higher_lem held =
        sym
        (ap (any (dropped_higher (model_of w) r)) votes_are
        ∙ any-tabulate (dropped_higher (model_of w) r) w.vote_count (vote_in w)
        ∙ any_same w.vote_count _ _ (drops_at_lem held))

    -- ---- row 71, the charges

    module _ (cs : List Charge) (ours : charges_in cs ≡ charges (model_of w)) where
      shows : (i : ℕ) → i < length cs → ShowsFirst (model_of w) (charge_in (charge_at cs i))
      shows i h = all_in cs i (subst (All (ShowsFirst (model_of w))) (sym ours) (charges-first (model_of w))) h

      later-held : (i : ℕ) → i < length cs → (charge_at cs i).later < w.vote_count
      later-held i h = omega (arith, (shows i h).pair.held, count-votes w)

      earlier-held : (i : ℕ) → i < length cs → (charge_at cs i).earlier < w.vote_count
      earlier-held i h = omega (arith, (shows i h).pair.order, later-held i h)

      pub charges-within : ChargesWithin w.vote_count cs
      charges-within i h = (earlier-held i h, later-held i h)

      stays_at : (i : ℕ) → i < w.vote_count
          → kept_vote? (model_of w).checkpoints r (vote_at (model_of w).votes i) ≡ get_or votes i false
      stays_at i h = ap (kept_vote? (model_of w).checkpoints r) (vote-is w i h) ∙ sym (kept i h)

      uses_at : (i : ℕ) → i < length cs → uses_dropped (model_of w) r (charge_in (charge_at cs i)) ≡ shows_dropped votes cs i
      unfolding uses_dropped
      uses_at i h =
          ap₂ ◌||◌ (ap not (stays_at _ (earlier-held i h))) (ap not (stays_at _ (later-held i h)))

      -- the conflict answer, or what the charges show
      pub risks_evidence_lem : {clash dropped : Bool}
          → clash ≡ conflicting? (model_of w)
          → dropped ≡ any_below (length cs) (shows_dropped votes cs)
          → (clash || dropped) ≡ risks_evidence (model_of w) r
      unfolding risks_evidence
      risks_evidence_lem clash dropped =
          ap₂ ◌||◌ clash
          (dropped
          ∙ sym
          (ap (any (uses_dropped (model_of w) r)) (sym ours)
          ∙ any_charges (uses_dropped (model_of w) r) cs
          ∙ any_same (length cs) _ _ uses_at))

  -- ---- row 70

  pub too_high : r < w.checkpoint_count → root_height_limit < height_at w.heights r → true ≡ bars_root (model_of w) r
  unfolding bars_root
  too_high held h =
      sym
      (or_right (not (final? (model_of w) r)) _
      (ap (ltb root_height_limit) (height-is r held) ∙ lt-ltb root_height_limit _ h))

  -- not higher: by whether the standing is another than final
  pub low-enough : r < w.checkpoint_count → height_at w.heights r ≤ root_height_limit
      → {s : Status} → s ≡ status (model_of w) r → not (final-status s) ≡ bars_root (model_of w) r
  unfolding bars_root
  low-enough held h {s} e =
      sym (or_nothing (not (final-status s)))
      ∙ ap₂ (λ (f : Bool) (far : Bool). not f || far)
      (ap final-status e ∙ final-is (model_of w) r)
      (sym (ap (ltb root_height_limit) (height-is r held) ∙ le-ltb root_height_limit _ h))
