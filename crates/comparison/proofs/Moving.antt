-- A move of the root keeps the tie.
use Prim.Native.Nat.{ℕ, ◌<◌, ◌≤◌}
use native.Mathlib.Omega.{arith}
use mathlib.Core.Path.{◌≡◌, sym, ap, ◌∙◌, subst}
use mathlib.Core.Logic.{◌⊎◌, inl, inr, ⊎_elim}
use mathlib.Core.List.{List}
use lib.ListN.{length}
use Rattle.model.specs.Answer.{Answer}
use Rattle.model.specs.Change.{Change, append, append_all, single, decided}
use Rattle.model.specs.Finality.{Final, ConflictingFinals}
use Rattle.model.specs.Model.{Model, Checkpoint, Vote, height_of, vote_at}
use Rattle.model.specs.Move.{moved}
use Rattle.model.specs.Run.{moving, decide_event}
use Rattle.model.specs.Tree.{Ancestor}
use Rattle.model.specs.WellFormed.{WellFormed}
use Rattle.model.proofs.Finality.{final-held}
use Rattle.model.proofs.Lists.{all_of}
use Rattle.model.proofs.Rows.{move_rows, move_elim}
use Rattle.model.proofs.Tree.{ancestor_trans}
use Rattle.moves.specs.Part.{Kept, Part, shifted, place_before, number_before}
use Rattle.moves.proofs.Moved.{moved-part, root-first}
use Rattle.moves.proofs.Part.{part-good, part_of_part, places-kept, ancestor-up}
use Rattle.moves.specs.Allowed.{Allowed}
use Rattle.moves.proofs.Allowed.{passes-allowed}
use Rattle.comparison.proofs.Allowed.{first-kept, low-sources}
use Rattle.comparison.proofs.Pairs.{inner, first-up}
use Rattle.comparison.proofs.Standing.{final-up, final-down}
use Rattle.comparison.proofs.Tied.{Low, Frozen, Shown, Tied, Bound, kept_high, kept_or_not}

module _ {b w : Model} {place number : ℕ → ℕ} (tied : Tied b w place number) (r : ℕ) (allowed : Allowed b r) where
  abbrev bc : List Checkpoint
  bc = b.checkpoints

  abbrev wc : List Checkpoint
  wc = w.checkpoints

  abbrev part : Part b w place number
  part = tied.within.part

  b-good : WellFormed b
  b-good = part-good tied.within

  r_kept : Kept wc (place 0) (place r)
  r_kept = places-kept tied.within r allowed.held

  in_or_out : (p : ℕ) → Kept wc (place 0) p ⊎ (Kept wc (place 0) p → ⊥)
  in_or_out p = kept_or_not wc tied.within.good.tree (place 0) p

  -- kept by r in the part, and by its place in the whole
  keep-up : (i : ℕ) → Kept bc r i → Kept wc (place r) (place i)
  keep-up i (inl e) = inl (ap place e)
  keep-up i (inr up) = inr (ancestor-up tied.within up)

  new-final : Final w (place r)
  new-final = final-up tied.within tied.final tied.low allowed.final

  new-low : Low w (place r)
  new-low k h out = ⊎_elim in_part beside (in_or_out (vote_at w.votes k).source)
    where
      in_part : Kept wc (place 0) (vote_at w.votes k).source
          → height_of wc (vote_at w.votes k).target ≤ height_of wc (place r)
      in_part s =
          let a = part.vote-whole k h s in
          let v = vote_at b.votes a.at in
          let is : vote_at w.votes k ≡ shifted place v =
          ap (vote_at w.votes) (sym a.is) ∙ part.vote a.at a.inside in
          let off : Kept bc r v.source → ⊥ =
          λ q. out (subst (λ (x : Vote). Kept wc (place r) x.source) (sym is) (keep-up v.source q)) in
          omega (
            arith,
            low-sources b b-good r allowed a.at a.inside off,
            ap (λ (x : Vote). height_of wc x.target) is,
            part.height v.target (part.target a.at a.inside),
            part.height r allowed.held,
          )

      beside : (Kept wc (place 0) (vote_at w.votes k).source → ⊥)
          → height_of wc (vote_at w.votes k).target ≤ height_of wc (place r)
      beside s = omega (arith, tied.low k h s, kept_high wc tied.within.good.tree r_kept)

  -- of the finals of the part, one that r doesn't keep is an ancestor of r: they don't conflict
  part-frozen : (i : ℕ) → Final b i → (Kept bc r i → ⊥) → Ancestor bc i r
  part-frozen i f out = ⊎_elim above (λ n. absurd (allowed.agree (apart n))) (kept_or_not bc b-good.tree i r)
    where
      above : Kept bc i r → Ancestor bc i r
      above (inl e) = absurd (out (inl (sym e)))
      above (inr up) = up

      apart : (Kept bc i r → ⊥) → ConflictingFinals b
      apart n =
          record {
            one = i;
            other = r;
            one-final = f;
            other-final = allowed.final;
            conflict = record {
              differ = λ e. out (inl e);
              not_above = λ up. n (inr up);
              not-below = λ up. out (inr up);
            };
          }

  new-frozen : Frozen w (place r)
  new-frozen p f out = ⊎_elim in_part (λ n. under r_kept (tied.frozen p f n)) (in_or_out p)
    where
      in_part : Kept wc (place 0) p → Ancestor wc p (place r)
      in_part k =
          let a = part.whole p k (final-held w tied.within.good f) in
          let g = final-down tied.within tied.final tied.low a.at a.inside
          (subst (Final w) (sym a.is) f) in
          subst (λ (x : ℕ). Ancestor wc x (place r)) a.is
          (ancestor-up tied.within
          (part-frozen a.at g (λ q. out (subst (Kept wc (place r)) a.is (keep-up a.at q)))))

      under : Kept wc (place 0) (place r) → Ancestor wc p (place 0) → Ancestor wc p (place r)
      under (inl e) up = subst (Ancestor wc p) (sym e) up
      under (inr over) up = ancestor_trans up over

  new-shown : Shown w (place r)
  new-shown id a c p =
      let k = inner tied.within tied.shown id a c p in
      let s = first-kept b b-good r allowed id (record { one = k.one; other = k.other; pair = k.pair }) in
      let up = first-up tied.within tied.shown id s.one s.other s.first in
      let hi : s.one < length b.votes = omega (arith, s.first.pair.order, s.first.pair.held) in
      let hj = s.first.pair.held in
      record {
        one = number s.one;
        other = number s.other;
        pair = up.pair;
        one_kept = source-kept s.one hi s.one_kept;
        other-kept = source-kept s.other hj s.other-kept;
        before = up.first a c p;
      }
    where
      source-kept : (i : ℕ) → i < length b.votes → Kept bc r (vote_at b.votes i).source
          → Kept wc (place r) (vote_at w.votes (number i)).source
      source-kept i h k =
          subst (λ (v : Vote). Kept wc (place r) v.source) (sym (part.vote i h)) (keep-up _ k)

  move_tied : Tied (moved b r) w (λ i. place (place_before b r i)) (λ k. number (number_before b r k))
  move_tied =
      let e : place r ≡ place (place_before b r 0) = ap place (sym (root-first b b-good r allowed.held)) in
      record {
        within = record {
          good = tied.within.good;
          low = omega (arith, ap (height_of wc) e, part.height r allowed.held, allowed.height);
          part = part_of_part tied.within (moved-part b b-good r allowed.held);
        };
        final = subst (Final w) e new-final;
        low = subst (Low w) e new-low;
        frozen = subst (Frozen w) e new-frozen;
        shown = subst (Shown w) e new-shown;
      }

-- a move, refused or not
pub move_bound : {b w : Model} → Bound b w → (r : ℕ) → Bound (decided b (decide_event b (moving r))) w
unfolding decide_event single append_all append
move_bound {b} {w} bound r =
    let tied = bound.tied in
    move_elim b (λ (a : Answer Change). Bound (decided b (single a)) w) r (all_of (λ n. bound) move_rows) λ p.
    record {
      place = λ i. bound.place (place_before b r i);
      number = λ k. bound.number (number_before b r k);
      tied = move_tied tied r (passes-allowed b (part-good tied.within) r p);
    }
