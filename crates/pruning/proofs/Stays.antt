-- Which places stay when the root moves to r, found in one pass: none before r, r itself, and after it those whose
-- parent stays.
use Prim.Native.Nat.{ℕ, zero, suc, ◌+◌, ◌<◌, ◌≤◌}
use native.Mathlib.Omega.{arith}
use native.Mathlib.Numerals.{add-one}
use mathlib.Core.Path.{◌≡◌, refl, sym, ap, ◌∙◌, subst₂}
use mathlib.Core.Logic.{inl, inr}
use mathlib.Core.List.{List}
use mathlib.Core.Bool.{Bool, true, false}
use borrow.Author.Count.{below_more}
use lib.ListN.{length, get_or, set, replicate, length-set, length-replicate, get_or-replicate}
use lib.Seq.{get_or-set_same, get_or-set_other}
use Rattle.model.specs.Limits.{checkpoint_limit}
use Rattle.model.specs.Model.{Checkpoint, parent_of}
use Rattle.model.specs.Move.{kept?, anew}
use Rattle.model.specs.WellFormed.{GoodTree}
use Rattle.model.specs.declared.Place.{Place}
use Rattle.model.proofs.Lists.{not_so}
use Rattle.model.proofs.Picked.{rank-zero, rank-yes, rank-no, rank_le}
use Rattle.moves.specs.Part as part
use Rattle.moves.proofs.Part.{same_test, kept-child}
use Rattle.moves.proofs.Moved.{kept_true, true_kept, kept-later, parent-kept}
use Rattle.state.specs.Sound.{Sound}
use Rattle.state.specs.State.{place, model_of}
use Rattle.state.specs.declared.Witness.{Witness}
use Rattle.state.proofs.Entries.{count-checkpoints, checkpoint-is}
use Rattle.state.proofs.Sound.{few-checkpoints}
use Rattle.pruning.specs.Kept.{IsKept}

-- the places below p are looked at: which of them stay, and what their places are then; no later one is marked yet
pub record Found (cs : List Checkpoint) (r : ℕ) (stays : List Bool) (places : List Place) (n p : ℕ) : Type 0 where
  pub after : r < p
  pub marks-long : length stays ≡ checkpoint_limit
  pub places-long : length places ≡ checkpoint_limit
  pub marks : (q : ℕ) → q < p → get_or stays q false ≡ kept? cs r q
  pub rest : (q : ℕ) → p ≤ q → q < checkpoint_limit → get_or stays q false ≡ false
  pub ranks : (q : ℕ) → q < p → (get_or places q (place 0)).0 ≡ anew cs r q
  pub number : n ≡ anew cs r p

pub found-few : (cs : List Checkpoint) (r : ℕ) {stays : List Bool} {places : List Place} {n p : ℕ}
    → Found cs r stays places n p → n ≤ p
found-few cs r {p = p} so = omega (arith, so.number, rank_le (kept? cs r) p)

module _ (cs : List Checkpoint) (tree : GoodTree cs) (r : ℕ) where
  kept-before : (p : ℕ) → p < r → kept? cs r p ≡ false
  kept-before p h = not_so (λ e. let l = kept-later cs tree r p (kept_true cs tree r p e) in omega arith)

  pub kept-itself : kept? cs r r ≡ true
  kept-itself = true_kept cs tree r r (inl refl)

  kept-after : (p : ℕ) → r < p → p < length cs → kept? cs r p ≡ kept? cs r (parent_of cs p)
  kept-after p l h =
      same_test
      (λ e. up (kept_true cs tree r p e))
      (λ e.
      true_kept cs tree r p
      (kept-child (kept_true cs tree r (parent_of cs p) e) (record { later = omega arith; inside = h; from = refl })))
    where
      up : part.Kept cs r p → kept? cs r (parent_of cs p) ≡ true
      up (inl e) = absurd (omega arith)
      up (inr a) = true_kept cs tree r (parent_of cs p) (parent-kept cs tree r p a)

  pub none_before : (p : ℕ) → p ≤ r → anew cs r p ≡ 0
  none_before zero h = rank-zero (kept? cs r)
  none_before (suc p) h = rank-no (kept? cs r) p (kept-before p (omega arith)) ∙ none_before p (omega arith)

  pub found-root : r < checkpoint_limit
      → Found cs r (set (replicate 512 false) r true) (replicate 512 (place 0)) 1 (r + 1)
  found-root h =
      record {
        after = omega arith;
        marks-long = length-set (replicate 512 false) r true ∙ length-replicate 512 false;
        places-long = length-replicate 512 (place 0);
        marks =
            below_more (λ q. get_or (set (replicate 512 false) r true) q false ≡ kept? cs r q) r
            (λ q l. unmarked q (omega arith) (omega arith) ∙ sym (kept-before q l))
            (get_or-set_same (replicate 512 false) r true false (omega (arith, length-replicate 512 false))
            ∙ sym kept-itself);
        rest = λ q l i. unmarked q i (omega arith);
        ranks = λ q l.
            ap (λ (x : Place). x.0) (get_or-replicate 512 q (place 0) (place 0) (omega arith))
            ∙ sym (none_before q (omega arith));
        number =
            omega (
              arith,
              ap (anew cs r) (add-one r),
              rank-yes (kept? cs r) r kept-itself,
              none_before r (omega arith),
            );
      }
    where
      unmarked : (q : ℕ) → q < 512 → (q ≡ r → ⊥) → get_or (set (replicate 512 false) r true) q false ≡ false
      unmarked q i ne =
          get_or-set_other (replicate 512 false) r q true false ne ∙ get_or-replicate 512 q false false i

  module _ {stays : List Bool} {places : List Place} {n p : ℕ} (so : Found cs r stays places n p)
      (h : p < length cs) where
    placed : p < checkpoint_limit → (q : ℕ) → q < p + 1 → (get_or (set places p (place n)) q (place 0)).0 ≡ anew cs r q
    placed room =
        below_more (λ q. (get_or (set places p (place n)) q (place 0)).0 ≡ anew cs r q) p
        (λ q l.
        ap (λ (x : Place). x.0) (get_or-set_other places p q (place n) (place 0) (λ e. omega arith)) ∙ so.ranks q l)
        (ap (λ (x : Place). x.0) (get_or-set_same places p (place n) (place 0) (omega (arith, so.places-long)))
        ∙ so.number)

    -- what is read of p: whether its parent stays
    passes : (b : Bool) → get_or stays (parent_of cs p) false ≡ b → kept? cs r p ≡ b
    passes b e =
        kept-after p so.after h
        ∙ sym (so.marks (parent_of cs p) (tree.parent p (omega (arith, so.after)) h))
        ∙ e

    pub found-keep : get_or stays (parent_of cs p) false ≡ true
        → Found cs r (set stays p true) (set places p (place n)) (n + 1) (p + 1)
    found-keep e =
        let room : p < checkpoint_limit = omega (arith, tree.fit) in
        record {
          after = omega (arith, so.after);
          marks-long = length-set stays p true ∙ so.marks-long;
          places-long = length-set places p (place n) ∙ so.places-long;
          marks =
              below_more (λ q. get_or (set stays p true) q false ≡ kept? cs r q) p
              (λ q l. get_or-set_other stays p q true false (λ e. omega arith) ∙ so.marks q l)
              (get_or-set_same stays p true false (omega (arith, so.marks-long)) ∙ sym (passes true e));
          rest = λ q l i. get_or-set_other stays p q true false (λ e. omega arith) ∙ so.rest q (omega arith) i;
          ranks = placed room;
          number =
              omega (arith, so.number, ap (anew cs r) (add-one p), rank-yes (kept? cs r) p (passes true e));
        }

    pub found_drop : get_or stays (parent_of cs p) false ≡ false → Found cs r stays (set places p (place n)) n (p + 1)
    found_drop e =
        let room : p < checkpoint_limit = omega (arith, tree.fit) in
        record {
          after = omega (arith, so.after);
          marks-long = so.marks-long;
          places-long = length-set places p (place n) ∙ so.places-long;
          marks =
              below_more (λ q. get_or stays q false ≡ kept? cs r q) p so.marks
              (so.rest p (omega arith) room ∙ sym (passes false e));
          rest = λ q l i. so.rest q (omega arith) i;
          ranks = placed room;
          number = omega (arith, so.number, ap (anew cs r) (add-one p), rank-no (kept? cs r) p (passes false e));
        }

-- the same of a witness's arrays
module _ (w : Witness) (s : Sound w) (r : ℕ) where
  abbrev FoundIn : List Bool → List Place → ℕ → ℕ → Type 0
  FoundIn = Found (model_of w).checkpoints r

  pub parent_is : (p : ℕ) → p < w.checkpoint_count
      → parent_of (model_of w).checkpoints p ≡ (get_or w.parents p (place 0)).0
  parent_is p h = ap (λ (c : Checkpoint). c.parent) (checkpoint-is w p h)

  module _ {stays : List Bool} {places : List Place} {n p : ℕ} (so : FoundIn stays places n p)
      (h : p < w.checkpoint_count) where
    read : (b : Bool) → get_or stays (get_or w.parents p (place 0)).0 false ≡ b
        → get_or stays (parent_of (model_of w).checkpoints p) false ≡ b
    read b e = ap (λ (q : ℕ). get_or stays q false) (parent_is p h) ∙ e

    -- a turn as the code takes it: the marks and the number are those after the branch
    module _ {marks : List Bool} {k : ℕ} where
      turned : {l : List Bool} {j : ℕ} → marks ≡ l → k ≡ j → FoundIn l (set places p (place n)) j (p + 1)
          → FoundIn marks (set places p (place n)) k (p + 1)
      turned is more =
          subst₂ (λ (l : List Bool) (j : ℕ). FoundIn l (set places p (place n)) j (p + 1)) (sym is) (sym more)

      pub turn-keep : get_or stays (get_or w.parents p (place 0)).0 false ≡ true → marks ≡ set stays p true → k ≡ n + 1
          → FoundIn marks (set places p (place n)) k (p + 1)
      turn-keep e is more =
          turned is more
          (found-keep (model_of w).checkpoints s.good.tree r so (omega (arith, count-checkpoints w)) (read true e))

      pub turn-drop : get_or stays (get_or w.parents p (place 0)).0 false ≡ false → marks ≡ stays → k ≡ n
          → FoundIn marks (set places p (place n)) k (p + 1)
      turn-drop e is more =
          turned is more
          (found_drop (model_of w).checkpoints s.good.tree r so (omega (arith, count-checkpoints w)) (read false e))

  pub found_first : r < w.checkpoint_count
      → FoundIn (set (replicate 512 false) r true) (replicate 512 (place 0)) 1 (r + 1)
  found_first h = found-root (model_of w).checkpoints s.good.tree r (omega (arith, few-checkpoints w s))

  pub found_all : {stays : List Bool} {places : List Place} {n p : ℕ} → w.checkpoint_count ≤ p
      → FoundIn stays places n p → IsKept w r (record { stays = stays; anew = places })
  found_all l so =
      record { stays = λ q h. so.marks q (omega arith); anew = λ q h. so.ranks q (omega arith) }
