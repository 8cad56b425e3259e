-- A moved root leaves a part: r and its descendants.
use Prim.Native.Nat.{ℕ, zero, suc, ◌<◌, ◌≤◌}
use native.Mathlib.Omega.{arith}
use mathlib.Core.Path.{◌≡◌, refl, sym, ap, ◌∙◌, subst}
use mathlib.Core.Logic.{inl, inr, ⊎_elim}
use mathlib.Core.List.{List, [], ◌∷◌, map}
use mathlib.Core.Bool.{Bool, true, cond}
use borrow.Author.Tests.{eqb-true, eq-eqb, ne_eqb}
use lib.ListN.{length, get_or, length-map}
use lib.Dec.{eqb}
use Rattle.model.specs.Model.{Model, Checkpoint, Vote, checkpoint_at, height_of, parent_of, vote_at, no_checkpoint, no_vote}
use Rattle.model.specs.Tree.{Ancestor, near, far, ancestor?}
use Rattle.model.specs.WellFormed.{GoodTree, WellFormed}
use Rattle.model.proofs.Lists.{lt_or_ge, both, and_left, and_right, or_left, or_right, or_cases}
use Rattle.model.proofs.Tree.{ancestor-later, ancestor_true, true_ancestor}
use Rattle.model.specs.Limits.{root_height_limit}
use Rattle.model.specs.Lists.{picked}
use Rattle.model.specs.Move.{kept?, kept_vote?, anew, moved, moved_checkpoint, moved_vote}
use Rattle.moves.specs.Part.{Kept, Part, shifted, place_before, number_before}
use Rattle.moves.proofs.Part.{Within, kept_under, part-good}
use Rattle.model.proofs.Picked.{rank, rank_lt, nth-rank, Nth, nth-is, nth-rises}

-- an element of a mapped list, inside it
get_d_map_inside : {A B : Type 0} (f : A → B) (xs : List A) (d : A) (e : B) (i : ℕ) → i < length xs
    → get_or (map f xs) i e ≡ f (get_or xs i d)
get_d_map_inside f [] d e i h = absurd (omega arith)
get_d_map_inside f (x ∷ xs) d e zero h = refl
get_d_map_inside f (x ∷ xs) d e (suc i) h = get_d_map_inside f xs d e i (omega arith)

module _ (cs : List Checkpoint) (tree : GoodTree cs) (r : ℕ) where
  pub kept_true : (p : ℕ) → kept? cs r p ≡ true → Kept cs r p
  unfolding kept?
  kept_true p e =
      ⊎_elim
      (λ h. inl (eqb-true p r h))
      (λ h. inr (ancestor_true cs tree r p h))
      (or_cases (eqb p r) (ancestor? cs r p) e)

  pub true_kept : (p : ℕ) → Kept cs r p → kept? cs r p ≡ true
  unfolding kept?
  true_kept p (inl e) = or_left (eqb p r) (ancestor? cs r p) (eq-eqb p r e)
  true_kept p (inr up) = or_right (eqb p r) (ancestor? cs r p) (true_ancestor cs tree r p up)

  pub kept-later : (p : ℕ) → Kept cs r p → r ≤ p
  kept-later p (inl e) = omega arith
  kept-later p (inr up) = omega (arith, ancestor-later cs tree up)

  -- a descendant's parent is kept
  pub parent-kept : (p : ℕ) → Ancestor cs r p → Kept cs r (parent_of cs p)
  parent-kept p (near c) = inl c.from
  parent-kept p (far up c) = inr (subst (Ancestor cs r) (sym c.from) up)

module _ (m : Model) (good : WellFormed m) (r : ℕ) (held : r < length m.checkpoints) where
  abbrev cs : List Checkpoint
  cs = m.checkpoints

  abbrev vs : List Vote
  vs = m.votes

  abbrev kv? : ℕ → Bool
  kv? k = kept_vote? cs r (vote_at vs k)

  abbrev place : ℕ → ℕ
  place i = place_before m r i

  abbrev number : ℕ → ℕ
  number k = number_before m r k

  same-rule : (moved m r).rule ≡ m.rule
  unfolding moved
  same-rule = refl

  same-members : (moved m r).members ≡ m.members
  unfolding moved
  same-members = refl

  pub length-checkpoints : length (moved m r).checkpoints ≡ rank (kept? cs r) (length cs)
  unfolding moved
  length-checkpoints = length-map (picked (kept? cs r) (length cs)) (moved_checkpoint cs r)

  length-votes : length (moved m r).votes ≡ rank kv? (length vs)
  unfolding moved
  length-votes = length-map (picked kv? (length vs)) (λ k. moved_vote cs r (vote_at vs k))

  checkpoint-at : (i : ℕ) → i < rank (kept? cs r) (length cs)
      → checkpoint_at (moved m r).checkpoints i ≡ moved_checkpoint cs r (place i)
  unfolding moved checkpoint_at
  checkpoint-at i h = get_d_map_inside (moved_checkpoint cs r) (picked (kept? cs r) (length cs)) 0 no_checkpoint i h

  vote-at : (k : ℕ) → k < rank kv? (length vs) → vote_at (moved m r).votes k ≡ moved_vote cs r (vote_at vs (number k))
  unfolding moved vote_at
  vote-at k h = get_d_map_inside (λ j. moved_vote cs r (vote_at vs j)) (picked kv? (length vs)) 0 no_vote k h

  -- a kept place, counted anew and back
  pub back : (p : ℕ) → Kept cs r p → p < length cs → place (anew cs r p) ≡ p
  back p k h = nth-rank (kept? cs r) (length cs) p h (true_kept cs good.tree r p k)

  pub back_inside : (p : ℕ) → Kept cs r p → p < length cs → anew cs r p < rank (kept? cs r) (length cs)
  back_inside p k h = rank_lt (kept? cs r) p (length cs) h (true_kept cs good.tree r p k)

  place_is : (i : ℕ) → i < rank (kept? cs r) (length cs) → Nth (kept? cs r) (length cs) i (place i)
  place_is i h = nth-is (kept? cs r) (length cs) i h

  place_kept : (i : ℕ) → i < rank (kept? cs r) (length cs) → Kept cs r (place i)
  place_kept i h = kept_true cs good.tree r (place i) (place_is i h).passes

  some : 0 < rank (kept? cs r) (length cs)
  some = omega (arith, back_inside r (inl refl) held)

  -- r is the first that is kept
  pub root-first : place 0 ≡ r
  root-first =
      ⊎_elim
      (λ l. absurd (omega (
        arith,
        nth-rises (kept? cs r) (length cs) 0 (anew cs r r) l (back_inside r (inl refl) held),
        back r (inl refl) held,
        kept-later cs good.tree r (place 0) (place_kept 0 some),
      )))
      (λ l. let e : 0 ≡ anew cs r r = omega arith in ap place e ∙ back r (inl refl) held)
      (lt_or_ge 0 (anew cs r r))

  pub root-parent : parent_of (moved m r).checkpoints 0 ≡ 0
  root-parent =
      ap (λ (c : Checkpoint). c.parent) (checkpoint-at 0 some)
      ∙ ap (λ (t : Bool). cond t 0 (anew cs r (parent_of cs (place 0)))) (eq-eqb (place 0) r root-first)

  not_root : (i : ℕ) → 0 < i → i < rank (kept? cs r) (length cs) → r < place i
  not_root i l h = omega (arith, nth-rises (kept? cs r) (length cs) 0 i l h, root-first)

  above_root : (i : ℕ) → 0 < i → i < rank (kept? cs r) (length cs) → Ancestor cs r (place i)
  above_root i l h = ⊎_elim (λ e. absurd (omega (arith, not_root i l h))) (λ up. up) (place_kept i h)

  parent-at : (i : ℕ) → 0 < i → i < rank (kept? cs r) (length cs)
      → parent_of (moved m r).checkpoints i ≡ anew cs r (parent_of cs (place i))
  parent-at i l h =
      ap (λ (c : Checkpoint). c.parent) (checkpoint-at i h)
      ∙ ap (λ (t : Bool). cond t 0 (anew cs r (parent_of cs (place i))))
      (ne_eqb (place i) r (λ e. omega (arith, not_root i l h)))

  parent-before : (i : ℕ) → 0 < i → i < rank (kept? cs r) (length cs) → parent_of cs (place i) < place i
  parent-before i l h = good.tree.parent (place i) (omega (arith, not_root i l h)) (place_is i h).below

  kept-parent : (i : ℕ) → 0 < i → i < rank (kept? cs r) (length cs) → Kept cs r (parent_of cs (place i))
  kept-parent i l h = parent-kept cs good.tree r (place i) (above_root i l h)

  -- a kept vote runs between kept places
  number_is : (k : ℕ) → k < rank kv? (length vs) → Nth kv? (length vs) k (number k)
  number_is k h = nth-is kv? (length vs) k h

  source-kept : (k : ℕ) → k < rank kv? (length vs) → Kept cs r (vote_at vs (number k)).source
  unfolding kept_vote?
  source-kept k h =
      let v = vote_at vs (number k) in
      kept_true cs good.tree r _
      (and_left (kept? cs r v.source) (kept? cs r v.target) (number_is k h).passes)

  target-kept : (k : ℕ) → k < rank kv? (length vs) → Kept cs r (vote_at vs (number k)).target
  unfolding kept_vote?
  target-kept k h =
      let v = vote_at vs (number k) in
      kept_true cs good.tree r _
      (and_right (kept? cs r v.source) (kept? cs r v.target) (number_is k h).passes)

  -- a vote from a kept source is kept
  pub source_keeps : (k : ℕ) → k < length vs → Kept cs r (vote_at vs k).source → kept_vote? cs r (vote_at vs k) ≡ true
  unfolding kept_vote?
  source_keeps k h s =
      both
      (true_kept cs good.tree r _ s)
      (true_kept cs good.tree r _ (kept_under s (good.votes k h).climbs))

  pub moved-part : Part (moved m r) m (place_before m r) (number_before m r)
  moved-part =
      record {
        rule = same-rule;
        members = same-members;
        rooted = omega (arith, some, length-checkpoints);
        inside = λ i h. (place_is i (in_cs h)).below;
        rises = λ i j h l. nth-rises (kept? cs r) (length cs) i j h (in_cs l);
        name = λ i h. ap (λ (c : Checkpoint). c.name) (checkpoint-at i (in_cs h));
        height = λ i h. ap (λ (c : Checkpoint). c.height) (checkpoint-at i (in_cs h));
        parent-before = λ i l h.
            omega (
              arith,
              parent-at i l (in_cs h),
              (place_is i (in_cs h)).ranks,
              rank_lt (kept? cs r) (parent_of cs (place i)) (place i) (parent-before i l (in_cs h))
                  (true_kept cs good.tree r _ (kept-parent i l (in_cs h))),
            );
        parent = λ i l h.
            ap place (parent-at i l (in_cs h))
            ∙ back (parent_of cs (place i)) (kept-parent i l (in_cs h))
            (omega (arith, parent-before i l (in_cs h), (place_is i (in_cs h)).below));
        whole = λ p k h.
            let kept = subst (λ (x : ℕ). Kept cs x p) root-first k in
            record {
              at = anew cs r p;
              inside = omega (arith, back_inside p kept h, length-checkpoints);
              is = back p kept h;
            };
        vote-inside = λ k h. (number_is k (in_vs h)).below;
        vote-rises = λ i j h l. nth-rises kv? (length vs) i j h (in_vs l);
        source = λ k h.
            omega (
              arith,
              ap (λ (v : Vote). v.source) (vote-at k (in_vs h)),
              length-checkpoints,
              back_inside _ (source-kept k (in_vs h))
                  (good.votes (number k) (number_is k (in_vs h)).below).source,
            );
        target = λ k h.
            omega (
              arith,
              ap (λ (v : Vote). v.target) (vote-at k (in_vs h)),
              length-checkpoints,
              back_inside _ (target-kept k (in_vs h))
                  (good.votes (number k) (number_is k (in_vs h)).below).target,
            );
        vote = λ k h. votes_shift k (in_vs h);
        vote-whole = λ k h s.
            let kept = source_keeps k h (subst (λ (x : ℕ). Kept cs x (vote_at vs k).source) root-first s) in
            record {
              at = rank kv? k;
              inside = omega (arith, rank_lt kv? k (length vs) h kept, length-votes);
              is = nth-rank kv? (length vs) k h kept;
            };
      }
    where
      in_cs : {i : ℕ} → i < length (moved m r).checkpoints → i < rank (kept? cs r) (length cs)
      in_cs h = omega (arith, length-checkpoints)

      in_vs : {i : ℕ} → i < length (moved m r).votes → i < rank kv? (length vs)
      in_vs h = omega (arith, length-votes)

      votes_shift : (k : ℕ) → k < rank kv? (length vs)
          → vote_at vs (number k) ≡ shifted place (vote_at (moved m r).votes k)
      votes_shift k h =
          let v = vote_at vs (number k) in
          let held-vote = good.votes (number k) (number_is k h).below in
          let source = back v.source (source-kept k h) held-vote.source in
          let target = back v.target (target-kept k h) held-vote.target in
          sym
          (ap (shifted place) (vote-at k h)
          ∙ (λ i. record { voter = v.voter; source = source i; target = target i }))

  pub moved-within : height_of cs r ≤ root_height_limit → Within (moved m r) m (place_before m r) (number_before m r)
  moved-within low = record { good = good; low = omega (arith, ap (height_of cs) root-first); part = moved-part }

  pub moved-good : height_of cs r ≤ root_height_limit → WellFormed (moved m r)
  moved-good low = part-good (moved-within low)
