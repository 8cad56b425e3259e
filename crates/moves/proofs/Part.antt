-- What a part has of the whole: its tree, its votes, its links.
use Prim.Native.Nat.{ℕ, zero, suc, ◌+◌, ◌<◌, ◌≤◌}
use native.Mathlib.Omega.{arith}
use mathlib.Core.Path.{◌≡◌, refl, sym, ap, ◌∙◌, subst, subst₂, fun_ext}
use mathlib.Core.Logic.{inl, inr, ⊎_elim}
use mathlib.Core.List.{List}
use mathlib.Core.Bool.{Bool, true, false}
use lib.ListN.{length}
use Rattle.model.specs.Model.{Model, Member, Checkpoint, Vote, height_of, parent_of, vote_at, member_index, vote_for}
use Rattle.model.specs.Rule.{Rule, Permitted, quota_of}
use Rattle.model.specs.Support.{count, sum, total, supports, quorum, carries, support, link?}
use Rattle.model.specs.Tree.{Child, Ancestor, near, far, ancestor?}
use Rattle.model.specs.WellFormed.{GoodMembers, GoodTree, GoodVote, WellFormed}
use Rattle.model.proofs.Lists.{lt_or_ge, not_so, clash}
use Rattle.model.proofs.Support.{Held, supports-held, held-supports, same-vote, vote-same}
use Rattle.model.proofs.Tree.{ancestor_trans, child-later, ancestor_true, true_ancestor}
use Rattle.model.specs.Limits.{root_height_limit}
use Rattle.moves.specs.Part.{Kept, Part, shifted}

-- b is a part of a well-formed w, whose first place may be a root
pub record Within (b w : Model) (place number : ℕ → ℕ) : Type 0 where
  pub good : WellFormed w
  pub low : height_of w.checkpoints (place 0) ≤ root_height_limit
  pub part : Part b w place number

-- two tests that hold together are one
pub same_test : {a b : Bool} → (a ≡ true → b ≡ true) → (b ≡ true → a ≡ true) → a ≡ b
same_test {a} {b} f g = go a b refl refl
  where
    go : (x y : Bool) → a ≡ x → b ≡ y → a ≡ b
    go true true p q = p ∙ sym q
    go true false p q = clash (f p) q
    go false true p q = clash (g q) p
    go false false p q = p ∙ sym q

pub kept-child : {cs : List Checkpoint} {r p q : ℕ} → Kept cs r p → Child cs p q → Kept cs r q
kept-child {cs} {r} {p} {q} (inl e) c = inr (near (subst (λ (x : ℕ). Child cs x q) e c))
kept-child (inr up) c = inr (far up c)

pub kept_under : {cs : List Checkpoint} {r p q : ℕ} → Kept cs r p → Ancestor cs p q → Kept cs r q
kept_under {cs} {r} {p} {q} (inl e) up = inr (subst (λ (x : ℕ). Ancestor cs x q) e up)
kept_under (inr over) up = inr (ancestor_trans over up)

-- a number rises at least as fast as it is counted
rising_le : (f : ℕ → ℕ) (n : ℕ) → ((i j : ℕ) → i < j → j < n → f i < f j) → (i : ℕ) → i < n → i ≤ f i
rising_le f n up zero h = omega arith
rising_le f n up (suc i) h = omega (arith, up i (suc i) (omega arith) h, rising_le f n up i (omega arith))

-- so no more are counted than there are
pub rising-fits : (f : ℕ → ℕ) (n k : ℕ) → ((i j : ℕ) → i < j → j < n → f i < f j) → ((i : ℕ) → i < n → f i < k) → n ≤ k
rising-fits f zero k up in-k = omega arith
rising-fits f (suc n) k up in-k = omega (arith, in-k n (omega arith), rising_le f (suc n) up n (omega arith))

pub rising-same : (f : ℕ → ℕ) (n : ℕ) → ((i j : ℕ) → i < j → j < n → f i < f j)
    → (i j : ℕ) → i < n → j < n → f i ≡ f j → i ≡ j
rising-same f n up i j hi hj e =
    ⊎_elim
    (λ l. absurd (omega (arith, up i j l hj)))
    (λ l. ⊎_elim (λ g. absurd (omega (arith, up j i g hi))) (λ g. omega arith) (lt_or_ge j i))
    (lt_or_ge i j)

module _ {b w : Model} {place number : ℕ → ℕ} (within : Within b w place number) where
  abbrev good : WellFormed w
  good = within.good

  abbrev part : Part b w place number
  part = within.part

  abbrev bc : List Checkpoint
  bc = b.checkpoints

  abbrev wc : List Checkpoint
  wc = w.checkpoints

  pub place_same : (i j : ℕ) → i < length bc → j < length bc → place i ≡ place j → i ≡ j
  place_same = rising-same place (length bc) part.rises

  pub number_same : (i j : ℕ) → i < length b.votes → j < length b.votes → number i ≡ number j → i ≡ j
  number_same = rising-same number (length b.votes) part.vote-rises

  place-first : (i : ℕ) → i < length bc → place 0 ≤ place i
  place-first zero h = omega arith
  place-first (suc i) h = omega (arith, part.rises 0 (suc i) (omega arith) h)

  -- ---- children and ancestors

  pub child-up : {i j : ℕ} → Child bc i j → Child wc (place i) (place j)
  child-up {i} {j} c =
      record {
        later = omega (arith, part.rises 0 j c.later c.inside);
        inside = part.inside j c.inside;
        from = sym (part.parent j c.later c.inside) ∙ ap place c.from;
      }

  pub ancestor-up : {i j : ℕ} → Ancestor bc i j → Ancestor wc (place i) (place j)
  ancestor-up (near c) = near (child-up c)
  ancestor-up (far up c) = far (ancestor-up up) (child-up c)

  kept-below : (n i : ℕ) → i < n → i < length bc → Kept wc (place 0) (place i)
  kept-below zero i h l = absurd (omega arith)
  kept-below (suc n) zero h l = inl refl
  kept-below (suc n) (suc i) h l =
      let p = parent_of bc (suc i) in
      let before = part.parent-before (suc i) (omega arith) l in
      kept-child (kept-below n p (omega arith) (omega arith))
      (child-up (record { later = omega arith; inside = l; from = refl }))

  -- every place of the part is kept
  pub places-kept : (i : ℕ) → i < length bc → Kept wc (place 0) (place i)
  places-kept i h = kept-below (suc i) i (omega arith) h

  -- a child of a kept place is in the part
  pub record Under (i q : ℕ) (R : ℕ → Type 0) : Type 0 where
    pub at : ℕ
    pub inside : at < length bc
    pub is : place at ≡ q
    pub rel : R at

  pub child-down : (i q : ℕ) → i < length bc → Child wc (place i) q → Under i q (λ j. Child bc i j)
  child-down i q h c =
      let a = part.whole q (kept-child (places-kept i h) c) c.inside in
      let up : place i < place a.at = subst (λ (x : ℕ). place i < x) (sym a.is) (child-later wc good.tree c) in
      let later : 0 < a.at = after a.at (place-first i h) up in
      record {
        at = a.at;
        inside = a.inside;
        is = a.is;
        rel = record {
          later = later;
          inside = a.inside;
          from =
              place_same (parent_of bc a.at) i
              (omega (arith, part.parent-before a.at later a.inside, a.inside)) h
              (part.parent a.at later a.inside ∙ ap (parent_of wc) a.is ∙ c.from);
        };
      }
    where
      after : (j : ℕ) → place 0 ≤ place i → place i < place j → 0 < j
      after zero x y = absurd (omega arith)
      after (suc j) x y = omega arith

  ancestor-found : {a q : ℕ} → (i : ℕ) → i < length bc → Ancestor wc a q → place i ≡ a
      → Under i q (λ j. Ancestor bc i j)
  ancestor-found {a} {q} i h (near c) e =
      let u = child-down i q h (subst (λ (x : ℕ). Child wc x q) (sym e) c) in
      record { at = u.at; inside = u.inside; is = u.is; rel = near u.rel }
  ancestor-found {a} {q} i h (far up c) e =
      let v = ancestor-found i h up e in
      let u = child-down v.at q v.inside (subst (λ (x : ℕ). Child wc x q) (sym v.is) c) in
      record { at = u.at; inside = u.inside; is = u.is; rel = far v.rel u.rel }

  pub ancestor-down : (i j : ℕ) → i < length bc → j < length bc → Ancestor wc (place i) (place j) → Ancestor bc i j
  ancestor-down i j hi hj up =
      let u = ancestor-found i hi up refl in
      subst (λ (x : ℕ). Ancestor bc i x) (place_same u.at j u.inside hj u.is) u.rel

  -- ---- the part is well formed: its root has the height of r

  pub places-fit : length bc ≤ length wc
  places-fit = rising-fits place (length bc) (length wc) part.rises part.inside

  pub votes-fit : length b.votes ≤ length w.votes
  votes-fit = rising-fits number (length b.votes) (length w.votes) part.vote-rises part.vote-inside

  tree-good : GoodTree bc
  tree-good =
      record {
        fit = omega (arith, places-fit, good.tree.fit);
        rooted = part.rooted;
        root-height = omega (arith, part.height 0 part.rooted, within.low);
        parent = part.parent-before;
        height = λ i l h.
            part.height i h
            ∙ good.tree.height (place i) (omega (arith, part.rises 0 i l h)) (part.inside i h)
            ∙ ap (λ (x : ℕ). height_of wc x + 1) (sym (part.parent i l h))
            ∙ ap (λ (x : ℕ). x + 1) (sym (part.height (parent_of bc i) (omega (arith, part.parent-before i l h))));
        distinct = λ i j h l e.
            good.tree.distinct (place i) (place j) (part.rises i j h l) (part.inside j l)
            (sym (part.name i (omega arith)) ∙ e ∙ part.name j l);
      }

  vote-good : (k : ℕ) → k < length b.votes → GoodVote b.members bc (vote_at b.votes k)
  vote-good k h =
      let v = good.votes (number k) (part.vote-inside k h) in
      let is = part.vote k h in
      record {
        voter =
            subst₂ (λ (ms : List Member) (x : ℕ). member_index ms x < length ms) (sym part.members)
            (ap (λ (x : Vote). x.voter) is) v.voter;
        source = part.source k h;
        target = part.target k h;
        climbs =
            ancestor-down (vote_at b.votes k).source (vote_at b.votes k).target
            (part.source k h) (part.target k h)
            (subst (λ (x : Vote). Ancestor wc x.source x.target) is v.climbs);
      }

  pub part-good : WellFormed b
  part-good =
      record {
        rule = subst (λ (r : Rule). Permitted (quota_of r)) (sym part.rule) good.rule;
        members = subst GoodMembers (sym part.members) good.members;
        tree = tree-good;
        votes-fit = omega (arith, votes-fit, good.votes-fit);
        votes = vote-good;
        distinct = λ i j h l. not_so (λ e.
            clash
            (vote-same (vote_at w.votes (number i)) (vote_at w.votes (number j))
            (part.vote i (omega arith)
            ∙ ap (shifted place) (same-vote (vote_at b.votes i) (vote_at b.votes j) e)
            ∙ sym (part.vote j l)))
            (good.distinct (number i) (number j) (part.vote-rises i j h l) (part.vote-inside j l)));
      }

  -- ---- links

  pub held_up : (id s t : ℕ) → Held b.votes (vote_for id s t) → Held w.votes (vote_for id (place s) (place t))
  held_up id s t h =
      record {
        number = number h.number;
        inside = part.vote-inside h.number h.inside;
        is = part.vote h.number h.inside ∙ ap (shifted place) h.is;
      }

  pub held_down : (id s t : ℕ) → s < length bc → t < length bc → Held w.votes (vote_for id (place s) (place t))
      → Held b.votes (vote_for id s t)
  held_down id s t hs ht h =
      let kept = subst (λ (x : Vote). Kept wc (place 0) x.source) (sym h.is) (places-kept s hs) in
      let a = part.vote-whole h.number h.inside kept in
      let v = vote_at b.votes a.at in
      let is : shifted place v ≡ vote_for id (place s) (place t) =
      sym (part.vote a.at a.inside) ∙ ap (vote_at w.votes) a.is ∙ h.is in
      let source = place_same v.source s (part.source a.at a.inside) hs (ap (λ (x : Vote). x.source) is) in
      let target = place_same v.target t (part.target a.at a.inside) ht (ap (λ (x : Vote). x.target) is) in
      let voter = ap (λ (x : Vote). x.voter) is in
      record {
        number = a.at;
        inside = a.inside;
        is = λ i. record { voter = voter i; source = source i; target = target i };
      }

  pub supports-same : (s t : ℕ) → s < length bc → t < length bc → (x : Member)
      → supports b s t x ≡ supports w (place s) (place t) x
  supports-same s t hs ht x =
      same_test
      (λ e. held-supports w (place s) (place t) x (held_up x.id s t (supports-held b s t x e)))
      (λ e. held-supports b s t x (held_down x.id s t hs ht (supports-held w (place s) (place t) x e)))

  pub link-same : (s t : ℕ) → s < length bc → t < length bc → link? b s t ≡ link? w (place s) (place t)
  unfolding link? carries
  link-same s t hs ht i =
      quorum (quota_of (part.rule i)) (sum (fun_ext (supports-same s t hs ht) i) (part.members i))
      (total (part.members i))

  -- the support of a link is the same, so that a quorum link is one in both
  pub support-same : (s t : ℕ) → s < length bc → t < length bc → support b s t ≡ support w (place s) (place t)
  unfolding support
  support-same s t hs ht i =
      record {
        number = count (fun_ext (supports-same s t hs ht) i) (part.members i);
        bonds = sum (fun_ext (supports-same s t hs ht) i) (part.members i);
        yes? = link-same s t hs ht i;
      }

  pub ancestor-same : (i j : ℕ) → i < length bc → j < length bc → ancestor? bc i j ≡ ancestor? wc (place i) (place j)
  ancestor-same i j hi hj =
      same_test
      (λ e. true_ancestor wc good.tree (place i) (place j) (ancestor-up (ancestor_true bc tree-good i j e)))
      (λ e.
      true_ancestor bc tree-good i j
      (ancestor-down i j hi hj (ancestor_true wc good.tree (place i) (place j) e)))

-- ---- a part of a part

module _ {c b w : Model} {p1 n1 p2 n2 : ℕ → ℕ} (outer-in : Within b w p2 n2) (inner : Part c b p1 n1) where
  abbrev outer : Part b w p2 n2
  outer = outer-in.part

  -- what is kept by the inner root is kept by the outer one, and stands in the part between
  between : (p : ℕ) → Kept w.checkpoints (p2 (p1 0)) p → Kept w.checkpoints (p2 0) p
  between p (inl e) =
      subst (λ (x : ℕ). Kept w.checkpoints (p2 0) x) (sym e)
      (places-kept outer-in (p1 0) (inner.inside 0 inner.rooted))
  between p (inr up) = kept_under (places-kept outer-in (p1 0) (inner.inside 0 inner.rooted)) up

  lower : (i : ℕ) → i < length b.checkpoints → Kept w.checkpoints (p2 (p1 0)) (p2 i)
      → Kept b.checkpoints (p1 0) i
  lower i h (inl e) = inl (place_same outer-in i (p1 0) h (inner.inside 0 inner.rooted) e)
  lower i h (inr up) = inr (ancestor-down outer-in (p1 0) i (inner.inside 0 inner.rooted) h up)

  pub part_of_part : Part c w (λ i. p2 (p1 i)) (λ k. n2 (n1 k))
  part_of_part =
      record {
        rule = inner.rule ∙ outer.rule;
        members = inner.members ∙ outer.members;
        rooted = inner.rooted;
        inside = λ i h. outer.inside (p1 i) (inner.inside i h);
        rises = λ i j h l. outer.rises (p1 i) (p1 j) (inner.rises i j h l) (inner.inside j l);
        name = λ i h. inner.name i h ∙ outer.name (p1 i) (inner.inside i h);
        height = λ i h. inner.height i h ∙ outer.height (p1 i) (inner.inside i h);
        parent-before = inner.parent-before;
        parent = λ i l h.
            ap p2 (inner.parent i l h)
            ∙ outer.parent (p1 i) (omega (arith, inner.rises 0 i l h)) (inner.inside i h);
        whole = λ p k h.
            let a = outer.whole p (between p k) h in
            let kept = subst (λ (x : ℕ). Kept w.checkpoints (p2 (p1 0)) x) (sym a.is) k in
            let d = inner.whole a.at (lower a.at a.inside kept) a.inside in
            record { at = d.at; inside = d.inside; is = ap p2 d.is ∙ a.is };
        vote-inside = λ k h. outer.vote-inside (n1 k) (inner.vote-inside k h);
        vote-rises = λ i j h l. outer.vote-rises (n1 i) (n1 j) (inner.vote-rises i j h l) (inner.vote-inside j l);
        source = inner.source;
        target = inner.target;
        vote = λ k h. outer.vote (n1 k) (inner.vote-inside k h) ∙ ap (shifted p2) (inner.vote k h);
        vote-whole = λ k h kept.
            let a = outer.vote-whole k h (between _ kept) in
            let vote = sym (outer.vote a.at a.inside) ∙ ap (vote_at w.votes) a.is in
            let source = ap (λ (v : Vote). v.source) vote in
            let from = subst (λ (x : ℕ). Kept w.checkpoints (p2 (p1 0)) x) (sym source) kept in
            let d = inner.vote-whole a.at a.inside (lower _ (outer.source a.at a.inside) from) in
            record { at = d.at; inside = d.inside; is = ap n2 d.is ∙ a.is };
      }

-- a model is a part of itself
pub part-itself : (m : Model) → WellFormed m → Part m m (λ i. i) (λ k. k)
part-itself m good =
    record {
      rule = refl;
      members = refl;
      rooted = good.tree.rooted;
      inside = λ i h. h;
      rises = λ i j h l. h;
      name = λ i h. refl;
      height = λ i h. refl;
      parent-before = good.tree.parent;
      parent = λ i l h. refl;
      whole = λ p k h. record { at = p; inside = h; is = refl };
      vote-inside = λ k h. h;
      vote-rises = λ i j h l. h;
      source = λ k h. (good.votes k h).source;
      target = λ k h. (good.votes k h).target;
      vote = λ k h. refl;
      vote-whole = λ k h kept. record { at = k; inside = h; is = refl };
    }
