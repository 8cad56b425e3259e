-- One more member, checkpoint or vote in both, or a quorum given to both: the tie stays.
use Prim.Native.Nat.{ℕ, ◌+◌, ◌<◌, ◌≤◌}
use native.Mathlib.Omega.{arith}
use mathlib.Core.Path.{◌≡◌, refl, sym, ap, ◌∙◌, subst, subst₂}
use mathlib.Core.Logic.{inl, ⊎_elim}
use mathlib.Core.List.{List, [], ◌∷◌, ◌++◌}
use mathlib.Core.Bool.{Bool, cond}
use borrow.Author.Tests.{eq-eqb, ne_eqb}
use lib.ListN.{length}
use lib.Dec.{eqb}
use Rattle.model.specs.Change.{add_checkpoint, add_vote, append}
use Rattle.model.specs.Finality.{Final, genesis}
use Rattle.model.specs.Model.{Model, Member, Checkpoint, Vote, checkpoint_at, parent_of, vote_at, no_checkpoint, no_vote}
use Rattle.model.specs.Model.{height_of}
use Rattle.model.specs.Rule.{Rule}
use Rattle.model.specs.WellFormed.{WellFormed}
use Rattle.model.proofs.Finality.{final-held}
use Rattle.model.proofs.Growth.{grown-length, grown-old, grown-new}
use Rattle.model.proofs.Lists.{lt_or_ge}
use Rattle.model.proofs.Run.{checkpoint-old, checkpoint-new}
use Rattle.moves.specs.Part.{Kept, At, Part, shifted}
use Rattle.moves.proofs.Part.{places-kept}
use Rattle.comparison.proofs.Grown.{Grown, old-height, kept-shrink, final_grows, low_grows, frozen_grows}
use Rattle.comparison.proofs.Grown.{shown_grows}
use Rattle.comparison.proofs.Tied.{Low, Frozen, Shown, Tied, Bound}

-- ---- a rising function, one number longer

-- a function with the value y at n
unfoldable extend : (ℕ → ℕ) → ℕ → ℕ → ℕ → ℕ
extend f n y i = cond (eqb i n) y (f i)

extend-old : (f : ℕ → ℕ) (n y i : ℕ) → i < n → extend f n y i ≡ f i
unfolding extend
extend-old f n y i h = ap (λ (t : Bool). cond t y (f i)) (ne_eqb i n (λ e. omega arith))

extend-new : (f : ℕ → ℕ) (n y : ℕ) → extend f n y n ≡ y
unfolding extend
extend-new f n y = ap (λ (t : Bool). cond t y (f n)) (eq-eqb n n refl)

-- below n + 1: below n, or n
pub up_to : (P : ℕ → Type 0) (n : ℕ) → ((i : ℕ) → i < n → P i) → P n → (i : ℕ) → i < n + 1 → P i
up_to P n old new i h = ⊎_elim (λ l. old i l) (λ l. let e : n ≡ i = omega arith in subst P e new) (lt_or_ge i n)

-- a rising function below k, with the value k at its end
module _ (f : ℕ → ℕ) (n k : ℕ) (inside : (i : ℕ) → i < n → f i < k) where
  extend-inside : (i : ℕ) → i < n + 1 → extend f n k i < k + 1
  extend-inside =
      up_to (λ i. extend f n k i < k + 1) n
      (λ i h. omega (arith, extend-old f n k i h, inside i h))
      (omega (arith, extend-new f n k))

  extend-rises : ((i j : ℕ) → i < j → j < n → f i < f j) → (i j : ℕ) → i < j → j < n + 1
      → extend f n k i < extend f n k j
  extend-rises rises i j h l =
      up_to (λ j. i < j → extend f n k i < extend f n k j) n
      (λ j hj hi. omega (arith, extend-old f n k i (omega arith), extend-old f n k j hj, rises i j hi hj))
      (λ hi. omega (arith, extend-old f n k i hi, extend-new f n k, inside i hi))
      j l h

at_old : (f : ℕ → ℕ) (n k p : ℕ) → At f n p → At (extend f n k) (n + 1) p
at_old f n k p a =
    record { at = a.at; inside = omega (arith, a.inside); is = extend-old f n k a.at a.inside ∙ a.is }

at_new : (f : ℕ → ℕ) (n k : ℕ) → At (extend f n k) (n + 1) k
at_new f n k = record { at = n; inside = omega arith; is = extend-new f n k }

module _ (vs : List Vote) (v : Vote) where
  vote-old : (k : ℕ) → k < length vs → vote_at (vs ++ v ∷ []) k ≡ vote_at vs k
  unfolding vote_at
  vote-old k h = grown-old no_vote vs v k h

  vote-new : vote_at (vs ++ v ∷ []) (length vs) ≡ v
  unfolding vote_at
  vote-new = grown-new no_vote vs v

-- the tie of two that grew, from the tie before and the new part
tied-grown : {b w c x : Model} {place number place' number' : ℕ → ℕ} → Tied b w place number → WellFormed x
    → Grown w x (place 0) → place' 0 ≡ place 0 → Part c x place' number' → Tied c x place' number'
tied-grown {w = w} {x = x} {place = place} tied good grown same part =
    let r = place 0 in
    let before = tied.within.good in
    record {
      within = record {
        good = good;
        low = omega (
          arith,
          ap (height_of x.checkpoints) same,
          old-height w x r before good grown r grown.held,
          tied.within.low,
        );
        part = part;
      };
      final = subst (Final x) (sym same) (final_grows w x r before good grown tied.final);
      low = subst (Low x) (sym same) (low_grows w x r before good grown tied.low);
      frozen = subst (Frozen x) (sym same) (frozen_grows w x r before good grown tied.frozen);
      shown = subst (Shown x) (sym same) (shown_grows w x r before good grown tied.low tied.shown);
    }

-- ---- a vote between kept places

module _ {b w : Model} {place number : ℕ → ℕ} (tied : Tied b w place number) (v : Vote)
    (hs : v.source < length b.checkpoints) (ht : v.target < length b.checkpoints)
    (good : WellFormed (append w (add_vote (shifted place v)))) where
  abbrev bv : List Vote
  bv = b.votes

  abbrev wv : List Vote
  wv = w.votes

  abbrev bv' : List Vote
  bv' = b.votes ++ v ∷ []

  abbrev wv' : List Vote
  wv' = w.votes ++ shifted place v ∷ []

  abbrev part : Part b w place number
  part = tied.within.part

  -- the source is kept
  abbrev From : Vote → Type 0
  From u = Kept w.checkpoints (place 0) u.source

  abbrev new-number : ℕ → ℕ
  new-number = extend number (length b.votes) (length w.votes)

  bv-length : length bv' ≡ length bv + 1
  bv-length = grown-length no_vote bv v

  wv-length : length wv' ≡ length wv + 1
  wv-length = grown-length no_vote wv (shifted place v)

  vote-grown : Grown w (append w (add_vote (shifted place v))) (place 0)
  unfolding append
  vote-grown =
      record {
        held = part.inside 0 part.rooted;
        rule = refl;
        members = refl;
        more = omega arith;
        old = λ i h. refl;
        more-votes = omega (arith, wv-length);
        old-vote = vote-old wv (shifted place v);
        new-vote = λ k l h.
            let e : length wv ≡ k = omega (arith, wv-length) in
            subst (λ (j : ℕ). From (vote_at wv' j)) e
            (subst From (sym (vote-new wv (shifted place v))) (places-kept tied.within v.source hs));
      }

  -- what holds of every vote of the part
  each-vote : (P : ℕ → Vote → Type 0) → ((k : ℕ) → k < length bv → P k (vote_at bv k)) → P (length bv) v
      → (k : ℕ) → k < length bv' → P k (vote_at bv' k)
  each-vote P old new k h =
      up_to (λ j. P j (vote_at bv' j)) (length bv)
      (λ j l. subst (P j) (sym (vote-old bv v j l)) (old j l))
      (subst (P (length bv)) (sym (vote-new bv v)) new)
      k (omega (arith, bv-length))

  vote-part : Part (append b (add_vote v)) (append w (add_vote (shifted place v))) place new-number
  unfolding append
  vote-part =
      record {
        rule = part.rule;
        members = part.members;
        rooted = part.rooted;
        inside = part.inside;
        rises = part.rises;
        name = part.name;
        height = part.height;
        parent-before = part.parent-before;
        parent = part.parent;
        whole = part.whole;
        vote-inside = λ k h.
            omega (arith, extend-inside number (length bv) (length wv) part.vote-inside k (in_b h), wv-length);
        vote-rises = λ i j h l.
            extend-rises number (length bv) (length wv) part.vote-inside part.vote-rises i j h (in_b l);
        source = each-vote (λ k u. u.source < length b.checkpoints) part.source hs;
        target = each-vote (λ k u. u.target < length b.checkpoints) part.target ht;
        vote = each-vote (λ k u. vote_at wv' (new-number k) ≡ shifted place u)
            (λ j l.
            ap (vote_at wv') (extend-old number (length bv) (length wv) j l)
            ∙ vote-old wv (shifted place v) (number j) (part.vote-inside j l)
            ∙ part.vote j l)
            (ap (vote_at wv') (extend-new number (length bv) (length wv)) ∙ vote-new wv (shifted place v));
        vote-whole = λ k h s.
            subst (λ (n : ℕ). At new-number n k) (sym bv-length)
            (up_to (λ j. From (vote_at wv' j) → At new-number (length bv + 1) j) (length wv)
            (λ j l q. at_old number (length bv) (length wv) j
            (part.vote-whole j l (subst From (vote-old wv (shifted place v) j l) q)))
            (λ q. at_new number (length bv) (length wv))
            k (omega (arith, wv-length)) s);
      }
    where
      in_b : {k : ℕ} → k < length bv' → k < length bv + 1
      in_b h = omega (arith, bv-length)

  pub vote-bound : Bound (append b (add_vote v)) (append w (add_vote (shifted place v)))
  vote-bound =
      record { place = place; number = new-number; tied = tied-grown tied good vote-grown refl vote-part }

-- ---- a checkpoint under a kept place

module _ {b w : Model} {place number : ℕ → ℕ} (tied : Tied b w place number) (c d : Checkpoint)
    (held : c.parent < length b.checkpoints) (same_name : c.name ≡ d.name) (same-height : c.height ≡ d.height)
    (same-parent : place c.parent ≡ d.parent) (good : WellFormed (append w (add_checkpoint d))) where
  abbrev bc : List Checkpoint
  bc = b.checkpoints

  abbrev wc : List Checkpoint
  wc = w.checkpoints

  abbrev bc' : List Checkpoint
  bc' = b.checkpoints ++ c ∷ []

  abbrev wc' : List Checkpoint
  wc' = w.checkpoints ++ d ∷ []

  abbrev old-part : Part b w place number
  old-part = tied.within.part

  abbrev new-place : ℕ → ℕ
  new-place = extend place (length b.checkpoints) (length w.checkpoints)

  bc-length : length bc' ≡ length bc + 1
  bc-length = grown-length no_checkpoint bc c

  wc-length : length wc' ≡ length wc + 1
  wc-length = grown-length no_checkpoint wc d

  checkpoint-grown : Grown w (append w (add_checkpoint d)) (place 0)
  unfolding append
  checkpoint-grown =
      record {
        held = old-part.inside 0 old-part.rooted;
        rule = refl;
        members = refl;
        more = omega (arith, wc-length);
        old = checkpoint-old wc d;
        more-votes = omega arith;
        old-vote = λ k h. refl;
        new-vote = λ k l h. absurd (omega arith);
      }

  old-place : (i : ℕ) → i < length bc → new-place i ≡ place i
  old-place i h = extend-old place (length bc) (length wc) i h

  same-root : new-place 0 ≡ place 0
  same-root = old-place 0 old-part.rooted

  -- a property of the checkpoint at a place of the one and at its place in the other
  both_at : (P : ℕ → Checkpoint → Checkpoint → Type 0)
      → ((i : ℕ) → i < length bc → P i (checkpoint_at bc i) (checkpoint_at wc (place i)))
      → P (length bc) c d
      → (i : ℕ) → i < length bc'
      → P i (checkpoint_at bc' i) (checkpoint_at wc' (new-place i))
  both_at P old new i h =
      up_to (λ i. P i (checkpoint_at bc' i) (checkpoint_at wc' (new-place i))) (length bc)
      (λ i l. subst₂ (P i) (sym (checkpoint-old bc c i l))
      (sym (ap (checkpoint_at wc') (old-place i l) ∙ checkpoint-old wc d (place i) (old-part.inside i l)))
      (old i l))
      (subst₂ (P (length bc)) (sym (checkpoint-new bc c))
      (sym (ap (checkpoint_at wc') (extend-new place (length bc) (length wc)) ∙ checkpoint-new wc d))
      new)
      i (omega (arith, bc-length))

  checkpoint-part : Part (append b (add_checkpoint c)) (append w (add_checkpoint d)) new-place number
  unfolding append
  checkpoint-part =
      record {
        rule = old-part.rule;
        members = old-part.members;
        rooted = omega (arith, bc-length);
        inside = λ i h.
            omega (arith, extend-inside place (length bc) (length wc) old-part.inside i (in_b h), wc-length);
        rises = λ i j h l.
            extend-rises place (length bc) (length wc) old-part.inside old-part.rises i j h (in_b l);
        name = both_at (λ i x y. x.name ≡ y.name) old-part.name same_name;
        height = both_at (λ i x y. x.height ≡ y.height) old-part.height same-height;
        parent-before = λ i l h.
            both_at (λ i x y. 0 < i → x.parent < i) (λ j hj p. old-part.parent-before j p hj) (λ p. held) i h l;
        parent = λ i l h.
            both_at (λ i x y. 0 < i → new-place x.parent ≡ y.parent)
            (λ j hj p.
            old-place (parent_of bc j) (omega (arith, old-part.parent-before j p hj)) ∙ old-part.parent j p hj)
            (λ p. old-place c.parent held ∙ same-parent)
            i h l;
        whole = λ p k h.
            subst (λ (n : ℕ). At new-place n p) (sym bc-length)
            (up_to (λ q. Kept wc' (new-place 0) q → At new-place (length bc + 1) q) (length wc)
            (λ q l kq. at_old place (length bc) (length wc) q (old-part.whole q (shrink q l kq) l))
            (λ kq. at_new place (length bc) (length wc))
            p (omega (arith, wc-length)) k);
        vote-inside = old-part.vote-inside;
        vote-rises = old-part.vote-rises;
        source = λ k h. omega (arith, old-part.source k h, bc-length);
        target = λ k h. omega (arith, old-part.target k h, bc-length);
        vote = λ k h.
            old-part.vote k h ∙ same-places (vote_at b.votes k) (old-part.source k h) (old-part.target k h);
        vote-whole = λ k h s. old-part.vote-whole k h (shrink _ (tied.within.good.votes k h).source s);
      }
    where
      in_b : {k : ℕ} → k < length bc' → k < length bc + 1
      in_b h = omega (arith, bc-length)

      shrink : (q : ℕ) → q < length wc → Kept wc' (new-place 0) q → Kept wc (place 0) q
      shrink q l k =
          kept-shrink w (append w (add_checkpoint d)) (place 0) tied.within.good good checkpoint-grown l
          (subst (λ (r : ℕ). Kept wc' r q) same-root k)

      same-places : (u : Vote) → u.source < length bc → u.target < length bc → shifted place u ≡ shifted new-place u
      same-places u hs ht =
          let source = sym (old-place u.source hs) in
          let target = sym (old-place u.target ht) in
          λ i. record { voter = u.voter; source = source i; target = target i }

  pub checkpoint-bound : Bound (append b (add_checkpoint c)) (append w (add_checkpoint d))
  checkpoint-bound =
      let after = tied-grown tied good checkpoint-grown same-root checkpoint-part in
      record { place = new-place; number = number; tied = after }

-- ---- other members or another rule, while there is the root alone and no vote

abbrev pub with_other : Model → Rule → List Member → Model
with_other m r ms = record { rule = r; members = ms; checkpoints = m.checkpoints; votes = m.votes }

module _ {b w : Model} {place number : ℕ → ℕ} (tied : Tied b w place number)
    (no-vote : length w.votes ≤ 0) (alone : length w.checkpoints ≤ 1)
    (r q : Rule) (ms ns : List Member) (good : WellFormed (with_other w q ns)) where
  at-root : place 0 ≡ 0
  at-root = let h = tied.within.part.inside 0 tied.within.part.rooted in omega arith

  pub other-tied : r ≡ q → ms ≡ ns → Tied (with_other b r ms) (with_other w q ns) place number
  other-tied rule members =
      let p = tied.within.part in
      record {
        within = record {
          good = good;
          low = tied.within.low;
          part = record {
            rule = rule;
            members = members;
            rooted = p.rooted;
            inside = p.inside;
            rises = p.rises;
            name = p.name;
            height = p.height;
            parent-before = p.parent-before;
            parent = p.parent;
            whole = p.whole;
            vote-inside = p.vote-inside;
            vote-rises = p.vote-rises;
            source = p.source;
            target = p.target;
            vote = p.vote;
            vote-whole = p.vote-whole;
          };
        };
        final = subst (Final (with_other w q ns)) (sym at-root) genesis;
        low = λ k h out. absurd (omega arith);
        frozen = λ x f out.
            let h = final-held (with_other w q ns) good f in
            let e : x ≡ place 0 = omega (arith, at-root) in
            absurd (out (inl e));
        shown = λ id a c x. absurd (omega (arith, x.held));
      }
