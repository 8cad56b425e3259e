-- A model that grew by checkpoints, and by votes from kept places: what was final, low, frozen and shown stays so.
use Prim.Native.Nat.{ℕ, ◌<◌, ◌≤◌}
use native.Mathlib.Nat.{le_refl, le_trans, mul-le-mul_left}
use native.Mathlib.Omega.{arith}
use mathlib.Core.Path.{◌≡◌, refl, sym, ap, ◌∙◌, subst, subst₂}
use mathlib.Core.Logic.{inl, inr, ⊎_elim}
use mathlib.Core.List.{List}
use mathlib.Core.Bool.{true}
use lib.ListN.{length}
use Rattle.model.specs.Exact.{BreakingPair, no-later}
use Rattle.model.specs.Finality.{Justified, root, link, genesis, sealed, Final}
use Rattle.model.specs.Model.{Model, Member, Checkpoint, Vote, checkpoint_at, height_of, vote_at, vote_for}
use Rattle.model.specs.Rule.{Rule, quota_of}
use Rattle.model.specs.Slashing.{Condition, double, surrounds, surrounded, Breaks}
use Rattle.model.specs.Support.{sum, total, supports, quorum, carries, link?, Link}
use Rattle.model.specs.Tree.{Child, Ancestor, near, far}
use Rattle.model.specs.WellFormed.{WellFormed}
use Rattle.model.proofs.Lists.{lt_or_ge}
use Rattle.model.proofs.Slashing.{breaks-swap}
use Rattle.model.proofs.Support.{Held, supports-held, held-supports, sum_mono, quorum-parts, parts-quorum, link-climbs}
use Rattle.model.proofs.Support.{link-held}
use Rattle.model.proofs.Tree.{child-later, ancestor-lower}
use Rattle.moves.specs.Part.{Kept}
use Rattle.moves.proofs.Part.{kept_under}
use Rattle.comparison.proofs.Pairs.{SameHeights, same_back, breaks_by_heights}
use Rattle.comparison.proofs.Tied.{Low, Frozen, Shown, KeptPair, kept_high, kept_or_not}

-- w grew to x
pub record Grown (w x : Model) (r : ℕ) : Type 0 where
  pub held : r < length w.checkpoints
  pub rule : x.rule ≡ w.rule
  pub members : x.members ≡ w.members
  pub more : length w.checkpoints ≤ length x.checkpoints
  pub old : (i : ℕ) → i < length w.checkpoints → checkpoint_at x.checkpoints i ≡ checkpoint_at w.checkpoints i
  pub more-votes : length w.votes ≤ length x.votes
  pub old-vote : (k : ℕ) → k < length w.votes → vote_at x.votes k ≡ vote_at w.votes k
  pub new-vote : (k : ℕ) → length w.votes ≤ k → k < length x.votes
      → Kept x.checkpoints r (vote_at x.votes k).source

-- a vote from no lower than h up, and one with a target no higher than h, break nothing
no_mixed : (m : Model) (v u : Vote) (h : ℕ) → h ≤ height_of m.checkpoints v.source
    → height_of m.checkpoints v.source < height_of m.checkpoints v.target
    → height_of m.checkpoints u.target ≤ h → Condition m v u → ⊥
no_mixed m v u h a b c (double d) = omega (arith, d.equal)
no_mixed m v u h a b c (surrounds s) = omega (arith, s.below, s.inside)
no_mixed m v u h a b c (surrounded s) = omega (arith, s.above)

-- more supporters of a link under the same rule, among the same members
link_mono : (m n : Model) → n.rule ≡ m.rule → n.members ≡ m.members → (s t : ℕ)
    → ((y : Member) → supports m s t y ≡ true → supports n s t y ≡ true) → Link m s t → Link n s t
unfolding link? carries
link_mono m n rule members s t more l =
    let ms = m.members in
    let k = quota_of m.rule in
    let e = quorum-parts k (sum (supports m s t) ms) (total ms) l in
    subst₂ (λ (r : Rule) (xs : List Member). quorum (quota_of r) (sum (supports n s t) xs) (total xs) ≡ true)
    (sym rule) (sym members)
    (parts-quorum k (sum (supports n s t) ms) (total ms) e.0
    (le_trans e.1 (mul-le-mul_left k.q (sum_mono more ms))))

module _ (w x : Model) (r : ℕ) (good : WellFormed w) (good' : WellFormed x) (grown : Grown w x r) where
  abbrev wc : List Checkpoint
  wc = w.checkpoints

  abbrev xc : List Checkpoint
  xc = x.checkpoints

  pub old-height : (i : ℕ) → i < length wc → height_of xc i ≡ height_of wc i
  old-height i h = ap (λ (c : Checkpoint). c.height) (grown.old i h)

  -- ---- the tree

  child_grow : {p q : ℕ} → Child wc p q → Child xc p q
  child_grow {p} {q} c =
      record {
        later = c.later;
        inside = omega (arith, c.inside, grown.more);
        from = ap (λ (y : Checkpoint). y.parent) (grown.old q c.inside) ∙ c.from;
      }

  child-shrink : {p q : ℕ} → q < length wc → Child xc p q → Child wc p q
  child-shrink {p} {q} h c =
      record {
        later = c.later;
        inside = h;
        from = sym (ap (λ (y : Checkpoint). y.parent) (grown.old q h)) ∙ c.from;
      }

  ancestor_grow : {p q : ℕ} → Ancestor wc p q → Ancestor xc p q
  ancestor_grow (near c) = near (child_grow c)
  ancestor_grow (far up c) = far (ancestor_grow up) (child_grow c)

  ancestor-shrink : {p q : ℕ} → q < length wc → Ancestor xc p q → Ancestor wc p q
  ancestor-shrink h (near c) = near (child-shrink h c)
  ancestor-shrink h (far up c) =
      far (ancestor-shrink (omega (arith, child-later xc good'.tree c)) up) (child-shrink h c)

  kept_grow : {p : ℕ} → Kept wc r p → Kept xc r p
  kept_grow (inl e) = inl e
  kept_grow (inr up) = inr (ancestor_grow up)

  pub kept-shrink : {p : ℕ} → p < length wc → Kept xc r p → Kept wc r p
  kept-shrink h (inl e) = inl e
  kept-shrink h (inr up) = inr (ancestor-shrink h up)

  -- ---- links

  held_grow : {v : Vote} → Held w.votes v → Held x.votes v
  held_grow h =
      record {
        number = h.number;
        inside = omega (arith, h.inside, grown.more-votes);
        is = grown.old-vote h.number h.inside ∙ h.is;
      }

  -- a vote from a place that isn't kept was there before
  held-shrink : (v : Vote) → (Kept xc r v.source → ⊥) → Held x.votes v → Held w.votes v
  held-shrink v out h =
      ⊎_elim
      (λ l. record { number = h.number; inside = l; is = sym (grown.old-vote h.number l) ∙ h.is })
      (λ l.
      let new = grown.new-vote h.number l h.inside in
      absurd (out (subst (λ (u : Vote). Kept xc r u.source) h.is new)))
      (lt_or_ge h.number (length w.votes))

  link_grow : (s t : ℕ) → Link w s t → Link x s t
  link_grow s t =
      link_mono w x grown.rule grown.members s t
      (λ y e. held-supports x s t y (held_grow (supports-held w s t y e)))

  link-shrink : (s t : ℕ) → (Kept xc r s → ⊥) → Link x s t → Link w s t
  link-shrink s t out =
      link_mono x w (sym grown.rule) (sym grown.members) s t
      (λ y e. held-supports w s t y (held-shrink (vote_for y.id s t) out (supports-held x s t y e)))

  -- ---- justified and final

  justified_grow : {p : ℕ} → Justified w p → Justified x p
  justified_grow root = root
  justified_grow (link {s = s} {t = t} j l) = link (justified_grow j) (link_grow s t l)

  justified-shrink : {p : ℕ} → (Kept xc r p → ⊥) → Justified x p → Justified w p
  justified-shrink out root = root
  justified-shrink out (link {s = s} {t = t} j l) =
      let off : Kept xc r s → ⊥ = λ k. out (kept_under k (link-climbs x good' s t l)) in
      link (justified-shrink off j) (link-shrink s t off l)

  pub final_grows : {p : ℕ} → Final w p → Final x p
  final_grows genesis = genesis
  final_grows (sealed {p = p} j f) =
      sealed (justified_grow j)
      (record { child = f.child; direct = child_grow f.direct; linked = link_grow p f.child f.linked })

  final-shrink : {p : ℕ} → (Kept xc r p → ⊥) → Final x p → Final w p
  final-shrink out genesis = genesis
  final-shrink out (sealed {p = p} j f) =
      let l = link-shrink p f.child out f.linked in
      sealed (justified-shrink out j)
      (record { child = f.child; direct = child-shrink (link-held w good p f.child l) f.direct; linked = l })

  pub frozen_grows : Frozen w r → Frozen x r
  frozen_grows frozen p f out = ancestor_grow (frozen p (final-shrink out f) (λ k. out (kept_grow k)))

  pub low_grows : Low w r → Low x r
  low_grows low k h out =
      ⊎_elim
      (λ l.
      let is = grown.old-vote k l in
      let dropped = low k l (λ q. out (subst (λ (u : Vote). Kept xc r u.source) (sym is) (kept_grow q))) in
      omega (
        arith,
        ap (λ (u : Vote). height_of xc u.target) is,
        old-height (vote_at w.votes k).target (good.votes k l).target,
        old-height r grown.held,
      ))
      (λ l. absurd (out (grown.new-vote k l h)))
      (lt_or_ge k (length w.votes))

  -- ---- pairs

  vote-heights : (k : ℕ) → k < length w.votes → SameHeights x w (vote_at w.votes k) (vote_at w.votes k)
  vote-heights k h =
      let v = good.votes k h in
      record { voter = refl; source = old-height _ v.source; target = old-height _ v.target }

  pair_grow : {id a c : ℕ} → BreakingPair w id a c → BreakingPair x id a c
  pair_grow {id} {a} {c} p =
      let ha : a < length w.votes = omega (arith, p.order, p.held) in
      let hc = p.held in
      record {
        order = p.order;
        held = omega (arith, p.held, grown.more-votes);
        voter = ap (λ (u : Vote). u.voter) (grown.old-vote a ha) ∙ p.voter;
        breaks = subst₂ (Breaks x) (sym (grown.old-vote a ha)) (sym (grown.old-vote c hc))
            (breaks_by_heights (same_back (vote-heights a ha)) (same_back (vote-heights c hc)) (λ d. d) p.breaks);
      }

  pair-shrink : {id a c : ℕ} → c < length w.votes → BreakingPair x id a c → BreakingPair w id a c
  pair-shrink {id} {a} {c} hc p =
      let ha : a < length w.votes = omega (arith, p.order) in
      record {
        order = p.order;
        held = hc;
        voter = sym (ap (λ (u : Vote). u.voter) (grown.old-vote a ha)) ∙ p.voter;
        breaks = breaks_by_heights (vote-heights a ha) (vote-heights c hc) (λ d. d)
            (subst₂ (Breaks x) (grown.old-vote a ha) (grown.old-vote c hc) p.breaks);
      }

  -- no kept vote breaks with one that isn't kept
  partner-kept : Low x r → (a c : ℕ) → a < length x.votes → c < length x.votes
      → Kept xc r (vote_at x.votes c).source → Breaks x (vote_at x.votes a) (vote_at x.votes c)
      → Kept xc r (vote_at x.votes a).source
  partner-kept low a c ha hc kept br =
      ⊎_elim
      (λ k. k)
      (λ out. absurd (no_mixed x (vote_at x.votes c) (vote_at x.votes a) (height_of xc r)
      (kept_high xc good'.tree kept) (ancestor-lower xc good'.tree (good'.votes c hc).climbs) (low a ha out)
      (breaks-swap x _ _ br).condition))
      (kept_or_not xc good'.tree r (vote_at x.votes a).source)

  pub shown_grows : Low w r → Shown w r → Shown x r
  shown_grows low shown id a c p = ⊎_elim older newer (lt_or_ge c (length w.votes))
    where
      still : (k : ℕ) → k < length w.votes → Kept wc r (vote_at w.votes k).source
          → Kept xc r (vote_at x.votes k).source
      still k h q = subst (λ (u : Vote). Kept xc r u.source) (sym (grown.old-vote k h)) (kept_grow q)

      older : c < length w.votes → KeptPair x r id a c
      older l =
          let k = shown id a c (pair-shrink l p) in
          let one : k.one < length w.votes = omega (arith, k.pair.order, k.pair.held) in
          record {
            one = k.one;
            other = k.other;
            pair = pair_grow k.pair;
            one_kept = still k.one one k.one_kept;
            other-kept = still k.other k.pair.held k.other-kept;
            before = k.before;
          }

      newer : length w.votes ≤ c → KeptPair x r id a c
      newer l =
          let kept = grown.new-vote c l p.held in
          let ha : a < length x.votes = omega (arith, p.order, p.held) in
          record {
            one = a;
            other = c;
            pair = p;
            one_kept = partner-kept (low_grows low) a c ha p.held kept p.breaks;
            other-kept = kept;
            before = no-later refl (le_refl c);
          }
