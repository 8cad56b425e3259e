-- Ancestors in a tree whose parents stand at smaller places: one parent step at a time, and by the parents alone.
use Prim.Native.Nat.{ℕ, zero, suc, ◌<◌, ◌≤◌}
use native.Mathlib.Omega.{arith}
use mathlib.Core.Path.{◌≡◌, refl, sym, ap, ◌∙◌, subst}
use mathlib.Core.Logic.{⊎_elim}
use mathlib.Core.List.{List, []}
use mathlib.Core.Bool.{Bool, true, false, ◌&&◌, ◌||◌, and-false, and-true, or-false}
use borrow.Author.Tests.{eq-eqb, ne_eqb, lt-ltb, le-ltb}
use lib.Dec.{eqb, ltb}
use lib.ListN.{length}
use Rattle.model.specs.declared.Place.{Place}
use Rattle.model.specs.Lists.{tabulate}
use Rattle.model.specs.Model.{Checkpoint, checkpoint_at, parent_of, no_checkpoint}
use Rattle.model.specs.Tree.{Child, child?, reached?, ancestor?}
use Rattle.model.proofs.Tree.{child_true}
use Rattle.model.proofs.Lists.{lt_or_ge, not_so, length-tabulate, tabulate-at}
use Rattle.tables.specs.Places.{place_at, tree_of, Falling}

-- each checkpoint but the root has its parent at a smaller place
abbrev pub Smaller : List Checkpoint → Type 0
Smaller cs = (i : ℕ) → 0 < i → i < length cs → parent_of cs i < i

-- the walk from t has come to `at`: s is above t where the walk, begun, stands on s or s is above `at`
abbrev pub Walk : List Checkpoint → ℕ → ℕ → ℕ → Type 0
Walk cs s t at = ancestor? cs s t ≡ ((eqb at s && ltb s t) || ancestor? cs s at)

module _ (cs : List Checkpoint) where
  -- nothing is above the root
  root-alone : (n a : ℕ) → reached? cs n a 0 ≡ false
  unfolding reached? child?
  root-alone zero a = refl
  root-alone (suc n) a = refl

  -- what follows a step to the parent matters where there is that step
  follows : (b : ℕ) {x y : Bool} → (Child cs (parent_of cs b) b → x ≡ y) → (child? cs (parent_of cs b) b && x) ≡ (child? cs (parent_of cs b) b && y)
  follows b {x} {y} h = go (child? cs (parent_of cs b) b) refl
    where
      go : (t : Bool) → child? cs (parent_of cs b) b ≡ t → (t && x) ≡ (t && y)
      go true e = h (child_true cs (parent_of cs b) b e)
      go false e = refl

  -- of a held checkpoint the test of a step asks for the parent alone
  held : (a b : ℕ) → 0 < b → b < length cs → child? cs a b ≡ eqb (parent_of cs b) a
  unfolding child?
  held a b later inside = simp (lt-ltb 0 b later, lt-ltb b (length cs) inside)

  module _ (smaller : Smaller cs) where
    child-later : {a b : ℕ} → Child cs a b → a < b
    child-later {a} {b} c = subst (λ (p : ℕ). p < b) c.from (smaller b c.later c.inside)

    -- how many steps are allowed makes no difference, where there are enough
    enough : (n m a b : ℕ) → b ≤ n → b ≤ m → reached? cs n a b ≡ reached? cs m a b
    unfolding reached?
    enough zero m a b h k = let q : b ≡ 0 = omega arith in rw q (sym (root-alone m a))
    enough (suc n) zero a b h k = let q : b ≡ 0 = omega arith in rw q (root-alone (suc n) a)
    enough (suc n) (suc m) a b h k =
        ap (◌||◌ (child? cs a b))
        (follows b (λ c. enough n m a (parent_of cs b) (omega (arith, child-later c)) (omega (arith, child-later c))))

    -- an ancestor stands at a smaller place
    none-later : (n a b : ℕ) → b ≤ a → reached? cs n a b ≡ false
    unfolding reached?
    none-later zero a b h = refl
    none-later (suc n) a b h =
        rw (not_so (λ e. none (child_true cs a b e)))
        (follows b (λ c. none-later n a (parent_of cs b) (omega (arith, child-later c))) ∙ and-false (child? cs (parent_of cs b) b))
      where
        none : Child cs a b → ⊥
        none c = omega (arith, child-later c)

    -- a is above b exactly when it is b's parent or above that
    step : (a b : ℕ) → 0 < b → b < length cs → ancestor? cs a b ≡ (eqb (parent_of cs b) a || ancestor? cs a (parent_of cs b))
    unfolding ancestor? reached?
    step a zero later inside = absurd (omega arith)
    step a (suc b) later inside =
        rw (held a (suc b) later inside, held p (suc b) later inside, eq-eqb p p refl, enough b p a p (omega (arith, smaller (suc b) later inside)) (omega arith))
      where
        p : ℕ
        p = parent_of cs (suc b)

    -- ---- the walk from t by parents

    pub walk_more : (s t at : ℕ) → s < at → at ≤ t → at < length cs → Walk cs s t at → Walk cs s t (parent_of cs at)
    walk_more s t at above low inside so =
        so ∙ rw (ne_eqb at s (λ q. omega arith), lt-ltb s t (omega arith), and-true, step s at (omega arith) inside)

    pub walk-done : (s t at : ℕ) → at ≤ s → Walk cs s t at → (eqb at s && ltb s t) ≡ ancestor? cs s t
    unfolding ancestor?
    walk-done s t at h so = sym (so ∙ rw (none-later at s at h, or-false))

-- ---- ancestors depend on the parents alone

-- what is not held has no parent
outside : (es : List Checkpoint) (a b : ℕ) → length es ≤ b → child? es a b ≡ false
unfolding child?
outside es a b h = rw (le-ltb b (length es) h, and-false)

module _ (cs ds : List Checkpoint) (long : length cs ≡ length ds) (same : (i : ℕ) → i < length cs → parent_of cs i ≡ parent_of ds i) where
  inside : (a b : ℕ) → b < length cs → child? cs a b ≡ child? ds a b
  unfolding child?
  inside a b h = rw (same b h, long)

  same-reached : (n a b : ℕ) → reached? cs n a b ≡ reached? ds n a b
  unfolding reached?
  same-reached zero a b = refl
  same-reached (suc n) a b =
      ⊎_elim
      (λ h. rw (same b h, inside a b h, inside (parent_of ds b) b h, same-reached n a (parent_of ds b)))
      (λ h. rw (outside cs a b h, outside cs (parent_of cs b) b h, outside ds a b (omega arith), outside ds (parent_of ds b) b (omega arith)))
      (lt_or_ge b (length cs))

  pub same-parents : (a b : ℕ) → ancestor? cs a b ≡ ancestor? ds a b
  unfolding ancestor?
  same-parents a b = same-reached b a b

-- ---- the tree of an array of parents

module _ (n : ℕ) (ps : List Place) where
  tree-length : length (tree_of n ps) ≡ n
  unfolding tree_of
  tree-length = length-tabulate n (λ i. record { name = []; parent = place_at ps i; height = 0 })

  tree-parent : (i : ℕ) → i < n → parent_of (tree_of n ps) i ≡ place_at ps i
  unfolding tree_of checkpoint_at
  tree-parent i h = ap (λ (c : Checkpoint). c.parent) (tabulate-at n (λ i. record { name = []; parent = place_at ps i; height = 0 }) no_checkpoint i h)

  -- any checkpoints with these parents have the same ancestors
  pub tree-tabulate : (f : ℕ → Checkpoint) → ((i : ℕ) → i < n → (f i).parent ≡ place_at ps i) → (a b : ℕ) → ancestor? (tree_of n ps) a b ≡ ancestor? (tabulate n f) a b
  tree-tabulate f e = same-parents (tree_of n ps) (tabulate n f) (tree-length ∙ sym (length-tabulate n f)) same
    where
      parent : (i : ℕ) → i < n → parent_of (tabulate n f) i ≡ (f i).parent
      parent i h = unfold checkpoint_at in ap (λ (c : Checkpoint). c.parent) (tabulate-at n f no_checkpoint i h)

      same : (i : ℕ) → i < length (tree_of n ps) → parent_of (tree_of n ps) i ≡ parent_of (tabulate n f) i
      same i h = let l : i < n = omega (arith, tree-length) in tree-parent i l ∙ sym (parent i l ∙ e i l)

  tree_smaller : Falling n ps → Smaller (tree_of n ps)
  tree_smaller falling i later inside = let l : i < n = omega (arith, tree-length) in rw (tree-parent i l) (falling i later l)

  -- the walk, over the array
  pub walked : (s t at : ℕ) → Falling n ps → s < at → at ≤ t → at < n → Walk (tree_of n ps) s t at → Walk (tree_of n ps) s t (place_at ps at)
  walked s t at falling above low inside so =
      rw (tree-parent at inside) at (walk_more (tree_of n ps) (tree_smaller falling) s t at above low (omega (arith, tree-length)) so)

  pub walk_ends : (s t at : ℕ) → Falling n ps → at ≤ s → Walk (tree_of n ps) s t at → (eqb at s && ltb s t) ≡ ancestor? (tree_of n ps) s t
  walk_ends s t at falling h so = walk-done (tree_of n ps) (tree_smaller falling) s t at h so
