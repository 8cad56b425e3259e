-- Accountable safety, source document 002, theorem 1, with bonds as weights: if two final checkpoints conflict, the
-- members whose votes break a slashing condition hold at least 2p - q of q parts of all bonds, where a quorum is p of q
-- parts; our list names them and passes.
use Prim.Native.Nat.{ℕ, ◌+◌, ◌*◌, ◌-◌, ◌<◌, ◌≤◌}
use native.Mathlib.Nat.{mul-le-mul_left, le_trans}
use native.Mathlib.Omega.{arith}
use mathlib.Core.Path.{◌≡◌, refl, sym, ap, subst₂}
use mathlib.Core.Logic.{⊎_elim}
use mathlib.Core.Bool.{Bool, true, ◌&&◌}
use lib.ListN.{length}
use Rattle.model.specs.Evidence.{violator?}
use Rattle.model.specs.Exact.{Violation}
use Rattle.model.specs.Finality.{Sealed, Final, genesis, sealed, ConflictingFinals}
use Rattle.model.specs.Model.{Model, Member, Vote, height_of, start, quota, vote_for}
use Rattle.model.specs.Run.{after}
use Rattle.model.specs.Slashing.{Breaks, Condition, other-source, other-target, double, surrounds}
use Rattle.model.specs.Support.{Link, sum, supports, total}
use Rattle.model.specs.Tree.{Conflict}
use Rattle.model.specs.WellFormed.{WellFormed}
use Rattle.model.proofs.Charges.{true_guilty}
use Rattle.model.proofs.Checker.{our_list_passes, checker_exact}
use Rattle.model.proofs.Conduct.{two-votes, true_violator}
use Rattle.model.proofs.Finality.{final-justified, final-held}
use Rattle.model.proofs.Lists.{and_left, and_right, all_map, lt_or_ge}
use Rattle.moves.proofs.Run.{reached-good}
use Rattle.model.proofs.Support.{Held, supports-held, sum_mono, link-carries, link-climbs}
use Rattle.model.proofs.Tree.{child_higher, conflict-swap, root_in_no_conflict}
use Rattle.safety.specs.Share.{AccountableSafety, NoInnocentNamed}
use Rattle.safety.proofs.Crossing.{finals_cross}
use Rattle.safety.proofs.Weight.{carriers_share, third}

-- two links s1 → t1 and s2 → t2: whoever votes for both breaks a slashing condition
record CrossingLinks (m : Model) : Type 0 where
  pub s1 : ℕ
  pub t1 : ℕ
  pub s2 : ℕ
  pub t2 : ℕ
  pub one : Link m s1 t1
  pub other : Link m s2 t2
  pub breaks : (id : ℕ) → Breaks m (vote_for id s1 t1) (vote_for id s2 t2)

module _ (m : Model) (good : WellFormed m) where
  abbrev h : ℕ → ℕ
  h p = height_of m.checkpoints p

  -- property (iv), "at most one justified checkpoint with height n": the links into two of them cross
  same-height : (s1 t1 s2 t2 : ℕ) → Link m s1 t1 → Link m s2 t2 → (t1 ≡ t2 → ⊥) → h t1 ≡ h t2 → CrossingLinks m
  same-height s1 t1 s2 t2 l1 l2 differ level =
      record {
        s1 = s1;
        t1 = t1;
        s2 = s2;
        t2 = t2;
        one = l1;
        other = l2;
        breaks = λ id. record { one-voter = refl; distinct = other-target differ; condition = double (record { equal = level }) };
      }

  -- a link from below a sealed checkpoint a to above it crosses the link from a to its child: it ends at the child's
  -- height, or it surrounds that link
  passing-over : (a s t : ℕ) → Sealed m a → Link m s t → h s < h a → h a < h t → CrossingLinks m
  passing-over a s t f l below above =
      record {
        s1 = s;
        t1 = t;
        s2 = a;
        t2 = f.child;
        one = l;
        other = f.linked;
        breaks = λ id. record { one-voter = refl; distinct = other-source sources-differ; condition = condition id };
      }
    where
      child-above : h f.child ≡ h a + 1
      child-above = child_higher m.checkpoints good.tree f.direct

      sources-differ : s ≡ a → ⊥
      sources-differ e = omega (arith, ap h e)

      condition : (id : ℕ) → Condition m (vote_for id s t) (vote_for id a f.child)
      condition id =
          ⊎_elim
          (λ higher. surrounds (record { below = below; inside = omega (arith, child-above); above = higher }))
          (λ no-higher. double (record { equal = omega (arith, child-above) }))
          (lt_or_ge (h f.child) (h t))

  -- a final checkpoint in a conflict isn't the root, which conflicts with nothing held: it is sealed
  conflict_seals : {a b : ℕ} → Final m a → b < length m.checkpoints → Conflict m.checkpoints a b → Sealed m a
  conflict_seals {b = b} genesis inside c = absurd (root_in_no_conflict m.checkpoints good.tree b inside c)
  conflict_seals (sealed j f) inside c = f

  crossing-links : ConflictingFinals m → CrossingLinks m
  crossing-links c =
      finals_cross m.checkpoints good.tree (Link m) (link-climbs m good)
      (CrossingLinks m) (Sealed m) same-height passing-over
      c.one c.other
      (final-justified c.one-final)
      (conflict_seals c.one-final (final-held m good c.other-final) c.conflict)
      (final-justified c.other-final)
      (conflict_seals c.other-final (final-held m good c.one-final) (conflict-swap c.conflict))
      c.conflict

-- who supports both of two crossing links holds two votes that break
supports-both : (m : Model) (x : Member) (c : CrossingLinks m) →
    supports m c.s1 c.t1 x ≡ true → supports m c.s2 c.t2 x ≡ true → Violation m x.id
supports-both m x c one other = pair (supports-held m c.s1 c.t1 x one) (supports-held m c.s2 c.t2 x other)
  where
    pair : Held m.votes (vote_for x.id c.s1 c.t1) → Held m.votes (vote_for x.id c.s2 c.t2) → Violation m x.id
    pair p q =
        two-votes m x.id p.number q.number p.inside q.inside
        (ap (λ (v : Vote). v.voter) p.is)
        (subst₂ (Breaks m) (sym p.is) (sym q.is) (c.breaks x.id))

pub share_of_violators : (m : Model) → WellFormed m → ConflictingFinals m
    → (2 * (quota m).p - (quota m).q) * total m.members ≤ (quota m).q * sum (violator? m) m.members
share_of_violators m good finals =
    le_trans
    (carriers_share m c.t1 c.t2 one other (link-carries m c.s1 c.t1 c.one) (link-carries m c.s2 c.t2 c.other))
    (mul-le-mul_left (quota m).q (sum_mono in_both m.members))
  where
    c : CrossingLinks m
    c = crossing-links m good finals

    one : Member → Bool
    one = supports m c.s1 c.t1

    other : Member → Bool
    other = supports m c.s2 c.t2

    in_both : (x : Member) → (one x && other x) ≡ true → violator? m x ≡ true
    in_both x e = true_violator m x (supports-both m x c (and_left (one x) (other x) e) (and_right (one x) (other x) e))

pub accountable_safety : AccountableSafety
accountable_safety name es bytes finals =
    let m = after (start name) es in
    let good = reached-good name es bytes in
    let named = sum (violator? m) m.members in
    let share = share_of_violators m good finals in
    record {
      named = named;
      passes = our_list_passes m good;
      permitted = good.rule;
      share = share;
      third = λ most. third (quota m).p (quota m).q (total m.members) named good.rule.some most share;
    }

pub no_innocent_named : NoInnocentNamed
no_innocent_named m l s bytes passes =
    let p = (checker_exact m l bytes).passes passes in
    record { passed = p; guilty = all_map (true_guilty m) p.holds }
