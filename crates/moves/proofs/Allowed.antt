-- A move is made exactly when none of its rows stands against it: proof of specs/Allowed.antt.
use Prim.Native.Nat.{ℕ, ◌<◌, ◌≤◌}
use mathlib.Core.Path.{◌≡◌, refl, ap, ap₂}
use mathlib.Core.List.{List, [], ◌∷◌}
use mathlib.Core.Bool.{Bool, true, false, ◌||◌, not}
use borrow.Author.Tests.{ltb-true, lt-ltb, ltb-false, le-ltb, not-false, not-true}
use lib.Dec.{ltb}
use lib.ListN.{length, get_or}
use Rattle.model.specs.Answer.{answer}
use Rattle.model.specs.Change.{move_root}
use Rattle.model.specs.Decide.{bars_root, uses_dropped, risks_evidence, dropped_higher, drops_higher, decide_move}
use Rattle.model.specs.Evidence.{Charge, charges}
use Rattle.model.specs.Finality.{final?, conflicting?}
use Rattle.model.specs.Limits.{root_height_limit}
use Rattle.model.specs.Lists.{any, All, none, each}
use Rattle.model.specs.Model.{Model, height_of, place_held, vote_at, no_vote}
use Rattle.model.specs.Move.{kept?, kept_vote?}
use Rattle.model.specs.WellFormed.{WellFormed}
use Rattle.model.proofs.Answer.{row-passes, passes-row}
use Rattle.model.proofs.Finality.{final_true, true_final, conflict-exact}
use Rattle.model.proofs.Lists.{both, and_left, and_right, or_false_left, or_false_right, clash, not_so, any_found}
use Rattle.model.proofs.Lists.{none_any}
use Rattle.model.proofs.Rows.{MovePasses}
use Rattle.moves.specs.Allowed.{KeptVote, Allowed, MoveExact}
use Rattle.moves.proofs.Moved.{kept_true, true_kept, moved-part, root-first}
use Rattle.moves.proofs.Run.{passes-low}

module _ (m : Model) (good : WellFormed m) (r : ℕ) where
  -- ---- the votes that stay

  abbrev stays : ℕ → Bool
  stays k = kept_vote? m.checkpoints r (vote_at m.votes k)

  stays_true : (k : ℕ) → stays k ≡ true → KeptVote m r k
  unfolding kept_vote?
  stays_true k e =
      let cs = m.checkpoints in
      let v = vote_at m.votes k in
      let source = kept? cs r v.source in
      let target = kept? cs r v.target in
      record {
        source = kept_true cs good.tree r v.source (and_left source target e);
        target = kept_true cs good.tree r v.target (and_right source target e);
      }

  true_stays : (k : ℕ) → KeptVote m r k → stays k ≡ true
  unfolding kept_vote?
  true_stays k v =
      let cs = m.checkpoints in
      both (true_kept cs good.tree r _ v.source) (true_kept cs good.tree r _ v.target)

  -- ---- row 71, the charges

  abbrev KeptCharge : Charge → Type 0
  KeptCharge c = KeptVote m r c.earlier × KeptVote m r c.later

  charge_true : (c : Charge) → uses_dropped m r c ≡ false → KeptCharge c
  unfolding uses_dropped
  charge_true c e =
      let one = stays c.earlier in
      let other = stays c.later in (
        stays_true c.earlier (not-false one (or_false_left (not one) (not other) e)),
        stays_true c.later (not-false other (or_false_right (not one) (not other) e)),
      )

  true_charge : (c : Charge) → KeptCharge c → uses_dropped m r c ≡ false
  unfolding uses_dropped
  true_charge c k = ap₂ (λ (a b : Bool). not a || not b) (true_stays c.earlier k.0) (true_stays c.later k.1)

  charges_true : (cs : List Charge) → any (uses_dropped m r) cs ≡ false → All KeptCharge cs
  unfolding any
  charges_true [] e = none
  charges_true (c ∷ cs) e =
      let here = uses_dropped m r c in
      let later = any (uses_dropped m r) cs in
      each (charge_true c (or_false_left here later e)) (charges_true cs (or_false_right here later e))

  true_charges : (cs : List Charge) → All KeptCharge cs → any (uses_dropped m r) cs ≡ false
  unfolding any
  true_charges [] none = refl
  true_charges (c ∷ cs) (each k ks) = ap₂ ◌||◌ (true_charge c k) (true_charges cs ks)

  -- ---- row 72

  abbrev Lower : Type 0
  Lower =
      (k : ℕ) → k < length m.votes
      → (KeptVote m r k → ⊥)
      → height_of m.checkpoints (vote_at m.votes k).target ≤ height_of m.checkpoints r

  low_true : drops_higher m r ≡ false → Lower
  unfolding drops_higher dropped_higher vote_at
  low_true e k h out =
      let no = none_any (dropped_higher m r) no_vote m.votes e k h in
      ltb-false _ _ (not_so (λ t. clash (both (ap not (not_so (λ q. out (stays_true k q)))) t) no))

  true_low : Lower → drops_higher m r ≡ false
  unfolding drops_higher dropped_higher vote_at
  true_low low =
      not_so (λ e.
      let f = any_found (dropped_higher m r) no_vote m.votes e in
      let cs = m.checkpoints in
      let v = get_or m.votes f.at no_vote in
      let gone = not (stays f.at) in
      let higher = ltb (height_of cs r) (height_of cs v.target) in
      let out : KeptVote m r f.at → ⊥ =
      λ k. clash (true_stays f.at k) (not-true (stays f.at) (and_left gone higher f.passes)) in
      clash (and_right gone higher f.passes) (le-ltb _ _ (low f.at f.inside out)))

  -- ---- all of them

  pub passes-allowed : MovePasses m r → Allowed m r
  unfolding bars_root risks_evidence
  passes-allowed p =
      let high = ltb root_height_limit (height_of m.checkpoints r) in
      let dropped = any (uses_dropped m r) (charges m) in
      record {
        held = ltb-true r (length m.checkpoints) (not-false (place_held m r) p.held);
        final = final_true m good r (not-false (final? m r) (or_false_left (not (final? m r)) high p.final));
        height = passes-low m r p;
        agree = λ c. clash ((conflict-exact m good).1 c) (or_false_left (conflicting? m) dropped p.shown);
        shown = charges_true (charges m) (or_false_right (conflicting? m) dropped p.shown);
        low = low_true p.low;
      }

  made : decide_move m r ≡ answer (move_root r) → MovePasses m r
  unfolding decide_move
  made e =
      let first = row-passes 41 _ _ _ e in
      let second = row-passes 70 _ _ _ first.rest in
      let third = row-passes 71 _ _ _ second.rest in
      let fourth = row-passes 72 _ _ _ third.rest in
      record { held = first.clear; final = second.clear; shown = third.clear; low = fourth.clear }

  allowed-made : Allowed m r → decide_move m r ≡ answer (move_root r)
  unfolding decide_move bars_root risks_evidence
  allowed-made a =
      passes-row 41 _ _ (ap not (lt-ltb _ _ a.held))
      (passes-row 70 _ _ (ap₂ (λ (f h : Bool). not f || h) (true_final m good r a.final) (le-ltb _ _ a.height))
      (passes-row 71 _ _
      (ap₂ ◌||◌ (not_so (λ e. a.agree ((conflict-exact m good).0 e))) (true_charges (charges m) a.shown))
      (passes-row 72 _ _ (true_low a.low) refl)))

  pub move_exact : MoveExact m r
  move_exact =
      record {
        allowed = (λ e. passes-allowed (made e), allowed-made);
        leaves = moved-part m good r;
        first = root-first m good r;
      }
