-- A member all of whose votes are among votes that are safe is never charged; the votes that a guard signs are safe.
use Prim.Native.Nat.{ℕ}
use native.Mathlib.Omega.{arith}
use mathlib.Core.Path.{◌≡◌, sym, ◌∙◌, subst}
use mathlib.Core.List.{List}
use Rattle.model.specs.Evidence.{Charge, TrueCharge, KeepsRules}
use Rattle.model.specs.Lists.{All}
use Rattle.model.specs.Model.{Model, vote_at}
use Rattle.model.specs.Slashing.{Breaks}
use Rattle.model.proofs.Checker.{checker_exact, layout_unique}
use Rattle.model.proofs.Conduct.{conduct-exact}
use Rattle.model.proofs.Lists.{all_map}
use Rattle.model.proofs.Slashing.{same-keeps}
use Rattle.guard.specs.Calls.{Request, signed_in}
use Rattle.guard.specs.Safe.{Safe}
use Rattle.guard.specs.Members.{OwnVote, SignedVotes, NeverCharged, GuardedMember}
use Rattle.guard.proofs.Safe.{guard_safe}

module _ (m : Model) (id : ℕ) (votes : List Request) (safe : Safe votes) (are : SignedVotes m id votes) where
  safe_keeps : KeepsRules m id
  safe_keeps i j h k own b =
      let one : OwnVote m id i = record { held = h; own = own } in
      let other : OwnVote m id j = record { held = k; own = sym b.one-voter ∙ own } in
      let differ : i ≡ j → ⊥ = λ e. same-keeps m (vote_at m.votes i) (subst (λ (n : ℕ). Breaks m (vote_at m.votes
      i) (vote_at m.votes n)) (sym e) b) in
      safe.none_break (are.by i) (are.by j) (are.inside i one) (are.inside j other) (λ e. differ (are.apart i j
      one other e))
      m _ _ (are.heights i one) (are.heights j other) b

  not_charged : (c : Charge) → TrueCharge m c → c.id ≡ id → ⊥
  not_charged c t e = safe_keeps c.earlier c.later (omega (arith, t.order, t.held)) t.held (t.voter ∙ e)
      t.breaks

  never-charged : NeverCharged m id
  never-charged =
      record {
        keeps = safe_keeps;
        is-clear = (conduct-exact m id).clears.1 safe_keeps;
        unnamed = λ l s bytes passes cs layout.
            let p = (checker_exact m l bytes).passes passes in
            subst (All (λ c. c.id ≡ id → ⊥)) (layout_unique l p.listed cs p.layout layout)
            (all_map not_charged p.holds);
      }

pub guarded-member : GuardedMember
guarded-member g left rs answers calls m id are =
    never-charged m id (signed_in rs answers) (guard_safe g left rs answers calls) are
