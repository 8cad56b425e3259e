-- `rules::decide_record` meets its contract: row 4 by the kind, row 5 by its size, then the rows of the kind. Assumes
-- nothing.
use Prim.Native.Nat.{ℕ, ◌-◌, ◌<◌, ◌≤◌}
use mathlib.Core.Path.{◌≡◌, refl, sym, ap, ◌∙◌, subst}
use mathlib.Core.List.{List}
use native.Mathlib.Omega.{arith}
use lib.ListN.{length, drop, get_or}
use Rattle.std.specs.Prelude.{Result}
use Rattle.model.specs.Answer.{Answer}
use Rattle.model.specs.Change.{Change, single}
use Rattle.model.specs.Decide.{decide_record, decide}
use Rattle.model.specs.Log.{Kind, kind_of, size_of, decode_as, record_size}
use Rattle.model.specs.Model.{Model}
use Rattle.model.specs.declared.Refusal.{Refusal}
use Rattle.model.proofs.Log.{none-at, cut_at, whole-at}
use Rattle.wire.specs.Kinds.{byte_of}
use Rattle.wire.specs.declared.records.Kind.{Kind as CodeKind}
use Rattle.state.specs.Tables.{NamesHeld, HeightsHeld, Low}
use Rattle.ballots.specs.Fit.{FitNames}
use Rattle.registry.specs.Decision.{decision_of}
use Rattle.registry.specs.declared.Decision.{Decision}
use Rattle.rules.specs.Decision.{BitsFit}
use Rattle.rules.proofs.Bundled.{single-fits}
use Rattle.rules.proofs.decide_record.Goals as goal
use Rattle.rules.proofs.decide_record.Goals.{After-try_from, Else-log-at-2}

-- the first byte of the record, and the record
abbrev byte : After-try_from → ℕ
byte c = let a = c.args in get_or a.log.now a.at 0

abbrev s : After-try_from → List ℕ
s c = let a = c.args in drop a.at a.log.now

-- where it is whole, its kind decides
by_kind : (c : After-try_from) (m : Model) {k : Kind} → let a = c.args in
    record_size (byte (goal.at.After-try_from c).After-try_from) ≤ length a.log.now - a.at
    → kind_of (byte (goal.at.After-try_from c).After-try_from) ≡ k
    → decide_record m (decode_as k (s (goal.at.After-try_from c).After-try_from)) ≡ decide m (s (goal.at.After-try_from c).After-try_from)
unfolding decide
by_kind c m {k} fits e =
    let a = c.args in
    sym (ap (decide_record m) ((whole-at a.at a.log.now c.if-log-at.false fits).decoded ∙ ap (λ (j : Kind). decode_as j (drop a.at a.log.now)) e))

-- it is whole
fits : (c : Else-log-at-2) → let a = c.args in record_size (get_or a.log.now a.at 0) ≤ length a.log.now - a.at
fits c = omega (arith, c.size.ensures, ap record_size c.in-Ok.ensures, c.if-log-at-2.false)

long : (c : Else-log-at-2) {k : CodeKind} → c.in-Ok.kind ≡ k → let a = c.args in record_size (byte_of k) ≤ length a.log.now - a.at
long c e = omega (arith, fits c, ap record_size c.in-Ok.ensures, ap (λ (k : CodeKind). record_size (byte_of k)) e)

of-kind : (c : Else-log-at-2) {k : CodeKind} → c.in-Ok.kind ≡ k → let a = c.args in kind_of (get_or a.log.now a.at 0) ≡ kind_of (byte_of k)
of-kind c e = sym (ap kind_of c.in-Ok.ensures) ∙ ap (λ (k : CodeKind). kind_of (byte_of k)) e

-- what one record's rows decide is no bundle
alone : (c : Else-log-at-2) (m : Model) {k : CodeKind} (d : Result Decision Refusal) (a : Answer Change) → c.in-Ok.kind ≡ k
    → (let t = drop c.args.at c.args.log.now in (decision_of m t d ≡ single a) × (single a ≡ decide_record m (decode_as (kind_of (byte_of k)) t)))
    → let t = drop c.args.at c.args.log.now in
    (decision_of m t d ≡ decide m t) × BitsFit (length c.args.view.now.ids.now) t d
alone c m d a e is = (is.0 ∙ is.1 ∙ by_kind (goal.at.Else-log-at-2 c).After-try_from m (fits c) (of-kind c e), single-fits m _ _ a d is.0)

pub returns-then-log-at : goal.returns-then-log-at
unfolding decide decide_record
returns-then-log-at c =
    let a = c.args in
    λ m rule held. (sym (ap (decide_record m) (none-at a.at a.log.now c.if-log-at.true).decoded), tt)

pub returns-in_default : goal.returns-in_default
unfolding decide_record decode_as record_size size_of
returns-in_default c =
    let other = c.in_default.ensures.1 in
    λ m rule held. (by_kind (goal.at.returns-in_default c).After-try_from m (omega (arith, ap size_of other)) other, tt)

pub returns-then-log-at-2 : goal.returns-then-log-at-2
unfolding decide decide_record
returns-then-log-at-2 c =
    let a = c.args in
    let short : length a.log.now - a.at < record_size (get_or a.log.now a.at 0) =
    omega (arith, c.size.ensures, ap record_size c.in-Ok.ensures, c.if-log-at-2.true) in
    λ m rule held. (sym (ap (decide_record m) (cut_at a.at a.log.now c.if-log-at.false short).decoded), tt)

pub decide_member-requires : goal.decide_member-requires
unfolding record_size size_of kind_of
decide_member-requires c =
    omega (arith, long (goal.at.decide_member-requires c).Else-log-at-2 c.in-Member.is, c.if-log-at.false)

pub decide_checkpoint-requires : goal.decide_checkpoint-requires
unfolding record_size size_of kind_of
decide_checkpoint-requires c =
    let a = c.args.view.now in
    let same = sym c.requires.tree.linked.heights-long in
    let whole = long (goal.at.decide_checkpoint-requires c).Else-log-at-2 c.in-Checkpoint.is in (
      subst (FitNames a.names.now) same c.requires.tree.linked.named,
      subst (λ (n : ℕ). Low n a.heights.now) same c.requires.tree.low,
      omega (arith, whole, c.if-log-at.false),
    )

pub decide_vote-requires : goal.decide_vote-requires
unfolding record_size size_of kind_of
decide_vote-requires c =
    (c.requires, omega (arith, long (goal.at.decide_vote-requires c).Else-log-at-2 c.in-Vote.is, c.if-log-at.false))

pub decide_quorum-requires : goal.decide_quorum-requires
unfolding record_size size_of kind_of
decide_quorum-requires c =
    omega (arith, long (goal.at.decide_quorum-requires c).Else-log-at-2 c.in-Quorum.is, c.if-log-at.false)

pub decide_bundle-requires : goal.decide_bundle-requires
unfolding record_size size_of kind_of
decide_bundle-requires c =
    let whole = long (goal.at.decide_bundle-requires c).Else-log-at-2 c.in-Bundle.is in
    (c.requires.tree.linked, omega (arith, whole, c.if-log-at.false))

pub returns-in-Member : goal.returns-in-Member
unfolding decide_record decode_as kind_of
returns-in-Member c =
    λ m rule held.
    alone (goal.at.returns-in-Member c).Else-log-at-2 m c.decide_member.result _ c.in-Member.is
    (c.decide_member.ensures m (c.members_fixed-fixed.ensures m c.args.links.now held) held.members-held, refl)

pub returns-in-Checkpoint : goal.returns-in-Checkpoint
unfolding decide_record decode_as kind_of
returns-in-Checkpoint c =
    let a = c.args.view.now in
    let same = sym c.requires.tree.linked.heights-long in
    λ m rule held.
    alone (goal.at.returns-in-Checkpoint c).Else-log-at-2 m c.decide_checkpoint.result _ c.in-Checkpoint.is (
      c.decide_checkpoint.ensures m (subst (NamesHeld m a.names.now) same held.names-held)
          (subst (HeightsHeld m a.heights.now) same held.heights-held),
      refl,
    )

pub returns-in-Vote : goal.returns-in-Vote
unfolding decide_record decode_as kind_of
returns-in-Vote c =
    λ m rule held.
    alone (goal.at.returns-in-Vote c).Else-log-at-2 m c.decide_vote.result _ c.in-Vote.is
    (c.decide_vote.ensures m held, refl)

pub returns-in-Quorum : goal.returns-in-Quorum
unfolding decide_record decode_as kind_of
returns-in-Quorum c =
    λ m rule held.
    alone (goal.at.returns-in-Quorum c).Else-log-at-2 m c.decide_quorum.result _ c.in-Quorum.is
    (c.decide_quorum.ensures m (c.members_fixed-fixed.ensures m c.args.links.now held) rule, refl)

pub returns-in-Bundle : goal.returns-in-Bundle
unfolding decide_record decode_as kind_of
returns-in-Bundle c =
    λ m rule held. (
      c.decide_bundle.ensures.result_value m held.members-held.count held.names-held held.heights-held
          held.ancestors_held
          ∙ by_kind (goal.at.returns-in-Bundle c).After-try_from m (fits (goal.at.returns-in-Bundle c).Else-log-at-2)
          (of-kind (goal.at.returns-in-Bundle c).Else-log-at-2 c.in-Bundle.is),
      c.decide_bundle.ensures.bits_fit,
    )
