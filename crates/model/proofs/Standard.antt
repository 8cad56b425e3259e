-- "Without the record it is 2 and 3": a run that reads no quorum's record keeps the rule.
use Prim.Native.Nat.{ℕ}
use mathlib.Core.Path.{◌≡◌, refl, ◌∙◌, ap}
use mathlib.Core.List.{List, [], ◌∷◌, flat_map}
use mathlib.Core.Bool.{Bool, true, false, cond}
use borrow.Author.Tests.{ne_eqb}
use lib.Dec.{eqb, ltb}
use lib.ListN.{length, get_or}
use Rattle.model.specs.Answer.{Answer, refused}
use Rattle.model.specs.Change.{Change, append, append_all, Decision, single, decided, together, whole}
use Rattle.model.specs.Decide.{decide_vote, decide_each, decide_record, decide, decide_move}
use Rattle.model.specs.Lists.{All, none, each}
use Rattle.model.specs.Log.{Record, no_record, unknown_kind, cut_record, member_record, checkpoint_record, vote_record}
use Rattle.model.specs.Log.{bundle_record, quorum_record, Kind, member_kind, checkpoint_kind, vote_kind, quorum_kind}
use Rattle.model.specs.Log.{bundle_kind, other_kind, kind_of, record_size, decode_as, decode}
use Rattle.model.specs.Model.{Model, start}
use Rattle.model.specs.Move.{moved}
use Rattle.model.specs.Rule.{standard}
use Rattle.model.specs.Run.{Event, reading, moving, NoQuorum, decide_event, after}
use Rattle.model.proofs.Fits.{append-both}
use Rattle.model.proofs.Lists.{all_of}
use Rattle.model.proofs.Rows.{member_rows, checkpoint_rows, vote_rows, bundle_rows, move_rows, member_elim}
use Rattle.model.proofs.Rows.{checkpoint_elim, vote_elim, bundle_elim, move_elim}

-- ---- what is read

abbrev OfAnotherKind : Kind → Type 0
OfAnotherKind member_kind = Unit {0}
OfAnotherKind checkpoint_kind = Unit {0}
OfAnotherKind vote_kind = Unit {0}
OfAnotherKind quorum_kind = ⊥
OfAnotherKind bundle_kind = Unit {0}
OfAnotherKind other_kind = Unit {0}

another-kind : (b : ℕ) → (b ≡ 4 → ⊥) → OfAnotherKind (kind_of b)
unfolding kind_of
another-kind b differs = rw (ne_eqb b 4 differs) (go (eqb b 1) (eqb b 2) (eqb b 3) (eqb b 5))
  where
    go : (one two three five : Bool)
        → OfAnotherKind
        (cond one member_kind (cond two checkpoint_kind (cond three vote_kind (cond five bundle_kind other_kind))))
    go true two three five = tt
    go false true three five = tt
    go false false true five = tt
    go false false false true = tt
    go false false false false = tt

abbrev Another : Record → Type 0
Another no_record = Unit {0}
Another unknown_kind = Unit {0}
Another cut_record = Unit {0}
Another (member_record id bond) = Unit {0}
Another (checkpoint_record name parent) = Unit {0}
Another (vote_record id source target h k) = Unit {0}
Another (bundle_record bits source target h k) = Unit {0}
Another (quorum_record p q) = ⊥

decodes_another : (s : List ℕ) → (get_or s 0 0 ≡ 4 → ⊥) → Another (decode s)
unfolding decode decode_as
decodes_another [] differs = tt
decodes_another (b ∷ s) differs = go (kind_of b) (another-kind b differs) (ltb (length (b ∷ s)) (record_size b))
  where
    go : (k : Kind) → OfAnotherKind k → (c : Bool) → Another (cond c cut_record (decode_as k (b ∷ s)))
    go k other true = tt
    go member_kind other false = tt
    go checkpoint_kind other false = tt
    go vote_kind other false = tt
    go bundle_kind other false = tt
    go other_kind other false = tt
    go quorum_kind other false = elim other [ ]

-- ---- what it does to the rule

module _ (m : Model) where
  abbrev RuleKept : Answer Change → Type 0
  RuleKept a = (decided m (single a)).rule ≡ m.rule

  unmoved : (n : ℕ) → RuleKept (refused n)
  unfolding single append_all
  unmoved n = refl

  vote-keeps : (id : ℕ) (source target : List ℕ) (h k : ℕ) → RuleKept (decide_vote m id source target h k)
  unfolding single append append_all
  vote-keeps id source target h k = vote_elim m RuleKept id source target h k (all_of unmoved vote_rows) (λ _ _. refl)

each_keeps : (m : Model) (ids source target : List ℕ) (h k : ℕ)
    → (decided m (together (decide_each m ids source target h k))).rule ≡ m.rule
unfolding decide_each together append_all flat_map
each_keeps m [] source target h k = refl
each_keeps m (id ∷ ids) source target h k =
    let d = single (decide_vote m id source target h k) in
    let later = together (decide_each (decided m d) ids source target h k) in
    ap (λ (x : Model). x.rule) (append-both m d.changes later.changes)
    ∙ each_keeps (decided m d) ids source target h k
    ∙ vote-keeps m id source target h k

module _ (m : Model) where
  abbrev WholeKept : Answer (List Decision) → Type 0
  WholeKept a = (decided m (whole a)).rule ≡ m.rule

  whole-unmoved : (n : ℕ) → WholeKept (refused n)
  unfolding whole
  whole-unmoved n = unmoved m n

  record_keeps_rule : (r : Record) → Another r → (decided m (decide_record m r)).rule ≡ m.rule
  unfolding decide_record single append append_all whole
  record_keeps_rule no_record other = refl
  record_keeps_rule unknown_kind other = refl
  record_keeps_rule cut_record other = refl
  record_keeps_rule (quorum_record p q) other = elim other [ ]
  record_keeps_rule (member_record id bond) other =
      member_elim m (RuleKept m) _ (all_of (unmoved m) member_rows) (λ _. refl)
  record_keeps_rule (checkpoint_record name parent) other =
      checkpoint_elim m (RuleKept m) _ _ (all_of (unmoved m) checkpoint_rows) (λ _. refl)
  record_keeps_rule (vote_record id source target h k) other = vote-keeps m id source target h k
  record_keeps_rule (bundle_record bits source target h k) other =
      bundle_elim m WholeKept bits source target h k (all_of whole-unmoved bundle_rows)
      (λ _. each_keeps m _ source target h k)

  move_keeps_rule : (r : ℕ) → (decided m (single (decide_move m r))).rule ≡ m.rule
  unfolding single append append_all moved
  move_keeps_rule r = move_elim m (RuleKept m) r (all_of (unmoved m) move_rows) (λ _. refl)

-- ---- the run

rule-kept : (m : Model) (es : List Event) → All NoQuorum es → (after m es).rule ≡ m.rule
unfolding after decide_event decide
rule-kept m [] none = refl
rule-kept m (reading s ∷ es) (each differs later) =
    rule-kept (decided m (decide m s)) es later ∙ record_keeps_rule m (decode s) (decodes_another s differs)
rule-kept m (moving r ∷ es) (each differs later) =
    rule-kept (decided m (single (decide_move m r))) es later ∙ move_keeps_rule m r

pub standard-kept : (name : List ℕ) (es : List Event) → All NoQuorum es → (after (start name) es).rule ≡ standard
unfolding start
standard-kept name es differs = rule-kept (start name) es differs
