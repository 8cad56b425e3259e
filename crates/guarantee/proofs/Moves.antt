-- A run with moves of the root beside the witness that dropped nothing: proof of specs/Moves.antt.
use Prim.Native.Nat.{ℕ, ◌<◌}
use native.Mathlib.Omega.{arith}
use mathlib.Core.Path.{◌≡◌, refl, sym, ap, ◌∙◌, subst₂}
use mathlib.Core.List.{List, [], ◌∷◌, map}
use mathlib.Core.Bool.{not}
use borrow.Author.Tests.{lt-ltb}
use lib.Dec.{ltb}
use lib.ListN.{length, length-map}
use Rattle.model.specs.Answer.{answer, row}
use Rattle.model.specs.Buffer.{write_text}
use Rattle.model.specs.Checker.{check}
use Rattle.model.specs.Evidence.{charges, our_list}
use Rattle.model.specs.Finality.{status, status_at}
use Rattle.model.specs.Lists.{All, none, each}
use Rattle.model.specs.Model.{Model, start}
use Rattle.model.specs.Run.{Event, reading, moving, OfBytes, after}
use Rattle.model.specs.Support.{support, support_at}
use Rattle.model.proofs.Answer.{passes-row}
use Rattle.model.proofs.Lists.{both}
use Rattle.state.specs.State.{model_of}
use Rattle.state.proofs.Entries.{count-checkpoints}
use Rattle.evidence.proofs.Bytes.{length-list}
use Rattle.comparison.specs.Compare.{readings_only, of_readings, renumber, SameAnswers}
use Rattle.comparison.proofs.Compare.{comparison}
use Rattle.guarantee.specs.Moves.{with_moves, unmoved, MovesKeepAnswers}
use Rattle.guarantee.proofs.Demand.{demand_3}

readings_of_bytes : (es : List Event) → All OfBytes es → All OfBytes (readings_only es)
unfolding readings_only
readings_of_bytes [] none = none
readings_of_bytes (reading s ∷ es) (each h hs) = each h (readings_of_bytes es hs)
readings_of_bytes (moving r ∷ es) (each h hs) = readings_of_bytes es hs

-- the answers on held places

status-held : (m : Model) (p : ℕ) → p < length m.checkpoints → status_at m p ≡ answer (status m p)
unfolding status_at
status-held m p h = passes-row 41 _ _ (ap not (lt-ltb _ _ h)) (λ i. answer (status m p))

support-held : (m : Model) (s t : ℕ) → s < length m.checkpoints → t < length m.checkpoints
    → support_at m s t ≡ answer (support m s t)
unfolding support_at
support-held m s t hs ht =
    passes-row 41 _ _ (ap not (both (lt-ltb _ _ hs) (lt-ltb _ _ ht))) (λ i. answer (support m s t))

-- two texts of one length are told alike
same_length : (x y buffer : List ℕ) → length x ≡ length y → write_text x buffer ≡ write_text y buffer
unfolding write_text
same_length x y buffer e = ap (λ (n : ℕ). row 60 (ltb (length buffer) n) (answer n)) e

-- and lists of as many charges have one length
lists_long : (b w : Model) (number : ℕ → ℕ) → charges w ≡ map (renumber number) (charges b)
    → length (our_list b) ≡ length (our_list w)
unfolding our_list
lists_long b w number e =
    let as_many : length (charges w) ≡ length (charges b) = ap length e ∙ length-map (charges b) (renumber number) in
    length-list (charges b) (length (charges b)) refl ∙ sym (length-list (charges w) (length (charges b)) as_many)

pub moves_keep_answers : MovesKeepAnswers
moves_keep_answers name long es bytes names limits =
    let alone = readings_of_bytes es bytes in
    let kept = demand_3 name long es bytes in
    let whole = demand_3 name long (readings_only es) alone in
    let b = after (start name) es in
    let w = after (start name) (readings_only es) in
    let both_runs = comparison name es bytes names limits in
    let c = both_runs.answers in
    let same : SameAnswers b w c.place c.number = c.same in
    let same_count = sym (ap (λ (m : Model). length m.checkpoints) kept.answers.held) in
    let count = same_count ∙ count-checkpoints (with_moves name es) in
    record {
      place = c.place;
      number = c.number;
      same =
          subst₂ (λ (x y : Model). SameAnswers x y c.place c.number) (sym kept.answers.held)
          (sym whole.answers.held) same;
      status = λ p h.
          let inside : p < length b.checkpoints = omega (arith, count) in
          kept.answers.status-answer p
          ∙ status-held b p inside
          ∙ ap answer (same.standing p inside)
          ∙ sym (status-held w (c.place p) (same.part.inside p inside))
          ∙ sym (whole.answers.status-answer (c.place p));
      support = λ s t hs ht.
          let from : s < length b.checkpoints = omega (arith, count) in
          let to : t < length b.checkpoints = omega (arith, count) in
          kept.answers.support-answer s t
          ∙ support-held b s t from to
          ∙ ap answer (same.backing s t from to)
          ∙ sym (support-held w (c.place s) (c.place t) (same.part.inside s from) (same.part.inside t to))
          ∙ sym (whole.answers.support-answer (c.place s) (c.place t));
      conflict = kept.answers.conflict-answer ∙ ap answer same.conflict ∙ sym whole.answers.conflict-answer;
      list = λ buffer.
          kept.answers.list-answer buffer
          ∙ same_length (our_list b) (our_list w) buffer (lists_long b w c.number same.charged)
          ∙ sym (whole.answers.list-answer buffer);
      sum =
          kept.answers.checker_answer (our_list (model_of (with_moves name es)))
          ∙ ap (λ (m : Model). check b (our_list m)) kept.answers.held
          ∙ kept.answers.named-exact
          ∙ ap answer same.named
          ∙ sym whole.answers.named-exact
          ∙ sym (ap (λ (m : Model). check w (our_list m)) whole.answers.held)
          ∙ sym (whole.answers.checker_answer (our_list (model_of (unmoved name es))));
      told = ap (of_readings es) kept.outcomes-agree ∙ both_runs.told_alike ∙ sym whole.outcomes-agree;
    }
