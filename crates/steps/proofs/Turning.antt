-- What one turn's tests and calls come to.
use Prim.Native.Nat.{ℕ, ◌-◌, ◌≤◌}
use native.Mathlib.Omega.{arith}
use mathlib.Core.Path.{◌≡◌, refl, sym, ap, ◌∙◌, subst}
use mathlib.Core.List.{List}
use mathlib.Core.Logic.{◌⊎◌, inl, inr, ⊎_elim}
use mathlib.Core.Bool.{Bool, true, false, cond, ◌&&◌, ◌||◌, true≢false}
use lib.Dec.{ltb}
use lib.ListN.{length, take, drop}
use Rattle.state.specs.declared.Witness.{Witness}
use Rattle.feeding.specs.Feed.{paused_of, feed_call, open_call, IsFed}
use Rattle.feeding.specs.declared.Fed.{Fed}
use Rattle.pieces.proofs.Inside.{feed_passes, open_passes}
use Rattle.buffered.specs.Hold.{ready?}
use Rattle.turns.specs.Turns.{fate_of, Refilled, told_as, Told}
use Rattle.turns.specs.declared.Fate.{Fate}
use Rattle.turns.specs.declared.Fate.TheVariants.{Failed}
use Rattle.turns.specs.declared.Turn.{Turn}
use Rattle.steps.specs.Turns.{call_of, at_hand, call_at, fate_at, Advanced, Stepped}

-- ---- the call

module _ (begun at_end : Bool) (room : ℕ) (w : Witness) (k : ℕ) (s : List ℕ) where
  -- where the header was read, or was not
  pub by-begun : (b : Bool) → begun ≡ b → {before after : List ℕ} {r : Fed} → IsFed (cond b (feed_call room w k s) (open_call at_end room w s)) 0 0 before r after
      → IsFed (call_of begun at_end room w k s) 0 0 before r after
  unfolding call_of
  by-begun b e {before} {after} {r} is = subst (λ (c : Bool). IsFed (cond c (feed_call room w k s) (open_call at_end room w s)) 0 0 before r after) (sym e) is

  -- no call passes over more than it is lent
  pub call_passes : (call_of begun at_end room w k s).passed ≤ length s
  unfolding call_of
  call_passes = go begun
    where
      go : (b : Bool) → (cond b (feed_call room w k s) (open_call at_end room w s)).passed ≤ length s
      go true = feed_passes room w k s
      go false = open_passes at_end room w s

-- ---- one turn

module _ (t : Turn) (input output : List ℕ) where
  -- a call, and its rest moved to the front
  pub advanced : (fed : Fed) (told : List ℕ) → IsFed (call_at t input (length output)) 0 0 output fed told
      → (fate : Fate) → fate ≡ fate_of (t.begun && t.at_end) (paused_of fed.pause)
      → (left : ℕ) (after : List ℕ) → left ≡ t.have - fed.next → left ≤ length after → take left after ≡ drop fed.next (at_hand t input)
      → Advanced t input output (record { fate = fate; begun = t.begun || ltb 0 fed.next; at_end = t.at_end; have = left; records = fed.records; witness = fed.witness; written = fed.written }) after told
  advanced fed told is fate so left after many inside front =
      let f = call_at t input (length output) in
      let passed : fed.next ≡ f.passed = omega (arith, is.next) in
      record {
        called = record {
          begun = ap (λ (n : ℕ). t.begun || ltb 0 n) passed;
          at-end = refl;
          have = many ∙ ap (λ (n : ℕ). t.have - n) passed;
          left = front ∙ ap (λ (n : ℕ). drop n (at_hand t input)) passed;
          records = is.records;
          witness = is.witness;
        };
        inside = inside;
        fate = so ∙ ap (fate_of (t.begun && t.at_end)) is.pause;
        text = is.text;
      }

  -- what it wrote is written out, or cannot be
  pub call-told : {m r : Turn} {after told : List ℕ} → ready? t.begun t.at_end (at_hand t input) ≡ true → Advanced t input output m after told → Told m r
      → Stepped t input (length output) r after
  call-told {m} {r} {after} is done out =
      ⊎_elim (λ e. subst (λ (x : Turn). Stepped t input (length output) x after) (sym e) (as_told m.fate (inl done.fate)))
      (λ e. subst (λ (x : Turn). Stepped t input (length output) x after) (sym e) (as_told Failed (inr refl))) out
    where
      as_told : (fate : Fate) → (fate ≡ fate_at t input (length output)) ⊎ (fate ≡ Failed) → Stepped t input (length output) (told_as m fate) after
      as_told fate so =
          let f = done.called in
          record {
            inside = done.inside;
            called = λ e. (record { begun = f.begun; at-end = f.at-end; have = f.have; left = f.left; records = f.records; witness = f.witness }, so);
            read = λ e. absurd (true≢false (sym is ∙ e));
          }

  pub only-read : {r : Turn} {after : List ℕ} → ready? t.begun t.at_end (at_hand t input) ≡ false → Refilled t input r after → Stepped t input (length output) r after
  only-read is done = record { inside = done.filled.inside; called = λ e. absurd (true≢false (sym e ∙ is)); read = λ e. done }
