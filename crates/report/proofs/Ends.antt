-- What the public calls give back: row 40, the header, and the end of the log.
use Prim.Native.Nat.{ℕ, ◌<◌, ◌≤◌}
use mathlib.Core.Path.{◌≡◌, refl, sym, ap, ap₂, ◌∙◌, subst}
use mathlib.Core.List.{List, []}
use mathlib.Core.Logic.{◌⊎◌, ⊎_elim}
use mathlib.Core.Bool.{Bool, true, false, cond, not, ◌&&◌}
use borrow.Author.Tests.{eq-eqb, ne_eqb, lt-ltb, le-ltb}
use lib.Dec.{ltb}
use lib.ListN.{length}
use Rattle.std.specs.Prelude.{Ok, Err}
use Rattle.model.specs.Answer.{Answer, refused, answer}
use Rattle.model.specs.Bytes.{part}
use Rattle.model.specs.Log.{header}
use Rattle.model.specs.Model.{Model}
use Rattle.model.specs.Refusals.{refusal_number}
use Rattle.model.specs.Report.{summary, stopped_line}
use Rattle.model.specs.declared.Refusal.{Refusal}
use Rattle.state.specs.Reading.{start_of, begin_with, IsBeginning}
use Rattle.state.specs.State.{model_of}
use Rattle.state.specs.declared.Beginning.{Beginning}
use Rattle.state.specs.declared.Witness.{Witness}
use Rattle.state.specs.Sound.{sound?}
use Rattle.feeding.specs.Feed.{Feeding, full, ended, wants, refused_by, paused_at, line_room, on_sound, headed, open_call, end_text, end_fed, IsFed}
use Rattle.feeding.specs.declared.Fed.{Fed}
use Rattle.feeding.proofs.Told.{fed-as}

-- ---- row 40

-- a call that is refused by it, or is not
pub on-sound : (w : Witness) (k : ℕ) (f : Feeding) (b : Bool) → sound? w ≡ b → {at : ℕ} {buf after : List ℕ} {r : Fed} → IsFed (cond b f (paused_at [] (refused_by 40) w k)) at 0 buf r after
    → IsFed (on_sound w k f) at 0 buf r after
unfolding on_sound
on-sound w k f b e {at} {buf} {after} {r} is = subst (λ (c : Bool). IsFed (cond c f (paused_at [] (refused_by 40) w k)) at 0 buf r after) (sym e) is

-- ---- the header

-- by what `open` tests first
module _ (w : Witness) (log : List ℕ) (last : Bool) (room : ℕ) where
  open_branch : (short no_room : Bool) → (ltb (length log) 37 && not last) ≡ short → ltb room line_room ≡ no_room
      → cond short (paused_at [] wants w 0) (cond no_room (paused_at [] full w 0) (headed w (header log))) ≡ open_call last room w log
  unfolding open_call
  open_branch short no_room s r =
      ap₂ (λ (a b : Bool). cond a (paused_at [] wants w 0) (cond b (paused_at [] full w 0) (headed w (header log)))) (sym s) (sym r)

  pub open_short : length log < 37 → last ≡ false → paused_at [] wants w 0 ≡ open_call last room w log
  open_short h more = open_branch true (ltb room line_room) (ap₂ (λ (a b : Bool). a && not b) (lt-ltb (length log) 37 h) more) refl

  module _ (judged : ((length log < 37) × (last ≡ true)) ⊎ (37 ≤ length log)) where
    long : (ltb (length log) 37 && not last) ≡ false
    long = ⊎_elim (λ h. ap₂ (λ (a b : Bool). a && not b) (lt-ltb (length log) 37 h.0) h.1) (λ h. ap (λ (b : Bool). b && not last) (le-ltb (length log) 37 h)) judged

    pub open_full : room < 64 → paused_at [] full w 0 ≡ open_call last room w log
    open_full short = open_branch false true long (lt-ltb room line_room short)

    module _ (fits : 64 ≤ room) {r : Beginning} (is : IsBeginning w (part 5 32 log) (header log) r) where
      has_room : (h : Answer (List ℕ)) → h ≡ header log → headed w h ≡ open_call last room w log
      has_room h e = ap (headed w) e ∙ open_branch false false long (le-ltb room line_room fits)

      pub open_begun : (buf : List ℕ) (f : Fed) → r.outcome ≡ Ok (record {}) → IsFed (paused_at [] wants r.witness 0) 37 0 buf f buf → IsFed (open_call last room w log) 0 0 buf f buf
      unfolding headed begin_with
      open_begun buf f e fed =
          let name = part 5 32 log in
          let right : answer name ≡ header log = sym (ap (start_of name) e) ∙ is.outcome in
          fed-as (has_room (answer name) right)
          (record { pause = fed.pause; next = fed.next; records = fed.records; witness = fed.witness ∙ is.witness ∙ ap (begin_with w) (sym right); text = fed.text })

      pub open_refused : (f : Refusal) → r.outcome ≡ Err f → paused_at (stopped_line (refusal_number f) 0) ended r.witness 0 ≡ open_call last room w log
      unfolding headed begin_with
      open_refused f e =
          let wrong : refused (refusal_number f) ≡ header log = sym (ap (start_of (part 5 32 log)) e) ∙ is.outcome in
          ap (λ (v : Witness). paused_at (stopped_line (refusal_number f) 0) ended v 0) (is.witness ∙ ap (begin_with w) (sym wrong)) ∙ has_room (refused (refusal_number f)) wrong

-- ---- the end

pub end-summary : (m : Model) (k left : ℕ) → left ≡ 0 → summary m ≡ end_text m k left
unfolding end_text
end-summary m k left none_left = ap (λ (b : Bool). cond b (summary m) (stopped_line 5 k)) (sym (eq-eqb left 0 none_left))

pub end-cut : (m : Model) (k left : ℕ) → (left ≡ 0 → ⊥) → stopped_line 5 k ≡ end_text m k left
unfolding end_text
end-cut m k left some = ap (λ (b : Bool). cond b (summary m) (stopped_line 5 k)) (sym (ne_eqb left 0 some))

module _ (w : Witness) (k room left : ℕ) where
  abbrev text : List ℕ
  text = end_text (model_of w) k left

  end_branch : (b : Bool) → ltb room (length text) ≡ b → cond b (paused_at [] full w k) (paused_at text ended w k) ≡ end_fed room w k left
  unfolding end_fed
  end_branch b e = ap (λ (c : Bool). cond c (paused_at [] full w k) (paused_at text ended w k)) (sym e)

  pub end-full : room < length text → paused_at [] full w k ≡ end_fed room w k left
  end-full short = end_branch true (lt-ltb room (length text) short)

  pub end_fits : length text ≤ room → paused_at text ended w k ≡ end_fed room w k left
  end_fits long = end_branch false (le-ltb room (length text) long)
