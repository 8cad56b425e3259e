-- A turn of the pass over the places of a sound state: the votes for the place at hand are counted, and it is marked.
use Prim.Native.Nat.{ℕ, ◌+◌, ◌<◌, ◌≤◌}
use native.Mathlib.Omega.{arith}
use mathlib.Core.Path.{◌≡◌, sym, ap, ◌∙◌}
use mathlib.Core.List.{List}
use mathlib.Core.Bool.{Bool, ◌&&◌, ◌||◌}
use lib.ListN.{length, get_or, take}
use Rattle.model.specs.Lists.{any_below}
use Rattle.model.specs.Model.{Checkpoint}
use Rattle.tables.specs.Places.{place_at}
use Rattle.state.specs.declared.Witness.{Witness}
use Rattle.state.specs.State.{model_of}
use Rattle.state.proofs.Entries.{count-checkpoints, checkpoint-is}
use Rattle.state.proofs.Sound.{few-checkpoints}
use Rattle.voters.specs.declared.Voters.{Voters}
use Rattle.voters.specs.Weights.{carried}
use Rattle.tally.specs.declared.votes.Ballots.{Ballots}
use Rattle.tally.specs.Chains.{voters_at, Walkable, Tallied}
use Rattle.tally.specs.Ready.{Ready}
use Rattle.tally.proofs.Below.{any_front}
use Rattle.tally.proofs.Ready.{held_bonds, ready-walk, ready-link, ready-parent}
use Rattle.tally.specs.declared.links.Mark.{Mark}
use Rattle.tally.specs.Marks.{justified_at, finalizing_at}
use Rattle.standing.specs.Answers.{IsAnalysis}
use Rattle.standing.proofs.Marks.{Marked, rooted, with_justified, with_finalizing, marked-root, marked_more, marked_all}

-- before the turn of place t: the votes are ready, and the places below t are marked
pub record Turn (w : Witness) (b : Ballots) (marks : List Mark) (t : ℕ) : Type 0 where
  pub ready : Ready w b
  pub few : w.checkpoint_count ≤ 512
  pub later : 0 < t
  pub low : t ≤ w.checkpoint_count
  pub marked : Marked (model_of w) marks t

pub turn-first : {w : Witness} {b : Ballots} → Ready w b
    → Turn w b rooted 1
turn-first {w} r =
    let good = r.sound.good in
    record {
      ready = r;
      few = few-checkpoints w r.sound;
      later = omega arith;
      low = omega (arith, good.tree.rooted, count-checkpoints w);
      marked = marked-root (model_of w) good;
    }

module _ {w : Witness} {b : Ballots} {marks : List Mark} {t : ℕ}
    (at : Turn w b marks t) where
  pub turn_last : w.checkpoint_count ≤ t
      → IsAnalysis (model_of w) (record { marks = marks })
  turn_last h = marked_all (model_of w) at.ready.sound.good (count-checkpoints w) at.few h at.low at.marked

  module _ (inside : t < w.checkpoint_count) where
    -- the chain of its votes can be walked
    pub turn-walk : Walkable b.who w.sources b.chains.next (get_or b.chains.head t 0)
    turn-walk = ready-walk at.ready t (omega arith)

    -- its parent's place, a held one
    abbrev parent : ℕ
    parent = place_at w.parents t

    pub turn-parent : parent < 512
    turn-parent = ready-parent at.ready t at.later inside

    -- whether the voters of the link from s carry it
    abbrev leads : (ℕ → Voters) → ℕ → Bool
    leads tally s = carried (held_bonds w) (length (held_bonds w)) b.bar (tally s)

    -- the voters of the links to t say whether it is justified, and whether a link joins its parent to it
    pub turn_more : (voters : List Voters) {reached hit : Bool}
        → length voters ≡ 512
        → Tallied b.who w.sources b.chains.next (get_or b.chains.head t 0) (voters_at voters)
        → reached ≡ any_below (length (take t voters)) (λ s. justified_at marks s && leads (voters_at (take t voters)) s)
        → hit ≡ leads (voters_at voters) parent
        → Turn w b
        (with_finalizing (with_justified marks t reached) parent
        (finalizing_at (with_justified marks t reached) parent || hit))
        (t + 1)
    turn_more voters long all reaches hits =
        let few : t < 512 = omega arith in
        let tally = voters_at voters in
        let p : ℕ → Voters → Bool = λ s v. justified_at marks s && carried (held_bonds w) (length (held_bonds w)) b.bar v in
        record {
          ready = at.ready;
          few = at.few;
          later = omega arith;
          low = omega arith;
          marked = marked_more (model_of w) at.ready.sound.good marks t parent (leads tally)
              at.later
              (omega (arith, count-checkpoints w))
              few
              (sym (ap (λ (c : Checkpoint). c.parent) (checkpoint-is w t inside)))
              turn-parent
              (ready-link at.ready t tally few all)
              (reaches ∙ any_front voters t (omega arith) p)
              hits
              at.marked;
        }
