-- The rows in the making: what the places below p have is known. And once all places are passed: the rows are the
-- model's.
use Prim.Native.Nat.{ℕ, ◌+◌, ◌/◌, ◌<◌, ◌≤◌}
use native.Mathlib.Omega.{arith}
use mathlib.Core.Logic.{⊎_elim}
use mathlib.Core.Path.{◌≡◌, sym, ap, ap₂, ◌∙◌}
use mathlib.Core.List.{List}
use borrow.Author.Tests.{lt-ltb, le-ltb}
use lib.ListN.{length, get_or, set, take, length-set}
use lib.Seq.{length-take-le}
use Rattle.std.proofs.lemmas.List.{get_or-take}
use Rattle.model.specs.Finality.{justified?, status}
use Rattle.model.specs.Lists.{concat_below}
use Rattle.model.specs.Model.{Checkpoint, height_of}
use Rattle.model.specs.Paper.{best_support, row_text, checkpoint_row, blank_row, row_at, page, pages, paper}
use Rattle.model.specs.declared.Status.{Status}
use Rattle.model.proofs.Lists.{lt_or_ge}
use Rattle.search.proofs.Filled.{each_more}
use Rattle.state.specs.declared.Witness.{Witness}
use Rattle.state.specs.State.{model_of}
use Rattle.state.proofs.Entries.{count-checkpoints, checkpoint-is}
use Rattle.state.proofs.Sound.{few-checkpoints}
use Rattle.standing.specs.declared.Analysis.{Analysis}
use Rattle.standing.specs.Answers.{IsAnalysis, status_in}
use Rattle.standing.proofs.Standing.{status-is}
use Rattle.tables.specs.Places.{height_at}
use Rattle.voters.specs.declared.Voters.{Voters}
use Rattle.voters.specs.Bits.{among, count_below}
use Rattle.voters.specs.Weights.{weight_of}
use Rattle.tally.specs.declared.links.Mark.{Mark}
use Rattle.tally.specs.declared.links.Weighed.{Weighed}
use Rattle.tally.specs.declared.votes.Ballots.{Ballots}
use Rattle.tally.specs.Chains.{voters_at, Walkable, Tallied}
use Rattle.tally.specs.Marks.{justified_at}
use Rattle.tally.specs.Ready.{Ready}
use Rattle.tally.specs.Weights.{heaviest, IsHeaviest}
use Rattle.tally.proofs.Below.{heaviest_front}
use Rattle.tally.proofs.Heaviest.{ready_best}
use Rattle.tally.proofs.Ready.{held_bonds, ready-walk}
use Rattle.board.specs.Rows.{line_of, shown_at, row_in}
use Rattle.board.specs.declared.rows.Row.{Row}
use Rattle.board.proofs.RowLines.{held-row, missing_row}

-- before the turn of place p: the votes are ready, the standings known, and the rows of the places below p shown
pub record Drawn (w : Witness) (b : Ballots) (a : Analysis) (rows : List Row) (p : ℕ) : Type 0 where
  pub ready : Ready w b
  pub standings : IsAnalysis (model_of w) a
  pub few : w.checkpoint_count ≤ 512
  pub low : p ≤ w.checkpoint_count
  pub long : length rows ≡ 512
  pub shown : (q : ℕ) → q < p → line_of (shown_at rows q) ≡ checkpoint_row (model_of w) q

pub drawn_none : {w : Witness} {b : Ballots} {a : Analysis} {rows : List Row} → Ready w b → IsAnalysis (model_of w) a
    → length rows ≡ 512 → Drawn w b a rows 0
drawn_none {w} {b} {a} {rows} r is long =
    record {
      ready = r;
      standings = is;
      few = few-checkpoints w r.sound;
      low = omega arith;
      long = long;
      shown = λ q h. absurd (omega arith);
    }

module _ {w : Witness} {b : Ballots} {a : Analysis} {rows : List Row} {p : ℕ} (at : Drawn w b a rows p) where
  pub drawn_walk : p < w.checkpoint_count → Walkable b.who w.sources b.chains.next (get_or b.chains.head p 0)
  drawn_walk h = ready-walk at.ready p (omega arith)

  -- the heaviest voters, by marks that say of the places below p what the analysis says, are behind the best link. They
  -- need not be those of the analysis themselves: a wrong version that lends others is then refused for what these say
  pub drawn_more : (voters : List Voters) (marks : List Mark) {r : Weighed} {s : Status} {n : ℕ}
      → length voters ≡ 512
      → p < w.checkpoint_count
      → Tallied b.who w.sources b.chains.next (get_or b.chains.head p 0) (voters_at voters)
      → ((s : ℕ) → s < p → justified_at marks s ≡ justified_at a.marks s)
      → IsHeaviest (held_bonds w) (length (held_bonds w)) marks (voters_at (take p voters)) (length (take p voters)) r
      → s ≡ status_in a p
      → n ≡ count_below 128 (among r.voters)
      → Drawn w b a
      (set rows p (record { place = record { 0 = p }; height = get_or w.heights p (record { 0 = 0 }); status = s; number = n; bonds = r.bonds }))
      (p + 1)
  unfolding checkpoint_row
  drawn_more voters marks {r} {s} {n} long h all kept best_is standing counted =
      record {
        ready = at.ready;
        standings = at.standings;
        few = at.few;
        low = omega arith;
        long = length-set rows p _ ∙ at.long;
        shown = each_more (λ q row. line_of row ≡ checkpoint_row (model_of w) q) _ p rows _ (omega (arith, at.long))
            here at.shown;
      }
    where
      held : p < length (model_of w).checkpoints
      held = omega (arith, count-checkpoints w)

      marked : (s : ℕ) → s < p → justified_at marks s ≡ justified? (model_of w) s
      marked s l = kept s l ∙ at.standings.justified s (omega (arith, held))

      weight : Voters → ℕ
      weight v = weight_of (held_bonds w) (length (held_bonds w)) v

      -- the heaviest of the places below p are those of the list lent
      best : heaviest weight marks (voters_at (take p voters)) (length (take p voters))
          ≡ heaviest weight marks (voters_at voters) p
      best = heaviest_front voters p (omega (arith, long, at.few)) weight marks

      is : (count_below 128 (among (heaviest weight marks (voters_at voters) p)) ≡ (best_support (model_of w) p).number)
          × (weight (heaviest weight marks (voters_at voters) p) ≡ (best_support (model_of w) p).bonds)
      is = ready_best at.ready p (voters_at voters) (omega arith) all marks marked at.low

      here : row_text p (height_at w.heights p) s n r.bonds ≡ checkpoint_row (model_of w) p
      here =
          let m = model_of w in
          let top = best_is.1 ∙ best in
          let height : height_at w.heights p ≡ height_of m.checkpoints p =
          sym (ap (λ (c : Checkpoint). c.height) (checkpoint-is w p h)) in
          let number = counted ∙ ap (λ (v : Voters). count_below 128 (among v)) top ∙ is.0 in
          let weighed = best_is.0 ∙ ap weight top ∙ is.1 in
          ap₂ (λ (h : ℕ) (s : Status). row_text p h s n r.bonds) height (standing ∙ status-is m a at.standings p held)
          ∙ ap₂ (row_text p (height_of m.checkpoints p) (status m p)) number weighed

  -- all places are passed
  pub drawn_all : w.checkpoint_count ≤ p → (q : ℕ) → row_in (take w.checkpoint_count rows) q ≡ row_at (model_of w) q
  unfolding row_at blank_row
  drawn_all done q = ⊎_elim
      (λ h.
      rw (lt-ltb q (length (model_of w).checkpoints) (omega (arith, count-checkpoints w)))
      (sym (held-row front q (omega (arith, many)))
      ∙ ap line_of (get_or-take w.checkpoint_count rows q _ h)
      ∙ at.shown q (omega arith)))
      (λ h.
      rw (le-ltb q (length (model_of w).checkpoints) (omega (arith, count-checkpoints w)))
      (sym (missing_row front q (omega (arith, many)))))
      (lt_or_ge q w.checkpoint_count)
    where
      front : List Row
      front = take w.checkpoint_count rows

      many : length front ≡ w.checkpoint_count
      many = length-take-le w.checkpoint_count rows (omega (arith, at.long, at.few))

-- the pages of these rows are the paper
module _ (w : Witness) where
  pub so_many_pages : (w.checkpoint_count + 47) / 48 ≡ pages (model_of w)
  so_many_pages = ap (λ (n : ℕ). (n + 47) / 48) (sym (count-checkpoints w))

  pub pages-done : (rows : List Row) → ((p : ℕ) → row_in rows p ≡ row_at (model_of w) p)
      → concat_below ((w.checkpoint_count + 47) / 48) (page (row_in rows)) ≡ paper (model_of w)
  unfolding paper
  pages-done rows same = ap₂ (λ (n : ℕ) (row : ℕ → List ℕ). concat_below n (page row)) so_many_pages (λ i p. same p i)
