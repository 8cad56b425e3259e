-- `tally::votes::prepare` meets its contract. Assumes nothing.
use Prim.Native.Nat.{ℕ, ◌<◌, ◌≤◌}
use borrow.Author.Rules.{rules}
use native.Mathlib.Omega.{arith}
use mathlib.Core.Path.{◌≡◌, ap, ◌∙◌}
use mathlib.Core.List.{List}
use lib.Dec.{eqb}
use lib.ListN.{length, take}
use lib.Seq.{length-take-le}
use Rattle.std.proofs.lemmas.List.{get_or-take}
use Rattle.model.specs.declared.Place.{Place}
use Rattle.tables.specs.Places.{place_at}
use Rattle.search.proofs.Chains.{bucketed-same}
use Rattle.state.specs.declared.Witness.{Witness}
use Rattle.state.specs.Sound.{Sound}
use Rattle.state.proofs.Sound.{few-members, few-checkpoints, few-votes, voters-long, target-held}
use Rattle.voters.proofs.Weights.{first_good, sum_first_bonds}
use Rattle.voters.specs.Weights.{IsBar}
use Rattle.tally.specs.declared.votes.Ballots.{Ballots}
use Rattle.tally.specs.Chains.{Placed, ByTarget}
use Rattle.tally.specs.Ready.{Ready}
use Rattle.model.specs.Lists.{first_index}
use Rattle.state.specs.State.{model_of}
use Rattle.tally.proofs.Totals.{bar-is, bonds-good}
use Rattle.tally.proofs.votes.prepare.Goals as goal

module _ (w : Witness) (sound : Sound w) where
  -- the targets of the votes that are held, as a list of their own
  abbrev targets : List Place
  targets = take w.vote_count w.targets

  many-targets : length targets ≡ w.vote_count
  many-targets = length-take-le w.vote_count w.targets (omega (arith, few-votes w sound, sound.typed.votes.targets))

  target-is : (k : ℕ) → k < w.vote_count → place_at targets k ≡ place_at w.targets k
  target-is k h = ap (λ (p : Place). p.0) (get_or-take w.vote_count w.targets k _ h)

  targets-first : (length targets ≤ 4096) × ((k : ℕ) → k < length targets → place_at targets k < 512)
  targets-first = (
    omega (arith, many-targets, few-votes w sound),
    λ k h.
        let held : k < w.vote_count = omega (arith, many-targets) in
        omega (arith, target-is k held, target-held w sound k held, few-checkpoints w sound),
  )

  made : {b : Ballots} → length b.who ≡ 4096
      → Placed (take w.member_count w.ids) (take w.vote_count w.voters) (length (take w.vote_count w.voters)) b.who
      → ByTarget targets (length targets) b.chains.head b.chains.next
      → IsBar (model_of w) b.bar
      → Ready w b
  made {b} long placed chained bar =
      let n = w.vote_count in
      let voters = length-take-le n w.voters (voters-long w sound) in
      record {
        sound = sound;
        long = long;
        found = λ k h.
            placed k (omega (arith, voters))
            ∙ ap (λ (v : ℕ). first_index (λ x. eqb x v) (take w.member_count w.ids)) (get_or-take n w.voters k 0 h);
        chained = bucketed-same target-is
            (rw many-targets at chained);
        bar = bar;
      }

pub shared_ref_as_front-ids : goal.shared_ref_as_front-ids
shared_ref_as_front-ids c = few-members _ c.requires

pub total_bond-requires : goal.total_bond-requires
total_bond-requires c = first_good _ _ (bonds-good _ c.requires)

pub shared_ref_as_front-voters : goal.shared_ref_as_front-voters
shared_ref_as_front-voters c = few-votes _ c.requires

pub bucket-requires : goal.bucket-requires
bucket-requires c = targets-first _ c.requires

pub returns : goal.returns
returns c =
    let w = c.args.w.now in
    made w c.requires (search rules) c.member_places.ensures c.bucket.ensures
    (bar-is w c.quota.ensures (c.total_bond.ensures ∙ sum_first_bonds _ _ (bonds-good w c.requires) _))
