-- The votes' numbers beside the witness, in chains: they hold its votes, whatever is stored.
use Prim.Native.Nat.{ℕ, ◌+◌, ◌<◌}
use mathlib.Core.Path.{◌≡◌, sym, ap, subst}
use mathlib.Core.List.{List}
use lib.ListN.{get_or, set}
use Rattle.model.specs.Model.{Vote}
use Rattle.model.specs.Lists.{tabulate}
use Rattle.search.specs.Chains.{Indexed}
use Rattle.search.specs.declared.Links.{Links}
use Rattle.reader.specs.Storing.{Searched}
use Rattle.state.specs.Sound.{SizedVotes}
use Rattle.state.specs.State.{VotePart, vote_part, place, model_of, with_vote}
use Rattle.state.specs.Tables.{key_of, KeysHeld}
use Rattle.state.specs.declared.Witness.{Witness}
use Rattle.state.proofs.Held.{votes-kept, vote-more}

-- the votes that a part holds
abbrev votes_in : VotePart → List Vote
votes_in p =
    tabulate p.count (λ i. record { voter = get_or p.voters i 0; source = (get_or p.sources i (place 0)).0; target = (get_or p.targets i (place 0)).0 })

module _ (w : Witness) {links : Links} (so : Searched w links) where
  -- where the votes are as they were
  pub without_vote : (v : Witness) → vote_part v ≡ vote_part w → Searched v links
  unfolding model_of
  without_vote v same =
      record {
        indexed = subst (λ (p : VotePart). Indexed p.count links.numbers links.heads links.nexts) (sym same) so.indexed;
        votes = subst (λ (p : VotePart). KeysHeld (model_of v) links.numbers p.count) (sym same) (votes-kept w so.votes (model_of v) (ap votes_in same));
      }

  pub with_vote_lem : SizedVotes (vote_part w) → (v : Vote) → w.vote_count < 4096 → v.source < 65536 → v.target < 65536 → {links' : Links}
      → links'.numbers ≡ set links.numbers w.vote_count (key_of v) → Indexed (w.vote_count + 1) links'.numbers links'.heads links'.nexts → Searched (with_vote w v) links'
  unfolding with_vote
  with_vote_lem sized v room vs vt {links'} e indexed =
      record {
        indexed = indexed;
        votes = subst (λ (l : List ℕ). KeysHeld (model_of (with_vote w v)) l (w.vote_count + 1)) (sym e) (vote-more w so.votes sized v room so.indexed.numbers-long vs vt);
      }
