-- What a decision of the code means in document 01's numbers and values.
use Rattle.std.specs.Prelude.{ℕ, List, [], ◌∷◌, Result, Ok, Err}
use Rattle.model.specs.Answer.{Answer, refused, answer}
use Rattle.model.specs.Bytes.{part}
use Rattle.model.specs.Change.{Decision as Decided, add_member, add_checkpoint, add_vote, give_quota, single, decided}
use Rattle.model.specs.Change.{together, nothing_read}
use Rattle.model.specs.Decide.{bundle_ids}
use Rattle.model.specs.Model.{Model, Link}
use Rattle.model.specs.Refusals.{refusal_number}
use Rattle.model.specs.declared.Refusal.{Refusal}
use Rattle.ballots.specs.Ballot.{vote_in, link_answer_of, cast_vote}
use Rattle.registry.specs.declared.Decision.{Decision}
use Rattle.registry.specs.declared.Decision.TheVariants.{Nothing, Member, Checkpoint, Vote, Bundle, Quorum}

-- the votes of the members with these ids, each meeting what the last one left
unfoldable pub cast_each : Model → Answer Link → List ℕ → List Decided
cast_each m l [] = []
cast_each m l (id ∷ ids) = let d = cast_vote m l id in d ∷ cast_each (decided m d) l ids

-- what is decided on the record that the bytes s begin with; a checkpoint's name, and the members of a bundle, are
-- taken from there
abbrev pub decision_of : Model → List ℕ → Result Decision Refusal → Decided
decision_of m s (Err r) = single (refused (refusal_number r))
decision_of m s (Ok Nothing) = nothing_read
decision_of m s (Ok (Member id bond)) = single (answer (add_member (record { id = id; bond = bond })))
decision_of m s (Ok (Checkpoint p h)) =
    single (answer (add_checkpoint (record { name = part 1 32 s; parent = p.0; height = h.0 })))
decision_of m s (Ok (Vote b)) = single (answer (add_vote (vote_in b)))
decision_of m s (Ok (Bundle n l)) = together (cast_each m (link_answer_of l) (bundle_ids m (part 1 16 s)))
decision_of m s (Ok (Quorum k)) = single (answer (give_quota k))
