-- `log_reader::read_record` meets its contract: reading on, where one record may be read. Assumes nothing.
use native.Mathlib.Omega.{arith}
use mathlib.Core.Path.{sym, ap, ◌∙◌, subst}
use mathlib.Core.List.{List}
use Prim.Native.Nat.{ℕ, ◌+◌}
use lib.ListN.{drop}
use Rattle.model.specs.Decide.{decide}
use Rattle.model.specs.Log.{record_length}
use Rattle.reader.proofs.Single.{one-reading, ended-outcome}
use Rattle.reader.proofs.Votes.{votes-fit}
use Rattle.state.specs.Reading.{outcome_of, IsReading}
use Rattle.state.specs.State.{model_of}
use Rattle.log_reader.proofs.read_record.Goals as goal

pub last_votes-requires : goal.last_votes-requires
last_votes-requires c =
    let a = c.args in
    votes-fit 1 128 a.w a.log.now a.from c.read_from-r.ensures

pub returns : goal.returns
returns c =
    let a = c.args in
    subst
    (λ (votes : List ℕ).
    IsReading a.w (decide (model_of a.w) (drop a.from a.log.now)) (a.from + record_length (drop a.from a.log.now))
    (record { outcome = c.unwrap_or.result; rows = votes; next = c.read_from-r.result.next; witness = c.read_from-r.result.witness }))
    (sym c.last_votes.ensures)
    (one-reading 128 a.w a.log.now a.from (omega arith) c.read_from-r.ensures c.unwrap_or.result
    (ap outcome_of c.unwrap_or.ensures ∙ ended-outcome c.read_from-r.result.end c.read_from-r.result.last))
