-- What the calls that read give beside what is decided: how far they pass, and what reading on comes to.
use Rattle.std.specs.Prelude.{ℕ, List, cond}
use Rattle.model.specs.Answer.{refused}
use Rattle.model.specs.Log.{record_length}
use Rattle.state.specs.Sound.{sound?}
use Rattle.state.specs.declared.Witness.{Witness}
use Rattle.reader.specs.Many.{ended_by, Many, none_passed, read_many}

-- the bytes that reading passes over: none where 40 applies
unfoldable pub passed : Witness → List ℕ → ℕ
passed w s = cond (sound? w) (record_length s) 0

-- reading on: 40 where the state is not sound, and nothing is read
unfoldable pub many_call : (n room : ℕ) → Witness → List ℕ → ℕ → Many
many_call n room w log at = cond (sound? w) (read_many n room w log at) (none_passed (ended_by (refused 40)) w at)
