-- The kinds of records, by the byte that each begins with.
use Rattle.std.specs.Prelude.{◌≡◌, ℕ, Result, MatchResult}
use Rattle.model.specs.Log as Log
use Rattle.wire.specs.declared.records.Kind.{Kind}
use Rattle.wire.specs.declared.records.Kind.TheVariants.{Member, Checkpoint, Vote, Quorum, Bundle}
use Rattle.wire.specs.declared.records.UnknownKind.{UnknownKind}

abbrev pub byte_of : Kind → ℕ
byte_of Member = 1
byte_of Checkpoint = 2
byte_of Vote = 3
byte_of Quorum = 4
byte_of Bundle = 5

-- a byte's kind, as the log has it; or an error with a byte that begins no record
abbrev pub Decodes : ℕ → Result Kind UnknownKind → Type 0
Decodes byte r = MatchResult r (λ kind. byte_of kind ≡ byte) (λ e. (e.0 ≡ byte) × (Log.kind_of byte ≡ Log.other_kind))
