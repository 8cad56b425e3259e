-- What reading on from an offset of a log comes to, and the reader's type behind a `&mut`.
use Prim.Native.Nat.{ℕ}
use mathlib.Core.List.{List}
use lib.ListN.{length}
use mir.Syntax.{named}
use base.Fml.{Lft}
use denote.RattleType.{RattleType}
use denote.Ref.{NamedLft}
use Rattle.state.specs.declared.Witness.{Witness}
use Rattle.reader.specs.Many.{read_many, IsBatch}
use Rattle.reader.specs.declared.Batch.{Batch}
use Rattle.log_reader.specs.contracts.LogReader as T

-- at most so many records: the entries before and after
abbrev pub Found : ℕ → Witness → List ℕ → ℕ → List ℕ → Batch → List ℕ → Type 0
Found limit w log at before b after = IsBatch (read_many limit (length before) w log at) before b after

-- 'a, the second of `read_on`'s lifetimes, and the reader's type at it
abbrev pub α : Lft → NamedLft
α κ = record { mir = named 1; lft = κ }

abbrev pub B : Lft → RattleType
B κ = T.the_row (α κ)
