-- `ffw_dump::put_one` meets its contract: the record is whole.
use Rattle.std.proofs.Common.{◌≡◌, ℕ, List, ◌<◌, ◌≤◌, true, length, get_or, Result, IfOk, Ok, Err, ap, arith}
use Rattle.model.specs.Log.{kind_of, size_of, record_size}
use Rattle.wire.specs.Kinds.{byte_of, Decodes}
use Rattle.wire.specs.declared.records.Kind.{Kind}
use Rattle.wire.specs.declared.records.Kind.TheVariants.{Member, Checkpoint, Vote, Quorum, Bundle}
use Rattle.wire.specs.declared.records.UnknownKind.{UnknownKind}
use Rattle.buffered.specs.Hold.{whole?}
use Rattle.buffered.proofs.Ready.{whole-size}
use Rattle.ffw_dump.proofs.put_one.Goals as goal

-- a record has some bytes
some : (k : Kind) → 0 < record_size (byte_of k)
unfolding record_size size_of kind_of
some Member = omega arith
some Checkpoint = omega arith
some Vote = omega arith
some Quorum = omega arith
some Bundle = omega arith

-- the record of a kind that is known is at hand
known-size : (s : List ℕ) → whole? s ≡ true → (r : Result Kind UnknownKind) → Decodes (get_or s 0 0) r → IfOk r (λ k. record_size (byte_of k) ≤ length s)
known-size s e (Ok k) d = omega (arith, ap record_size d, (whole-size s e).1)
known-size s e (Err u) d = _

pub bounds-bytes-0 : goal.bounds-bytes-0
bounds-bytes-0 c = (whole-size c.args.bytes.now c.requires.bytes_value.0).0

pub put_line-written-requires-clause-whole : goal.put_line-written-requires-clause-whole
put_line-written-requires-clause-whole c = known-size c.args.bytes.now c.requires.bytes_value.0 c.try_from-kind.result c.try_from-kind.ensures

pub overflow_add-result : goal.overflow_add-result
overflow_add-result c =
    record { fits = omega (arith, c.size.ensures, ap record_size c.in-Ok.ensures, (whole-size c.args.bytes.now c.requires.bytes_value.0).1, c.requires.bytes_value.1) }

pub returns-in-Ok : goal.returns-in-Ok
returns-in-Ok c =
    let size = c.size.ensures in (
      omega (arith, size, some c.in-Ok.known),
      omega (arith, size, ap record_size c.in-Ok.ensures, (whole-size c.args.bytes.now c.requires.bytes_value.0).1),
      c.put_line-written.ensures,
    )
