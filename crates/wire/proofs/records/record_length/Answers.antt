-- `wire::records::record_length` meets its contract. Assumes nothing.
use Prim.Native.Nat.{◌-◌, ◌<◌, ◌≤◌}
use native.Mathlib.Omega.{arith}
use mathlib.Core.Path.{◌≡◌, sym, ap, ◌∙◌}
use lib.ListN.{length, get_or}
use Rattle.model.specs.Log.{record_size}
use Rattle.model.proofs.Log.{none-at, cut_at, whole-at}
use Rattle.wire.proofs.records.record_length.Goals as goal

pub returns-in_default : goal.returns-in_default
returns-in_default c = sym (none-at c.args.at c.args.log.now c.in_default.ensures.lookup.3).long

pub returns-then-log-at : goal.returns-then-log-at
returns-then-log-at c =
    let a = c.args in
    let h = c.in-Some.ensures.lookup in
    let short : length a.log.now - a.at < record_size (get_or a.log.now a.at 0) = omega (arith, c.record_size-size.ensures ∙ ap record_size (h.3.1 0)) in
    sym (cut_at a.at a.log.now h.3.0 short).long

pub returns-else-log-at : goal.returns-else-log-at
returns-else-log-at c =
    let a = c.args in
    let h = c.in-Some.ensures.lookup in
    let size : c.record_size-size.result ≡ record_size (get_or a.log.now a.at 0) = c.record_size-size.ensures ∙ ap record_size (h.3.1 0) in
    let fits : record_size (get_or a.log.now a.at 0) ≤ length a.log.now - a.at = omega (arith, size) in
    size ∙ sym (whole-at a.at a.log.now h.3.0 fits).long
