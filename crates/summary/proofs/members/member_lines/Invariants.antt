-- `summary::members::member_lines` meets its contract. The loop's invariant: the lines of the members at the places so far are written. Assumes nothing.
use Prim.Native.Nat.{◌+◌, ◌*◌, ◌≤◌}
use mathlib.Core.List.{flat_map}
use lib.ListN.{take}
use Rattle.text.specs.Put.{Put}
use Rattle.summary.proofs.Lines.{line_at}
use Rattle.summary.proofs.members.member_lines.Given as goal

abbrev pub invariant-loop-place : goal.invariant-loop-place
invariant-loop-place l = (l.next ≤ l.at + 112 * l.place-index) × Put l.initial.buf l.at (flat_map (line_at l.w) (take l.place-index l.sorted)) l.buf l.next
