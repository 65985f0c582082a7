-- The loop keeps a file for which what is kept stands, and the fields that are left read on from that file; each turn passes a field.
use Rattle.std.proofs.Common.{◌-◌, ◌≤◌, length}
use Rattle.fields.proofs.Walk.{Walked}
use Rattle.fields.proofs.read_file.Given as goal

abbrev pub invariant-loop-at : goal.invariant-loop-at
invariant-loop-at l = record { short : length l.bytes ≤ 4096; walked : Walked l.bytes l.at l.seen }

abbrev pub decreases-loop-at : goal.decreases-loop-at
decreases-loop-at l = length l.bytes - l.at
