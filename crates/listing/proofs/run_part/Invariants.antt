-- Turn by turn: the lines from here on are those from the start on. The measure is the lines that are left.
use mathlib.Core.Path.{◌≡◌}
use Prim.Native.Nat.{◌≤◌}
use lib.ListN.{length}
use Rattle.listing.specs.Run.{turns, lines}
use Rattle.listing.proofs.run_part.Given as goal

abbrev pub invariant-loop-s : goal.invariant-loop-s
invariant-loop-s l = record {
  same : lines l.bytes (record { running = l.s; out = l.out }) ≡ lines l.bytes (record { running = l.initial.s; out = l.initial.out });
  room : length l.out ≡ length l.initial.out;
  inside : l.s.written ≤ length l.out;
}

abbrev pub decreases-loop-s : goal.decreases-loop-s
decreases-loop-s l = turns l.bytes l.s
