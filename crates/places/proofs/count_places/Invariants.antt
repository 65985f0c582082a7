-- One walk over the places, from the last down: each is counted, and asked for refusal 6.
use Rattle.std.specs.Prelude.{◌≤◌}
use Rattle.places.proofs.Over.{Come}
use Rattle.places.proofs.count_places.Given as goal

abbrev pub invariant-loop-s : goal.invariant-loop-s
invariant-loop-s l = (l.places ≤ 1024) × Come l.fn.w.within.table l.fn.w.window l.over l.places l.s

abbrev pub decreases-loop-s : goal.decreases-loop-s
decreases-loop-s l = l.s.place
