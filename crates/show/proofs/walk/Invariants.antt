-- The measure is the turns that are left.
use Rattle.listing.specs.Run.{turns}
use Rattle.show.proofs.walk.Given as goal

abbrev pub invariant-loop-r : goal.invariant-loop-r
invariant-loop-r g l = Unit {0}

abbrev pub decreases-loop-r : goal.decreases-loop-r
decreases-loop-r g l = turns l.bytes l.r
