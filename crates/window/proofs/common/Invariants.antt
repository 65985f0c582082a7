-- Euclid's steps keep the greatest common divisor.
use Rattle.paper.specs.Window.{gcd}
use mathlib.Core.Path.{◌≡◌}
use Rattle.window.proofs.common.Given as goal

abbrev pub invariant-loop-y : goal.invariant-loop-y
invariant-loop-y l = gcd l.x l.y ≡ gcd l.a l.b

abbrev pub decreases-loop-y : goal.decreases-loop-y
decreases-loop-y l = l.y
