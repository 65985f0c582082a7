-- The remainder fits, since the window does.
use native.Mathlib.Omega.{arith}
use native.Mathlib.Nat.{mod-lt}
use Rattle.paper.proofs.offset_of.Goals as goal

pub overflow_cast-result : goal.overflow_cast-result
overflow_cast-result c = omega (arith, mod-lt c.args.s.0 {m = c.args.window} c.requires)
