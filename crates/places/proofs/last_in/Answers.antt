-- The window is a whole number of periods, so the last deadline lies P − R before its end.
use native.Mathlib.Omega.{arith}
use native.Mathlib.Nat.{div-mul_cancel, le_of_dvd}
use Prim.Native.Nat.{◌*◌}
use mathlib.Core.Path.{ap}
use Rattle.paper.specs.Places.{spare}
use Rattle.theory.specs.Counting.{dues-whole}
use Rattle.theory.specs.Lasts.{last_of}
use Rattle.places.proofs.last_in.Goals as goal

pub overflow_sub-result : goal.overflow_sub-result
overflow_sub-result c = omega (arith, le_of_dvd c.requires.period.1 c.requires.period.0)

pub returns : goal.returns
unfolding last_of spare
returns c =
    let t = c.args.t in
    omega (
      arith,
      ap (λ n. n * t.period) (dues-whole t c.requires.good c.args.w c.requires.period.0),
      div-mul_cancel t.period c.requires.period.0,
    )
