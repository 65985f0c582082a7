-- A whole number of periods has as many deadlines as periods.
use mathlib.Core.Path.{ap}
use Prim.Native.Nat.{◌*◌, ◌/◌, ◌≤◌}
use native.Mathlib.Omega.{arith}
use Rattle.theory.specs.Counting.{dues-whole}
use Rattle.theory.specs.Most.{due-most}
use Rattle.places.proofs.with_work.Goals.{Start}
use Rattle.places.proofs.with_work.Goals as goal

bound : (c : Start) → c.args.t.work * (c.args.w / c.args.t.period) ≤ 40000
bound c =
    let t = c.args.t in
    omega (
      arith,
      due-most t c.requires.good c.args.w c.requires.period.1,
      ap (λ n. t.work * n) (dues-whole t c.requires.good c.args.w c.requires.period.0),
    )

pub overflow_mul-result : goal.overflow_mul-result
overflow_mul-result c = omega (arith, bound (goal.at.overflow_mul-result c).Start)

pub overflow_add-result : goal.overflow_add-result
overflow_add-result c = omega (arith, bound (goal.at.overflow_add-result c).Start)

pub returns : goal.returns
returns c = rw (dues-whole c.args.t c.requires.good c.args.w c.requires.period.0)
