-- The window with one task more: the divisor is not 0, and the product fits.
use Rattle.window.proofs.Euclid.{gcd-pos, lcm-most}
use Rattle.paper.specs.Window.{lcm}
use native.Mathlib.Omega.{arith}
use Rattle.window.proofs.with_task.Goals as goal

pub nonzero_div-result : goal.nonzero_div-result
nonzero_div-result c = rw c.common.ensures (gcd-pos c.args.w c.args.t.period (omega arith))

pub overflow_mul-result : goal.overflow_mul-result
overflow_mul-result c =
    let t = c.args.t in
    let w = c.args.w in
    rw c.common.ensures (omega (arith, lcm-most w t.period 30000 10000 (omega arith) (omega arith)))

pub returns : goal.returns
unfolding lcm
returns c = rw c.common.ensures
