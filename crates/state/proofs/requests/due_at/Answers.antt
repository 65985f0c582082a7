-- The present request's deadline: an offset is at most 30,000, so that nothing wraps.
use mathlib.Core.Path.{refl}
use native.Mathlib.Omega.{arith}
use native.Mathlib.Nat.{div-mul-le_self}
use Rattle.paper.specs.Demand.{present, deadline_at}
use Rattle.state.proofs.requests.due_at.Goals as goal

pub nonzero_div-result : goal.nonzero_div-result
nonzero_div-result c = omega arith

pub overflow_mul-result : goal.overflow_mul-result
overflow_mul-result c =
    let a = c.args in
    omega (arith, div-mul-le_self a.v.0 a.t.period)

pub overflow_add-result : goal.overflow_add-result
overflow_add-result c =
    let a = c.args in
    omega (arith, div-mul-le_self a.v.0 a.t.period)

pub returns : goal.returns
unfolding present deadline_at
returns c = refl
