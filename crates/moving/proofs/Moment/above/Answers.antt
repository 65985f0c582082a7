use mathlib.Core.Path.{◌≡◌}
use native.Mathlib.Omega.{arith}
use Rattle.paper.specs.Vectors.{above_moving}
use Rattle.theory.specs.Scan.{Left, from_none}
use Rattle.paper.specs.View.{tasks_of}
use Rattle.paper.specs.contracts.Task as J
use Rattle.moving.proofs.Walk.{fits_before, above_before}
use lib.ListN.{length-map}
use Rattle.moving.proofs.Moment.above.Goals as goal

pub loop-i-init : goal.loop-i-init
unfolding above_moving
loop-i-init c =
    let t = c.args.self.now.checked.within.table in
    (rw (from_none t.tasks t.count), omega arith)

pub task_above-sum-requires : goal.task_above-sum-requires
task_above-sum-requires c =
    let m = c.args.self.now in
    let t = m.checked.within.table in
    let e = length-map t.tasks (J.the_type).to in
    let few = m.checked.ready.few in
    let left : Left t.tasks t.count c.loop-i.i = omega arith in
    record {
      fits = fits_before m.checked.within.table m.checked.window c.loop-i.i m.checked.ready left;
      from = c.requires;
    }

pub loop-i-preserved : goal.loop-i-preserved
loop-i-preserved c =
    let m = c.args.self.now in
    let t = m.checked.within.table in
    let l = c.loop-i in
    let e = length-map t.tasks (J.the_type).to in
    let few = m.checked.ready.few in
    let left : Left t.tasks t.count l.i = omega arith in
    let left-requests : Left m.requests t.count l.i = omega arith in
    let step = above_before t.tasks m.requests t.count l.i m.v.0 m.checked.window c.args.k.0 left left-requests in
    (omega (arith, c.task_above-sum.ensures.is, l.invariant.0, step), omega (arith, c.task_above-sum.ensures.most))

pub returns : goal.returns
unfolding tasks_of
returns c =
    let l = c.loop-i in
    let end : l.i ≡ 0 = omega arith in
    (rw (l.invariant.0, end), omega (arith, c.args.self.now.checked.ready.few))
