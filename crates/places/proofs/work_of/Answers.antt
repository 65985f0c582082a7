use Rattle.std.specs.Prelude.{◌<◌, length}
use Rattle.std.proofs.Common.{arith, drop_of_length-le}
use Rattle.paper.specs.Demand.{table_due}
use Rattle.paper.specs.View.{tasks_of}
use Rattle.theory.specs.Most.{ready_most}
use Rattle.window.specs.Kept.{good_at}
use Rattle.places.proofs.RowLaws.{period_divides, due_next}
use Rattle.places.proofs.work_of.Goals.{In-loop-task}
use Rattle.places.proofs.work_of.Goals as goal

here : (c : In-loop-task) → c.loop-task.task-index < length (tasks_of c.args.w.within.table)
here c = rw c.listed-task-items.ensures at c.loop-task-test.true

pub with_work-work-requires-clause-good : goal.with_work-work-requires-clause-good
with_work-work-requires-clause-good c =
    rw c.listed-task-items.ensures (good_at (tasks_of c.args.w.within.table) c.loop-task.task-index c.args.w.ready.good (here (goal.at.with_work-work-requires-clause-good c).In-loop-task))

pub with_work-work-requires-clause-period : goal.with_work-work-requires-clause-period
with_work-work-requires-clause-period c =
    let h = here (goal.at.with_work-work-requires-clause-period c).In-loop-task in
    let y = c.args.w.ready in
    let m = ready_most c.args.w.within.table c.args.w.window c.args.w.window y (omega arith) in
    (rw c.listed-task-items.ensures (period_divides y c.loop-task.task-index h), y.short, omega (arith, m, c.loop-task.invariant))

pub loop-task-preserved : goal.loop-task-preserved
loop-task-preserved c =
    let ts = tasks_of c.args.w.within.table in
    let l = c.loop-task in
    omega (
      arith,
      l.invariant,
      rw c.listed-task-items.ensures at c.with_work-work.ensures,
      due_next ts c.args.w.window l.task-index (here (goal.at.loop-task-preserved c).In-loop-task),
    )

pub returns : goal.returns
unfolding table_due
returns c =
    let l = c.loop-task in
    let none = drop_of_length-le (tasks_of c.args.w.within.table) {i = l.task-index} (rw c.listed-task-items.ensures at c.loop-task-test.false) in
    omega (arith, rw none at l.invariant)
