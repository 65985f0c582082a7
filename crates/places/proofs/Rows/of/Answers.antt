use Rattle.std.specs.Prelude.{◌<◌, length}
use Rattle.std.proofs.Common.{sym, arith}
use Rattle.paper.specs.Demand.{works}
use Rattle.paper.specs.View.{tasks_of}
use Rattle.theory.specs.Lasts.{periods, length-works, length-periods}
use Rattle.places.proofs.RowLaws.{few_tasks, works_at, periods-at, put_row, row_full}
use Rattle.places.proofs.Rows.of.Goals.{In-loop-i, then-t-le8, else-t-le8}
use Rattle.places.proofs.Rows.of.Goals as goal

here : (c : In-loop-i) → (c.loop-i.i < length (tasks_of c.args.t.table)) × (c.loop-i.i < 16)
here c =
    let h = rw c.listed-task-items.ensures at c.loop-i-test.true in
    (h, omega (arith, h, few_tasks c.args.t.limits))

pub bounds-works-i : goal.bounds-works-i
bounds-works-i c = (here (goal.at.bounds-works-i c).In-loop-i).1

pub bounds-periods-i : goal.bounds-periods-i
bounds-periods-i c = (here (goal.at.bounds-periods-i c).In-loop-i).1

pub loop-i-preserved : goal.loop-i-preserved
loop-i-preserved c =
    let ts = tasks_of c.args.t.table in
    let i = c.loop-i.i in
    let h = (here (goal.at.loop-i-preserved c).In-loop-i).0 in
    let few = few_tasks c.args.t.limits in
    record {
      works_are =
          rw (c.loop-i.invariant.works_are, c.listed-task-items.ensures)
          (put_row (works ts) i _ (omega (arith, h, length-works ts)) (omega (arith, few, length-works ts)) (sym (works_at ts i h)));
      periods_are =
          rw (c.loop-i.invariant.periods_are, c.listed-task-items.ensures)
          (put_row (periods ts) i _ (omega (arith, h, length-periods ts)) (omega (arith, few, length-periods ts)) (sym (periods-at ts i h)));
    }

pub returns : goal.returns
returns c =
    let ts = tasks_of c.args.t.table in
    let i = c.loop-i.i in
    let past = rw c.listed-task-items.ensures at c.loop-i-test.false in
    let inside = rw c.listed-task-items.ensures at c.loop-i.auto.i-end in
    let few = c.args.t.limits.few in
    record {
      works-are = rw c.loop-i.invariant.works_are (row_full (works ts) i (omega (arith, past, inside, length-works ts)));
      periods-are = rw c.loop-i.invariant.periods_are (row_full (periods ts) i (omega (arith, past, inside, length-periods ts)));
      wide = elim c.if-t-le8.branch [ then-t-le8 w ↦ omega arith | else-t-le8 w ↦ omega arith ];
    }
