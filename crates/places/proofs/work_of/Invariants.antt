-- The work of the tasks that are still to come is missing.
use Rattle.std.specs.Prelude.{◌≡◌, ◌+◌, drop}
use Rattle.paper.specs.Demand.{table_due}
use Rattle.paper.specs.View.{tasks_of}
use Rattle.places.proofs.work_of.Given as goal

abbrev pub invariant-loop-task : goal.invariant-loop-task
invariant-loop-task l = let ts = tasks_of l.fn.w.within.table in l.work + table_due (drop l.task-index ts) l.fn.w.window ≡ table_due ts l.fn.w.window
