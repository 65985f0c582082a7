-- The window of the first tasks, one task more in each turn: once it passes 30,000 no task more makes it shorter.
use Rattle.std.specs.Prelude.{◌≡◌, ◌≤◌, take}
use Rattle.paper.specs.Window.{window}
use Rattle.paper.specs.View.{tasks_of}
use Rattle.window.proofs.window_of.Given as goal

abbrev pub invariant-loop-task : goal.invariant-loop-task
invariant-loop-task l = (l.w ≤ 30000) × (l.w ≡ window (take l.task-index (tasks_of l.fn.t.table)))
