-- The tasks' works and periods, from the first on; the places past them keep 0.
use Rattle.std.specs.Prelude.{◌≡◌, ◌++◌, take, drop, replicate}
use Rattle.paper.specs.Demand.{works}
use Rattle.paper.specs.View.{tasks_of}
use Rattle.theory.specs.Lasts.{periods}
use Rattle.places.proofs.Rows.of.Given as goal

abbrev pub invariant-loop-i : goal.invariant-loop-i
invariant-loop-i l = record {
  works_are : l.works ≡ take l.i (works (tasks_of l.fn.t.table)) ++ drop l.i (replicate 16 0);
  periods_are : l.periods ≡ take l.i (periods (tasks_of l.fn.t.table)) ++ drop l.i (replicate 16 0);
}
