-- Each task's last deadline of the window, from the first task on.
use Rattle.std.specs.Prelude.{◌≡◌, ◌++◌, take, drop, replicate, max}
use Rattle.paper.specs.View.{tasks_of}
use Rattle.theory.specs.Lasts.{lasts as lasts_of, highest}
use Rattle.places.proofs.start.Given as goal

abbrev pub invariant-loop-i : goal.invariant-loop-i
invariant-loop-i l =
    let ls = lasts_of (tasks_of l.fn.w.within.table) l.fn.w.window in
    record {
      lasts_are : l.lasts ≡ take l.i ls ++ drop l.i (replicate 16 0);
      place_is : max l.place (highest (drop l.i ls)) ≡ highest ls;
    }
