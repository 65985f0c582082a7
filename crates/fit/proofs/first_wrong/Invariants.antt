use mathlib.Core.Path.{◌≡◌}
use Prim.Native.Nat.{ℕ, ◌*◌, ◌≤◌}
use mathlib.Core.List.{List}
use lib.ListN.{drop}
use Rattle.paper.specs.declared.Task.{Task}
use Rattle.paper.specs.View.{jobs_of}
use Rattle.paper.specs.Refusals.{wrong_promise}
use Rattle.promise.specs.Holds.{HoldsInFront}
use Rattle.fit.proofs.first_wrong.Given as goal

abbrev pub invariant-loop-i : goal.invariant-loop-i
invariant-loop-i l =
    (l.work ≤ l.i * 30000)
    × ((ts : List Task) (ls : List ℕ) → HoldsInFront ts ls l.at.0 l.v
    → wrong_promise ts ls l.at.0 0 0 (jobs_of l.jobs) ≡ wrong_promise ts ls l.at.0 l.i l.work (jobs_of (drop l.i l.jobs)))
