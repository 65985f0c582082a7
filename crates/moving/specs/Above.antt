-- The work above a time of the window: what the contracts of the walk over the tasks cite.
use Rattle.std.specs.Prelude.{ℕ, ◌+◌, ◌≤◌, ◌<◌, ◌≡◌, List, length, take}
use Rattle.std.specs.Int.{◌∣◌}
use Rattle.paper.specs.declared.Task.{Task}
use Rattle.paper.specs.declared.Table.{Table}
use Rattle.paper.specs.declared.Request.{Request}
use Rattle.paper.specs.Demand.{Good}
use Rattle.paper.specs.Places.{K}
use Rattle.paper.specs.Vectors.{sum, left_above, later_above, here, Y}
use Rattle.paper.specs.View.{request_lefts, tasks_of}
use Rattle.moving.specs.declared.Moment.{Moment}
use Rattle.moving.specs.declared.Moved.{Moved}

-- the work left of the requests of a table's tasks
abbrev pub lefts_of : Table → List Request → List ℕ
lefts_of t rs = request_lefts (take t.count rs)

-- the tasks of a moment, and the work left of their requests
abbrev pub tasks_at : Moment → List Task
tasks_at m = tasks_of m.checked.within.table

abbrev pub lefts_at : Moment → List ℕ
lefts_at m = lefts_of m.checked.within.table m.requests

-- a time k from the offset v on, in the window W
pub record From (W v k : ℕ) : Type 0 where
  pub inside : v < W
  pub not_before : v ≤ k
  pub not_after : k ≤ W
  pub short : W ≤ 30000

-- a task of a table that passes 1 to 3
pub record Fits (t : Task) (W : ℕ) : Type 0 where
  pub good : Good t
  pub divides : t.period ∣ W

-- one task's work above k, and how much it can be
pub record Added (t : Task) (l v W k r : ℕ) : Type 0 where
  pub is : r ≡ left_above t l v k + later_above t v W k
  pub most : r ≤ 110000

-- a lent vector that is K
pub record Places (m : Moment) (k : List ℕ) : Type 0 where
  pub is : k ≡ K (tasks_at m)
  pub few : length k ≤ 1024

-- the present place, and the idle slots that are left
abbrev pub moved_of : List Task → List ℕ → ℕ → Moved
moved_of ts ls v = record { here = here ts v; left = sum (Y ts ls v) }
