-- A walk over the places from the last down: what its steps' contracts cite.
-- Each task's last deadline that is not passed yet, and what becomes of it, is in theory/Lasts.antt.
use Rattle.std.specs.Prelude.{ℕ, suc, ◌+◌, ◌*◌, ◌≤◌, ◌≡◌, List, [], ◌∷◌, ◌++◌, leb, eqb, length, take, drop}
use Rattle.paper.specs.declared.Task.{Task}
use Rattle.paper.specs.declared.Table.{Table}
use Rattle.paper.specs.Demand.{pick}
use Rattle.paper.specs.Places.{K}
use Rattle.paper.specs.Vectors.{sum, vec, above_moving}
use Rattle.paper.specs.View.{tasks_of}
use Rattle.theory.specs.Lasts.{periods, lowered}
use Rattle.moving.specs.declared.Moment.{Moment}
use Rattle.moving.specs.declared.Filled.{Filled}
use Rattle.moving.specs.declared.deadlines.Walk.{Walk}
use Rattle.moving.specs.Above.{tasks_at, lefts_at}

-- the work of a task's deadline at k, which lies `ahead` slots after v, if that is its last one: what is left of its present
-- request, which is due at most R slots after v, and C of a later one
abbrev pub passed_of : ℕ → ℕ → Task → ℕ → ℕ → ℕ
passed_of k ahead t left last = pick (eqb last k) (pick (leb ahead t.deadline) left t.work) 0

unfoldable pub passed : ℕ → ℕ → List Task → List ℕ → List ℕ → ℕ
passed k ahead [] ls ds = 0
passed k ahead (t ∷ ts) [] ds = 0
passed k ahead (t ∷ ts) (l ∷ ls) [] = 0
passed k ahead (t ∷ ts) (l ∷ ls) (d ∷ ds) = passed_of k ahead t l d + passed k ahead ts ls ds

-- the work above each time of the window
abbrev pub work_above : Moment → ℕ → ℕ
work_above m = above_moving (tasks_at m) (lefts_at m) m.v.0 m.checked.window

-- one step down, past the deadlines at k, of a table with its sixteen places
pub record Down (t : Table) (lefts : List ℕ) (ahead k : ℕ) (s r : Walk) : Type 0 where
  pub lowers : r.lasts ≡ lowered k (periods (tasks_of t)) (take t.count s.lasts) ++ drop t.count s.lasts
  pub adds : r.above ≡ passed k ahead (tasks_of t) (take t.count lefts) (take t.count s.lasts) + s.above
  pub most : r.above ≤ 16 * 65535 + s.above
  pub sixteen : length t.tasks ≡ 16

-- the entries after place h are put in: their sum, and the work above v
pub record After (m : Moment) (n h : ℕ) (y₀ y : List ℕ) (r : Filled) : Type 0 where
  pub sums : r.left ≡ sum (vec (work_above m) m.checked.window (drop (suc h) (K (tasks_at m))))
  pub above_v : r.above ≡ work_above m m.v.0
  pub most : r.above ≤ 1024 * (16 * 65535)
  pub filled : y ≡ take (suc h) y₀ ++ (vec (work_above m) m.checked.window (drop (suc h) (K (tasks_at m))) ++ drop n y₀)
