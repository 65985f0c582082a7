-- A walk over a table's tasks from the last down: the task that is next keeps its limits, and so do those behind it.
-- What a table asks for, with one task more in front.
use Rattle.std.specs.Prelude.{◌≡◌, List, [], ◌∷◌, ℕ, zero, suc, ◌+◌, ◌*◌, ◌-◌, take, drop, get_or}
use Rattle.paper.specs.declared.Task.{Task}
use Rattle.paper.specs.Demand.{Good, AllGood, dues, table_due}
use Rattle.paper.specs.View.{no_task}
use Rattle.theory.specs.Scan.{Left, from, from_before}

-- The tasks from i on are good.
pub good_drop : (i : ℕ) (ts : List Task) → AllGood ts → AllGood (drop i ts)
good_drop zero ts g = g
good_drop (suc i) [] g = tt
good_drop (suc i) (t ∷ ts) g = good_drop i ts g.1

module _ (xs : List Task) (n i : ℕ) (h : Left xs n i) where
  -- The task that is next is good, and so are those behind it.
  pub good_before : AllGood (take n xs) → Good (get_or xs (i - 1) no_task) × AllGood (from xs n i)
  good_before g = rw (from_before xs n no_task i h) at (good_drop (i - 1) (take n xs) g)

  -- What is due of one task more is its work and theirs.
  pub due-before : (u : ℕ) → (get_or xs (i - 1) no_task).work * dues (get_or xs (i - 1) no_task) u + table_due (from xs n i) u ≡ table_due (from xs n (i - 1)) u
  unfolding table_due
  due-before u = rw (from_before xs n no_task i h)
