-- How much work can be due in a window, so that the sums fit; and what is due by a time and above it, of a table that passes 1 to 3.
use Rattle.std.specs.Prelude.{◌≡◌, List, [], ◌∷◌, ℕ, ◌+◌, ◌*◌, ◌-◌, ◌≤◌, length, take}
use Rattle.std.proofs.Math.Nat.{div-mul-le_self}
use Rattle.std.proofs.Common.{mul-le-mul_right, mul_comm, arith, length-drop}
use Rattle.std.proofs.Math.ListN.{length-take}
use Rattle.paper.specs.declared.Task.{Task}
use Rattle.paper.specs.declared.Table.{Table}
use Rattle.paper.specs.Demand.{Good, AllGood, dues, table_due}
use Rattle.paper.specs.Vectors.{above_static}
use Rattle.paper.specs.View.{tasks_of}
use Rattle.theory.specs.Tables.{Divide, table_split}
use Rattle.theory.specs.WindowLaws.{window-divides}
use Rattle.theory.specs.Ready.{Ready}
use Rattle.theory.specs.Scan.{from}

module _ (t : Task) (g : Good t) (k : ℕ) (h : k ≤ 30000) where
  -- The deadlines of a task in a window span at most 40,000 slots.
  pub periods-most : dues t k * t.period ≤ 40000
  unfolding dues
  periods-most = omega (arith, div-mul-le_self (k + (t.period - t.deadline)) t.period)

  -- So its work there is at most 40,000.
  pub due-most : t.work * dues t k ≤ 40000
  due-most =
      omega (
        arith,
        periods-most,
        mul-le-mul_right (dues t k) g.fits,
        mul-le-mul_right (dues t k) g.before_next,
        mul_comm (dues t k) t.period,
      )

-- The work of a table there is at most 40,000 a task.
pub table_most : (ts : List Task) (k : ℕ) → AllGood ts → k ≤ 30000 → table_due ts k ≤ length ts * 40000
unfolding table_due
table_most [] k g h = omega arith
table_most (t ∷ ts) k g h = omega (arith, due-most t g.0 k h, table_most ts k g.1 h)

-- What is left of a walk over n elements is at most n.
pub from_length : {A : Type 0} (xs : List A) (n i : ℕ) → length (from xs n i) ≤ n
from_length xs n i = omega (arith, length-drop i (take n xs), length-take n xs)

module _ (t : Table) (w k : ℕ) (y : Ready t w) (h : k ≤ w) where
  -- The work of a table that passes 1 to 3 is at most 640,000 in a window.
  pub ready_most : table_due (tasks_of t) k ≤ 640000
  unfolding tasks_of
  ready_most = omega (arith, table_most (tasks_of t) k y.good (omega (arith, y.short)), length-take t.count t.tasks, y.few)

  -- What is due by k and what lies above k make up the window's work.
  pub due-above : table_due (tasks_of t) k + above_static (tasks_of t) w k ≡ table_due (tasks_of t) w
  due-above =
      let ts = tasks_of t in
      let d : Divide ts w = rw y.is_window (window-divides ts) in
      table_split w ts k y.good d h
