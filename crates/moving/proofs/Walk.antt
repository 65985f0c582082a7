-- A walk over the tasks of a table and their requests, from the last down: one task more in front.
use Prim.Native.Nat.{ℕ, zero, suc, ◌+◌, ◌-◌, ◌<◌}
use mathlib.Core.Path.{◌≡◌, refl, ap₂}
use mathlib.Core.List.{List, [], ◌∷◌}
use native.Mathlib.Omega.{arith}
use lib.ListN.{length, take, drop, get_or}
use Rattle.paper.specs.declared.Task.{Task}
use Rattle.paper.specs.declared.Table.{Table}
use Rattle.paper.specs.declared.Request.{Request}
use Rattle.paper.specs.Vectors.{left_above, later_above, above_moving}
use Rattle.paper.specs.View.{left_of, request_lefts, tasks_of, no_task, no_request}
use Rattle.theory.specs.Tables.{Divide}
use Rattle.theory.specs.WindowLaws.{window-divides}
use Rattle.theory.specs.Scan.{Left, from, from_before}
use Rattle.theory.specs.TasksDown.{good_before}
use Rattle.theory.specs.Ready.{Ready}
use Rattle.theory.specs.Lasts.{lower, lowered, periods}
use Rattle.moving.specs.Above.{Fits}
use Rattle.moving.specs.Passed.{passed_of, passed}

divide_drop : (i W : ℕ) (ts : List Task) → Divide ts W → Divide (drop i ts) W
divide_drop zero W ts d = d
divide_drop (suc i) W [] d = tt
divide_drop (suc i) W (t ∷ ts) d = divide_drop i W ts d.1

-- the task that is next on the walk
pub fits_before : (t : Table) (w i : ℕ) → Ready t w → Left t.tasks t.count i → Fits (get_or t.tasks (i - 1) no_task) w
unfolding tasks_of
fits_before t w i y h =
    let ts = take t.count t.tasks in
    let d : Divide ts w = rw y.is_window (window-divides ts) in
    let e = rw (from_before t.tasks t.count no_task i h) at (divide_drop (i - 1) w ts d) in
    record { good = (good_before t.tasks t.count i h y.good).0; divides = e.0 }

-- its work above k, and that of the tasks behind it
pub above_before : (xs : List Task) (rs : List Request) (n i v W k : ℕ) → Left xs n i → Left rs n i
    → left_above (get_or xs (i - 1) no_task) (left_of (get_or rs (i - 1) no_request).work) v k + later_above (get_or xs (i - 1) no_task) v W k
    + above_moving (from xs n i) (request_lefts (from rs n i)) v W k
    ≡ above_moving (from xs n (i - 1)) (request_lefts (from rs n (i - 1))) v W k
unfolding above_moving request_lefts
above_before xs rs n i v W k a b = rw (from_before xs n no_task i a, from_before rs n no_request i b)

-- one step down, of one task more
module _ (xs : List Task) (ds : List ℕ) (n i : ℕ) (h : Left xs n i) (h' : Left ds n i) (k : ℕ) where
  pub lowered-before : lowered k (periods (from xs n (i - 1))) (from ds n (i - 1))
      ≡ lower k (get_or xs (i - 1) no_task).period (get_or ds (i - 1) 0) ∷ lowered k (periods (from xs n i)) (from ds n i)
  unfolding periods lowered
  lowered-before = rw (from_before xs n no_task i h, from_before ds n 0 i h')

  pub passed-before : (ahead : ℕ) (ls : List ℕ) → Left ls n i → passed k ahead (from xs n (i - 1)) (from ls n (i - 1)) (from ds n (i - 1))
      ≡ passed_of k ahead (get_or xs (i - 1) no_task) (get_or ls (i - 1) 0) (get_or ds (i - 1) 0) + passed k ahead (from xs n i) (from ls n i) (from ds n i)
  unfolding passed
  passed-before ahead ls q = rw (from_before xs n no_task i h, from_before ls n 0 i q, from_before ds n 0 i h')

-- a list that has what is left of each request, place by place
pub lefts_from : (ys : List ℕ) (rs : List Request) → length ys ≡ length rs
    → ((i : ℕ) → i < length rs → get_or ys i 0 ≡ left_of (get_or rs i no_request).work) → ys ≡ request_lefts rs
unfolding request_lefts
lefts_from [] [] e h = refl
lefts_from [] (r ∷ rs) e h = absurd (omega arith)
lefts_from (y ∷ ys) [] e h = absurd (omega arith)
lefts_from (y ∷ ys) (r ∷ rs) e h =
    ap₂ (λ (x : ℕ) (xs : List ℕ). x ∷ xs) (h 0 (omega arith)) (lefts_from ys rs (omega arith) (λ i k. h (suc i) (omega arith)))
