-- Demand 3's plan: "gives each slot from now on to one unit of a request already released, of a waiting job or of the new one,
-- or leaves it idle; its order is free". Tasks, a task's requests and waiting jobs are numbered from 0.
use Rattle.std.specs.Prelude.{ℕ, zero, suc, ◌+◌, ◌*◌, ◌-◌, ◌≤◌, ◌<◌, ◌≡◌, Bool, true, false, ◌&&◌, List, ltb, eqb, get_or, Some, slice_get}
use Rattle.paper.specs.declared.Task.{Task}
use Rattle.paper.specs.Demand.{pick, present}
use Rattle.paper.specs.Window.{window, window_end}
use Rattle.paper.specs.View.{View}
use Rattle.paper.specs.Idle.{job_lefts}

-- whom a slot is given to: nobody; request r of task j; waiting job i; the new job
pub data Owner : Type 0 where
  idle : Owner
  request : ℕ → ℕ → Owner
  waiting : ℕ → Owner
  new : Owner

abbrev pub Plan : Type 0
Plan = ℕ → Owner

-- the tests: is this the owner?
unfoldable pub is_request : ℕ → ℕ → Owner → Bool
is_request j r idle = false
is_request j r (request i q) = eqb j i && eqb r q
is_request j r (waiting i) = false
is_request j r new = false

unfoldable pub is_waiting : ℕ → Owner → Bool
is_waiting i idle = false
is_waiting i (request j r) = false
is_waiting i (waiting k) = eqb i k
is_waiting i new = false

unfoldable pub is_new : Owner → Bool
is_new idle = false
is_new (request j r) = false
is_new (waiting i) = false
is_new new = true

-- how many of the n slots from a on pass the test; how many from a to below u the plan gives to owners that pass it
unfoldable pub count : (ℕ → Bool) → ℕ → ℕ → ℕ
count f a zero = 0
count f a (suc n) = pick (f a) 1 0 + count f (suc a) n

abbrev pub given : Plan → (Owner → Bool) → ℕ → ℕ → ℕ
given p test a u = count (λ s. test (p s)) a (u - a)

-- the work that request r has from now on: none before the present one, l of the present one, all of a later one
unfoldable pub work_of : Task → ℕ → ℕ → ℕ → ℕ
work_of t l now r = pick (ltb r (present t now)) 0 (pick (eqb r (present t now)) l t.work)

-- the plan p, from the view v on, is one for the new work w that ends at e
pub record Valid (ts : List Task) (v : View) (w : ℕ) (p : Plan) (e : ℕ) : Type 0 where
  pub ahead : v.now < e
  -- "of a request already released", of a task of the table
  pub released : (s j r : ℕ) → v.now ≤ s → p s ≡ request j r → (t : Task) × (slice_get ts j ≡ Some t) × (r * t.period ≤ s)
  -- nobody gets more than the work there is
  pub request_most : (j r u : ℕ) (t : Task) → slice_get ts j ≡ Some t
      → given p (is_request j r) v.now u ≤ work_of t (get_or v.lefts j 0) v.now r
  pub waiting_most : (i u : ℕ) → given p (is_waiting i) v.now u ≤ get_or (job_lefts v.jobs) i 0
  pub new_most : (u : ℕ) → given p is_new v.now u ≤ w
  -- "meets every periodic deadline to the end of the window holding that end"
  pub meets : (j r : ℕ) (t : Task) → slice_get ts j ≡ Some t → r * t.period + t.deadline ≤ window_end (window ts) e
      → work_of t (get_or v.lefts j 0) v.now r ≤ given p (is_request j r) v.now (r * t.period + t.deadline)
  -- "and has all earlier accepted jobs done by then"
  pub waiting_done : (i : ℕ) → get_or (job_lefts v.jobs) i 0 ≤ given p (is_waiting i) v.now e
  -- the end: the new job is done, and its last unit is done in the slot before e
  pub new_done : w ≤ given p is_new v.now e
  pub last : p (e - 1) ≡ new
