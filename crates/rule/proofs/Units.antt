-- The one unit on the state's places is what the rule does to the view, and what the answer says is what was done.
use mathlib.Core.Path.{◌≡◌, refl, sym, ap, ◌∙◌}
use mathlib.Core.Bool.{Bool, true, false, cond}
use Rattle.std.specs.Prelude.{Some, slice_get}
use mathlib.Core.List.{List, [], ◌∷◌, ◌++◌}
use Prim.Native.Nat.{ℕ, zero, suc, ◌-◌, ◌≤◌, ◌<◌}
use native.Mathlib.Omega.{arith}
use lib.Dec.{leb, eqb, eqb-suc-zero}
use lib.ListN.{length, take, drop, get_or, set, length-set}
use lib.Seq.{get_or-take}
use Rattle.paper.specs.declared.Task.{Task}
use Rattle.paper.specs.declared.Table.{Table}
use Rattle.paper.specs.declared.Job.{Job as JobRecord}
use Rattle.paper.specs.declared.State.{State}
use Rattle.paper.specs.declared.Who.TheVariants.{Task as TaskOf, Job as JobOf}
use Rattle.paper.specs.View.{Job, View, left_of, jobs_of, view_of, state_of, no_request, no_job, tasks_of}
use Rattle.paper.specs.Rule.{Does, nothing, task, job, First, none_left, first-is, first, against, runs, after, onward, serve, runs_in, said}
use Rattle.theory.specs.RuleLaws.{Earliest, idles, runs-task, runs-job, runs-earliest}
use Rattle.theory.specs.States.{Shape, KeptJobs, put_jobs, with_jobs, left_at, record_of, shaped_left, shaped_drop, shaped_change}
use Rattle.theory.specs.Padded.{AllAre}
use Rattle.rule.specs.Owner.{oldest_of, owner_of, does_of}
use Rattle.rule.specs.Unit.{moved_up, dropped_oldest, unit_of, CanRun}

-- ---- the owner is what the paper says of the choice

said-cond : (b : Bool) (i : ℕ) (j : Job) (js : List Job)
    → cond b (JobOf (record { 0 = j.promise })) (TaskOf (suc i)) ≡ said (cond b job (task i)) (j ∷ js)
unfolding said
said-cond true i j js = refl
said-cond false i j js = refl

owner_said : (f : First) (js : List Job) → owner_of f (oldest_of js) ≡ said (against f js) js
unfolding said
owner_said none_left [] = refl
owner_said none_left (j ∷ js) = refl
owner_said (first-is i d) [] = refl
owner_said (first-is i d) (j ∷ js) = said-cond (leb j.promise d) i j js

pub owner_runs : (ts : List Task) (v : View) → owner_of (first ts v.lefts v.now) (oldest_of v.jobs) ≡ said (runs_in ts v) v.jobs
unfolding runs
owner_runs ts v = owner_said (first ts v.lefts v.now) v.jobs

-- ---- and the choice is what the answer says

does_said : {ts : List Task} {ls : List ℕ} {now : ℕ} {js : List Job} {k : Does} → Earliest ts ls now js k → does_of (said k js) ≡ k
unfolding said
does_said (idles c) = refl
does_said (runs-task j t e w u a) = let q : suc j - 1 ≡ j = omega arith in ap (λ (n : ℕ). task n) q
does_said (runs-job u) = refl

pub does_back : (ts : List Task) (v : View) → does_of (said (runs_in ts v) v.jobs) ≡ runs_in ts v
does_back ts v = does_said (runs-earliest ts v.lefts v.now v.jobs)

-- ---- the unit

-- the view after one unit, before now rises
abbrev pub halfway : Does → View → View
halfway k v = record { now = v.now; lefts = after k v.lefts; jobs = serve k v.jobs; given = v.given; idle = v.idle }

abbrev both : View → List ℕ → List Job → View
both v ls js = record { now = v.now; lefts = ls; jobs = js; given = v.given; idle = v.idle }

after-length : (k : Does) (ls : List ℕ) → length (after k ls) ≡ length ls
unfolding after
after-length nothing ls = refl
after-length (task j) ls = length-set ls j (get_or ls j 0 - 1)
after-length job ls = refl

onward-length : (n p : ℕ) (js : List Job) → length (onward n p js) ≤ suc (length js)
unfolding onward
onward-length zero p js = omega arith
onward-length (suc n) p js = omega arith

serve-length : (k : Does) (js : List Job) → length (serve k js) ≤ length js
unfolding serve
serve-length nothing js = omega arith
serve-length (task j) js = omega arith
serve-length job [] = omega arith
serve-length job (j ∷ js) = onward-length (j.left - 1) j.promise js

at_task : (ts : List Task) (j : ℕ) (t : Task) → slice_get ts j ≡ Some t → j < length ts
at_task [] j t e = let z : ◌≡◌ {A = ℕ} 0 1 = cc in absurd (omega arith)
at_task (x ∷ ts) zero t e = omega arith
at_task (x ∷ ts) (suc j) t e = omega (arith, at_task ts j t e)

-- with the other places clear, all move up
clear_end : {A : Type 0} (l : List A) (n : ℕ) (z : A) → AllAre z (drop n l) → take n l ++ (z ∷ drop n l) ≡ l ++ (z ∷ [])
clear_end [] zero z a = refl
clear_end [] (suc n) z a = refl
clear_end {A} (x ∷ l) zero z a = rw a.0 (ap (λ (r : List A). z ∷ r) (clear_end l zero z a.1))
clear_end {A} (x ∷ l) (suc n) z a = ap (λ (r : List A). x ∷ r) (clear_end l n z a)

all_moved : (js : List JobRecord) (n : ℕ) → 1 ≤ n → 1 ≤ length js → AllAre no_job (drop n js) → moved_up js (n - 1) ≡ drop 1 js ++ (no_job ∷ [])
all_moved [] n h k a = absurd (omega arith)
all_moved (j ∷ js) zero h k a = absurd (omega arith)
all_moved (j ∷ js) (suc n) h k a = let e : suc n - 1 ≡ n = omega arith in rw e (clear_end js n no_job a)

module _ {t : Table} {s : State} (h : Shape t s) (many : length (tasks_of t) ≡ t.count) where
  left_is : (j : ℕ) → j < t.count → get_or (view_of t.count s).lefts j 0 ≡ left_of (get_or s.requests j no_request).work
  unfolding view_of
  left_is j k = left_at (take t.count s.requests) j ∙ rw (get_or-take t.count s.requests j no_request k)

  oldest_is : (x : Job) (js : List Job) → (view_of t.count s).jobs ≡ x ∷ js → record_of x ≡ get_or s.jobs 0 no_job
  unfolding view_of jobs_of
  oldest_is x js e = go s.waiting s.jobs e
    where
      go : (n : ℕ) (rs : List JobRecord) → jobs_of (take n rs) ≡ x ∷ js → record_of x ≡ get_or rs 0 no_job
      go zero rs q = let z : ◌≡◌ {A = ℕ} 0 1 = cc in absurd (omega arith)
      go (suc n) [] q = let z : ◌≡◌ {A = ℕ} 0 1 = cc in absurd (omega arith)
      go (suc n) (r ∷ rs) q = let p : x ≡ record { left = r.left; promise = r.promise.0 } = cc in rw p refl

  -- one unit of a request
  unit_task : (j : ℕ) (js : List Job) → (view_of t.count s).jobs ≡ js → j < t.count
      → unit_of (TaskOf (suc j)) s ≡ state_of (both (view_of t.count s) (after (task j) (view_of t.count s).lefts) js)
  unfolding after
  unit_task j js q k =
      let v = view_of t.count s in
      let l = get_or v.lefts j 0 - 1 in
      let e : suc j - 1 ≡ j = omega arith in
      rw (e, ← left_is j k, ← q) (sym (shaped_left h j l k))

  -- one unit of the oldest job
  served : (x : Job) (js : List Job) → (view_of t.count s).jobs ≡ x ∷ js → (n : ℕ)
      → cond (eqb n 0) (dropped_oldest s) (put_jobs s (set s.jobs 0 (record { left = n; promise = record { 0 = x.promise } })) s.waiting)
      ≡ state_of (with_jobs (view_of t.count s) (onward n x.promise js))
  unfolding onward
  served x js q zero =
      let n = h.many_jobs in
      let m = ap length q in
      sym (shaped_drop h x js q ∙ ap (λ (l : List JobRecord). put_jobs s l (s.waiting - 1)) (sym (all_moved s.jobs s.waiting (omega arith) (omega (arith, h.arrays.jobs)) h.places.no_job_lem)))
  served x js q (suc n) = rw (eqb-suc-zero n) (sym (shaped_change h x js q (record { left = suc n; promise = x.promise })))

  unit_job : (x : Job) (js : List Job) → (view_of t.count s).jobs ≡ x ∷ js
      → unit_of (JobOf (record { 0 = x.promise })) s ≡ state_of (with_jobs (view_of t.count s) (serve job (x ∷ js)))
  unfolding serve
  unit_job x js q = rw (← oldest_is x js q) (served x js q (x.left - 1))

  unit_cases : (js : List Job) → (view_of t.count s).jobs ≡ js → {k : Does}
      → Earliest (tasks_of t) (view_of t.count s).lefts (view_of t.count s).now js k
      → unit_of (said k js) s ≡ state_of (both (view_of t.count s) (after k (view_of t.count s).lefts) (serve k js))
  unfolding said after serve
  unit_cases [] q (idles c) = sym (ap (λ (l : List Job). state_of (with_jobs (view_of t.count s) l)) (sym q) ∙ h.whole)
  unit_cases js q (runs-task j x e w u a) = unit_task j js q (omega (arith, at_task (tasks_of t) j x e))
  unit_cases (x ∷ js) q (runs-job u) = unit_job x js q

  runs-now : Earliest (tasks_of t) (view_of t.count s).lefts (view_of t.count s).now (view_of t.count s).jobs (runs_in (tasks_of t) (view_of t.count s))
  runs-now = let v = view_of t.count s in runs-earliest (tasks_of t) v.lefts v.now v.jobs

  -- THE UNIT: the state's places after it hold the view after it
  pub unit_is : unit_of (said (runs_in (tasks_of t) (view_of t.count s)) (view_of t.count s).jobs) s
      ≡ state_of (halfway (runs_in (tasks_of t) (view_of t.count s)) (view_of t.count s))
  unit_is = unit_cases (view_of t.count s).jobs refl runs-now

  -- ---- and there is one to do

  can_cases : (js : List Job) → (view_of t.count s).jobs ≡ js → {k : Does}
      → Earliest (tasks_of t) (view_of t.count s).lefts (view_of t.count s).now js k → CanRun (said k js) s
  unfolding said
  can_cases [] q (idles c) = tt
  can_cases js q (runs-task j x e w u a) =
      let i : suc j - 1 ≡ j = omega arith in
      let few = h.places.few in
      let k : j < t.count = omega (arith, at_task (tasks_of t) j x e) in
      (omega arith, omega arith, rw (i, ← left_is j k) w)
  can_cases (x ∷ js) q (runs-job u) =
      let n = h.many_jobs in
      let m = ap length q in
      let kept : KeptJobs 0 (x ∷ js) = rw q at h.jobs in
      (omega arith, h.few, rw (← oldest_is x js q) kept.0.some_left)

  pub can_run : CanRun (said (runs_in (tasks_of t) (view_of t.count s)) (view_of t.count s).jobs) s
  can_run = can_cases (view_of t.count s).jobs refl runs-now

  -- the numbers of lefts and jobs after it
  pub halfway_lefts : length (halfway (runs_in (tasks_of t) (view_of t.count s)) (view_of t.count s)).lefts ≡ t.count
  halfway_lefts =
      let v = view_of t.count s in
      after-length (runs_in (tasks_of t) v) v.lefts ∙ h.many_lefts

  pub halfway_jobs : length (halfway (runs_in (tasks_of t) (view_of t.count s)) (view_of t.count s)).jobs ≤ 8
  halfway_jobs =
      let v = view_of t.count s in
      omega (arith, serve-length (runs_in (tasks_of t) v) v.jobs, h.many_jobs, h.few)
