-- The rule run on from a sound view, with no later arrivals, is a run that misses no deadline, and by the time that every promise
-- has come it has done every unit of the jobs. So the new job's plan is met by the promise.
use Prim.Native.Nat.{ℕ, zero, suc, ◌+◌, ◌-◌, ◌≤◌, ◌<◌}
use Rattle.std.specs.Prelude.{◌≡◌, Bool, true, false, List, [], ◌∷◌, ◌++◌, get_or, Some, slice_get}
use Rattle.std.proofs.Math.Path.{refl, ap}
use Rattle.std.proofs.Common.{◌∙◌, le_refl}
use Rattle.std.proofs.lemmas.Bool.{false≢true}
use native.Mathlib.Omega.{arith}
use Rattle.std.proofs.Math.Nat.{sub_self, add-sub_cancel_left}
use Rattle.paper.specs.declared.Task.{Task}
use Rattle.paper.specs.Demand.{pick, AllGood}
use Rattle.paper.specs.Vectors.{sum, F}
use Rattle.paper.specs.View.{Job, View}
use Rattle.paper.specs.Idle.{job_lefts, need, promise_of}
use Rattle.paper.specs.Rule.{Does, nothing, task, job, onward, serve, after, enter, runs_in, doing, next}
use Rattle.paper.specs.Plan.{Plan, count, Valid}
use Rattle.paper.specs.Calls.{admitted}
use Rattle.theory.specs.Tables.{done_by}
use Rattle.demands.specs.Room.{Feasible, Room, room_late}
use Rattle.theory.specs.RuleLaws.{Earliest, idles, runs-task, runs-job}
use Rattle.demands.specs.SlotKeeps.{Promised, fits_after, met}
use Rattle.demands.specs.SoundViews.{Sound, sound_slot, sound_admit, earliest_in, promise-is}
use Rattle.demands.specs.PlanBound.{plan_room}
use Rattle.demands.specs.RunIsPlan.{does_job, count-last, jobs_before, plan_of, Run, run_plan}

-- ---- the jobs' units

onward-sum : (n p : ℕ) (js : List Job) → sum (job_lefts (onward n p js)) ≡ n + sum (job_lefts js)
unfolding onward job_lefts sum
onward-sum zero p js = omega arith
onward-sum (suc n) p js = refl

serve-sum : {ts : List Task} {ls : List ℕ} {now : ℕ} {js : List Job} {k : Does} → Earliest ts ls now js k
    → Promised (Room ts ls now) 0 js
    → sum (job_lefts (serve k js)) + pick (does_job k) 1 0 ≡ sum (job_lefts js)
unfolding serve does_job job_lefts sum
serve-sum (idles c) ps = refl
serve-sum (runs-task j t i w a d) ps = omega arith
serve-sum (runs-job {x} {jobs} a) ps = omega (arith, ps.0, onward-sum (x.left - 1) x.promise jobs)

-- all promises are at p or before
abbrev Within : ℕ → List Job → Type 0
Within p [] = Unit {0}
Within p (j ∷ js) = (j.promise ≤ p) × Within p js

within_onward : (p n q : ℕ) (js : List Job) → q ≤ p → Within p js → Within p (onward n q js)
unfolding onward
within_onward p zero q js h r = r
within_onward p (suc n) q js h r = (h, r)

within_serve : (p : ℕ) (k : Does) (js : List Job) → Within p js → Within p (serve k js)
unfolding serve
within_serve p nothing js h = h
within_serve p (task i) js h = h
within_serve p job [] h = h
within_serve p job (j ∷ js) h = within_onward p (j.left - 1) j.promise js h.0 h.1

-- where there is room for all jobs before p, all promises are at p or before
promised_within : (ts : List Task) (ls : List ℕ) (now n p : ℕ) (js : List Job) → Promised (Room ts ls now) n js
    → Room ts ls now p (n + sum (job_lefts js)) → Within p js
unfolding job_lefts sum
promised_within ts ls now n p [] ps r = tt
promised_within ts ls now n p (j ∷ js) ps r = (
  ps.1.least p (λ u h. omega (arith, r u h)),
  promised_within ts ls now (n + j.left) p js ps.2 (λ u h. omega (arith, r u h)),
)

-- when they have come, no job waits
none_wait : (ts : List Task) (ls : List ℕ) (now n : ℕ) (js : List Job) → Promised (Room ts ls now) n js → Within now js
    → sum (job_lefts js) ≡ 0
unfolding job_lefts sum
none_wait ts ls now n [] ps h = refl
none_wait ts ls now n (j ∷ js) ps h = absurd (omega (arith, ps.0, h.0, room_late ts ls now j.promise (n + j.left) ps.1.room))

sum-append : (js : List Job) (x : Job) → sum (job_lefts (js ++ (x ∷ []))) ≡ sum (job_lefts js) + x.left
unfolding job_lefts sum
sum-append [] x = omega arith
sum-append (j ∷ js) x = omega (arith, sum-append js x)

-- where the count over n slots comes to `all`, it does so at a slot that passes
full : (f : ℕ → Bool) (a n all : ℕ) → 1 ≤ all → count f a n ≡ all
    → (m : ℕ) × (m < n) × (f (a + m) ≡ true) × (count f a (suc m) ≡ all)
unfolding count
full f a zero all h e = absurd (omega arith)
full f a (suc n) all h e = go (f (a + n)) refl (full f a n all h)
  where
    go : (b : Bool) → f (a + n) ≡ b
        → (count f a n ≡ all → (m : ℕ) × (m < n) × (f (a + m) ≡ true) × (count f a (suc m) ≡ all))
        → (m : ℕ) × (m < suc n) × (f (a + m) ≡ true) × (count f a (suc m) ≡ all)
    go true p before = (n, le_refl (suc n), p, e)
    go false p before =
        let x = before (omega (arith, e, rw p at (count-last f a n))) in
        (x.0, omega (arith, x.1), x.2, x.3)

does_job_lem : (k : Does) → does_job k ≡ true → k ≡ job
unfolding does_job
does_job_lem nothing e = absurd (false≢true e)
does_job_lem (task j) e = absurd (false≢true e)
does_job_lem job e = refl

-- ---- the run

earliest_task : {ts : List Task} {ls : List ℕ} {now : ℕ} {js : List Job} {k : Does} → Earliest ts ls now js k → (j : ℕ) → k ≡ task j
    → (t : Task) × (slice_get ts j ≡ Some t) × (1 ≤ get_or ls j 0)
earliest_task (idles c) j e = let z : ◌≡◌ {A = ℕ} 0 1 = cc in absurd (omega arith)
earliest_task {ls = ls} (runs-task i t q w a d) j e = let s : i ≡ j = cc in (t, rw s at q, rw s at w)
earliest_task (runs-job a) j e = let z : ◌≡◌ {A = ℕ} 0 1 = cc in absurd (omega arith)

-- the view after n slots
unfoldable pub run_on : List Task → View → ℕ → View
run_on ts a zero = a
run_on ts a (suc n) = next ts (run_on ts a n)

now_on : (ts : List Task) (a : View) (n : ℕ) → (run_on ts a n).now ≡ a.now + n
unfolding run_on next doing
now_on ts a zero = omega arith
now_on ts a (suc n) = omega (arith, now_on ts a n)

module _ (ts : List Task) (good : AllGood ts) (feasible : Feasible ts) (a : View) (s₀ : Sound ts a) where
  sound_on : (n : ℕ) → Sound ts (run_on ts a n)
  unfolding run_on
  sound_on zero = s₀
  sound_on (suc n) = sound_slot ts good feasible (run_on ts a n) (sound_on n)

  does : ℕ → Does
  does n = runs_in ts (run_on ts a n)

  rule : (n : ℕ) → Earliest ts (run_on ts a n).lefts (run_on ts a n).now (run_on ts a n).jobs (does n)
  unfolding does
  rule n = earliest_in ts good feasible (run_on ts a n)

  -- by slots from power-on
  lefts_at : ℕ → List ℕ
  lefts_at s = (run_on ts a (s - a.now)).lefts

  does_at : ℕ → Does
  does_at s = does (s - a.now)

  back : (s : ℕ) → a.now ≤ s → (run_on ts a (s - a.now)).now ≡ s
  back s h = omega (arith, now_on ts a (s - a.now))

  lefts_next : (n : ℕ) → (run_on ts a (suc n)).lefts ≡ enter ts (suc (run_on ts a n).now) (after (does n) (run_on ts a n).lefts)
  unfolding run_on next doing does
  lefts_next n = refl

  run : Run ts a.now lefts_at does_at
  unfolding lefts_at does_at
  run = record {
    unfinished = λ s j h e. earliest_task (rule (s - a.now)) j e;
    next = λ s h.
        let n : suc s - a.now ≡ suc (s - a.now) = omega arith in
        ap (λ m. (run_on ts a m).lefts) n ∙ (rw (back s h) at (lefts_next (s - a.now)));
    in_time = λ s h.
        let x = run_on ts a (s - a.now) in
        rw (back s h) at (done_by ts x.lefts x.now x.now (omega (arith, (sound_on (s - a.now)).held.fits x.now (omega arith))));
    timely = λ s h.
        let n = s - a.now in
        let x = run_on ts a n in
        rw (back s h) at (met ts good (after (does n) x.lefts) x.now (fits_after ts good feasible x.lefts x.now (sound_on n).held (rule n)));
  }

  lefts_start : lefts_at a.now ≡ a.lefts
  unfolding lefts_at run_on
  lefts_start = ap (λ n. (run_on ts a n).lefts) (sub_self a.now)

  jobs_next : (n : ℕ) → (run_on ts a (suc n)).jobs ≡ serve (does n) (run_on ts a n).jobs
  unfolding run_on next doing does
  jobs_next n = refl

  does_is : (n : ℕ) → does_at (a.now + n) ≡ does n
  unfolding does_at
  does_is n = ap does (add-sub_cancel_left a.now n)

  jobs_left : (n : ℕ) → sum (job_lefts (run_on ts a n).jobs) + count (λ s. does_job (does_at s)) a.now n ≡ sum (job_lefts a.jobs)
  unfolding run_on count
  jobs_left zero = omega arith
  jobs_left (suc n) =
      omega (
        arith,
        ap (λ js. sum (job_lefts js)) (jobs_next n),
        jobs_left n,
        rw (does_is n) at (count-last (λ s. does_job (does_at s)) a.now n),
        serve-sum (rule n) (sound_on n).held.kept,
      )

  within_on : (p : ℕ) → Within p a.jobs → (n : ℕ) → Within p (run_on ts a n).jobs
  unfolding run_on
  within_on p h zero = h
  within_on p h (suc n) = rw (jobs_next n) (within_serve p (does n) (run_on ts a n).jobs (within_on p h n))

  -- when every promise has come, every unit of the jobs has been done
  jobs_all : (n : ℕ) → Within (a.now + n) a.jobs → count (λ s. does_job (does_at s)) a.now n ≡ sum (job_lefts a.jobs)
  jobs_all n h =
      let x = run_on ts a n in
      omega (arith, jobs_left n, none_wait ts x.lefts x.now 0 x.jobs (sound_on n).held.kept (rw (now_on ts a n) (within_on (a.now + n) h n)))

-- ---- the plan that ends at the promise

module _ (ts : List Task) (good : AllGood ts) (feasible : Feasible ts) (v : View) (s : Sound ts v) (w : ℕ) (h : 1 ≤ w) (f : 1 ≤ F ts) where
  -- no plan ends before it
  pub none_earlier : (p : Plan) (e : ℕ) → Valid ts v w p e → promise_of ts v w ≤ e
  none_earlier p e ok = (promise-is ts good feasible v w s h f).least e (plan_room ts good v w p e ok feasible)

  -- A plan ends there: the run of the rule.
  pub plan_at : (p : Plan) × Valid ts v w p (promise_of ts v w)
  unfolding jobs_before
  plan_at =
      let a = admitted ts v w in
      let t = promise_of ts v w in
      let x : Job = record { left = w; promise = t } in
      let sa = sound_admit ts good feasible v w s h f in
      let l = promise-is ts good feasible v w s h f in
      let K = does_at ts good feasible a sa in
      let total : sum (job_lefts (v.jobs ++ (x ∷ []))) ≡ need v w = sum-append v.jobs x in
      let forth : v.now + (t - v.now) ≡ t = omega (arith, room_late ts v.lefts v.now t (need v w) l.room) in
      let come : Within (v.now + (t - v.now)) a.jobs =
      rw forth (promised_within ts v.lefts v.now 0 t a.jobs sa.held.kept (λ u k. omega (arith, total, l.room u k))) in
      let all = jobs_all ts good feasible a sa (t - v.now) come ∙ total in
      let end = full (λ s. does_job (K s)) v.now (t - v.now) (need v w) (omega arith) all in
      let e = suc (v.now + end.0) in
      let before : e - 1 ≡ v.now + end.0 = omega arith in
      let long : e - v.now ≡ suc end.0 = omega arith in
      let ok : Valid ts v w (plan_of ts v.now (job_lefts v.jobs) w K) e =
      run_plan ts good v w e (lefts_at ts good feasible a sa) K (run ts good feasible a sa) (lefts_start ts good feasible a sa) h (omega arith)
      (rw before (does_job_lem (K (v.now + end.0)) end.2)) (rw long end.3) in
      let there : e ≡ t = omega (arith, end.1, none_earlier (plan_of ts v.now (job_lefts v.jobs) w K) e ok) in
      (plan_of ts v.now (job_lefts v.jobs) w K, rw there at ok)
