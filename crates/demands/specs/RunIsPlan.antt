-- A run that misses no deadline is a plan: what falls by one with each slot given falls by the slots given.
-- L s is what is left of each task's present request at time s, and K s what slot s does.
use Rattle.std.specs.Prelude.{ℕ, zero, suc, ◌+◌, ◌*◌, ◌-◌, ◌/◌, ◌%◌, ◌≤◌, ◌<◌, ◌≡◌, refl, ◌≢◌, Bool, true, false, ◌&&◌, List, [], ◌∷◌, eqb, set, Some}
use Rattle.std.proofs.Common.{sym, ◌∙◌, inl, inr, true≢false, arith, add-one, zero-add, add-zero, add-suc, suc-add, le_refl, div-mul-le_self}
use Rattle.std.proofs.Common.{le-div_iff_mul-le, eq-eqb, ne_eqb}
use Rattle.std.proofs.Math.Path.{ap}
use Rattle.std.proofs.Math.Bool.{and-true, and-false}
use Rattle.std.proofs.Math.Nat.{sub-zero, zero-sub, sub_self}
use Rattle.std.proofs.Math.Dec.{eqb-zero-suc, eqb-suc-zero, eqb-suc-suc}
use Rattle.std.specs.Prelude.{slice_get}
use Rattle.std.proofs.Math.ListN.{get_or}
use Rattle.paper.specs.declared.Task.{Task}
use Rattle.paper.specs.Demand.{pick, Good, AllGood, present, deadline_at}
use Rattle.paper.specs.Vectors.{sum}
use Rattle.paper.specs.View.{View}
use Rattle.paper.specs.Idle.{job_lefts}
use Rattle.paper.specs.Rule.{Does, nothing, task, job, after, enter}
use Rattle.paper.specs.Plan.{Owner, idle, request, Plan, is_request, is_waiting, is_new, count, given, work_of, Valid}
use Rattle.theory.specs.Counting.{test, Tick, starts, goes_on, tick, period_pos}
use Rattle.theory.specs.Tables.{good_at, DoneBy}
use Rattle.demands.specs.JobUnits.{job_owner, drain, drain_none, drain_all, job_request, waiting_step, new_step, job_new}
use Rattle.demands.specs.PlanBound.{work_of-before, work_of-present, work_of-later}

-- ---- what falls by one with each slot that passes the test falls by their count

-- What falls by one in each slot that passes the test, and else stays, falls by as many as pass.
pub falls : (f : ℕ → Bool) (left : ℕ → ℕ) (a n : ℕ) → ((s : ℕ) → a ≤ s → pick (f s) 1 0 + left (suc s) ≡ left s)
    → count f a n + left (a + n) ≡ left a
unfolding count
falls f left a zero h = simp (add-zero, zero-add)
falls f left a (suc n) h =
    simp add-suc (omega (arith, h a (le_refl a), simp suc-add at (falls f left (suc a) n (λ s i. h s (omega arith)))))

-- A count over one slot more has that slot more.
pub count-last : (f : ℕ → Bool) (a n : ℕ) → count f a (suc n) ≡ count f a n + pick (f (a + n)) 1 0
unfolding count
count-last f a zero = simp add-zero (omega arith)
count-last f a (suc n) = simp add-suc (omega (arith, simp suc-add at (count-last f (suc a) n)))

-- ---- two numbers in order

-- less, equal or more
pub data Order (a b : ℕ) : Type 0 where
  less : a < b → Order a b
  same : a ≡ b → Order a b
  more : b < a → Order a b

order : (a b : ℕ) → Order a b
order a b = elim (test a b) [
  | inl y ↦ elim (test b a) [ inl z ↦ same (omega arith) | inr n ↦ less n.1 ]
  | inr n ↦ more n.1
]

-- ---- one task

work_of-at : (t : Task) (l now r : ℕ) → r ≡ present t now → work_of t l now r ≡ l
work_of-at t l now r e = rw e (work_of-present t l now)

bit_at : (b : Bool) (r q : ℕ) → r ≡ q → pick (b && eqb r q) 1 0 ≡ pick b 1 0
bit_at b r q e = rw (eq-eqb r q e, and-true)

bit_off : (b : Bool) (r q : ℕ) → r ≢ q → pick (b && eqb r q) 1 0 ≡ 0
bit_off b r q e = rw (ne_eqb r q e, and-false)

-- the work of request r from s on is one more than from s + 1 on if the slot does a unit of it, and else the same:
-- l is left before the slot, m after it, and n when the releases are in
work_step : (t : Task) → Good t → (l m n s r : ℕ) (b : Bool) → m + pick b 1 0 ≡ l → (deadline_at t s ≤ suc s → m ≡ 0)
    → n ≡ pick (eqb (suc s % t.period) 0) t.work m
    → pick (b && eqb r (present t s)) 1 0 + work_of t n (suc s) r ≡ work_of t l s r
unfolding present deadline_at
work_step t g l m n s r b unit done e = go (tick t.period s (period_pos t g)) (order r (present t s)) (order r (present t (suc s)))
  where
    go : Tick t.period s → Order r (present t s) → Order r (present t (suc s))
        → pick (b && eqb r (present t s)) 1 0 + work_of t n (suc s) r ≡ work_of t l s r
    go (starts z q a) (less i) o =
        omega (arith, bit_off b r (present t s) (omega arith), work_of-before t l s r i, work_of-before t n (suc s) r (omega arith))
    go (starts z q a) (same i) o =
        omega (arith, bit_at b r (present t s) i, done (omega arith), work_of-at t l s r i, work_of-before t n (suc s) r (omega arith))
    go (starts z q a) (more i) (less k) = absurd (omega arith)
    go (starts z q a) (more i) (same k) =
        omega (arith, bit_off b r (present t s) (omega arith), work_of-later t l s r i, work_of-at t n (suc s) r k, rw z at e)
    go (starts z q a) (more i) (more k) =
        omega (arith, bit_off b r (present t s) (omega arith), work_of-later t l s r i, work_of-later t n (suc s) r k)
    go (goes_on z q a) (less i) o =
        omega (arith, bit_off b r (present t s) (omega arith), work_of-before t l s r i, work_of-before t n (suc s) r (omega arith))
    go (goes_on z q a) (same i) o =
        omega (arith, bit_at b r (present t s) i, work_of-at t l s r i, work_of-at t n (suc s) r (omega arith), rw (ne_eqb (suc s % t.period) 0 z) at e)
    go (goes_on z q a) (more i) o =
        omega (arith, bit_off b r (present t s) (omega arith), work_of-later t l s r i, work_of-later t n (suc s) r (omega arith))

-- ---- the lefts, task by task

does_task : ℕ → Does → Bool
does_task j nothing = false
does_task j (task i) = eqb j i
does_task j job = false

unit_set : (ls : List ℕ) (k j : ℕ) → 1 ≤ get_or ls k 0 → get_or (set ls k (get_or ls k 0 - 1)) j 0 + pick (eqb j k) 1 0 ≡ get_or ls j 0
unit_set [] k j h = omega arith
unit_set (l ∷ ls) zero zero h = omega arith
unit_set (l ∷ ls) zero (suc j) h = rw eqb-suc-zero (omega arith)
unit_set (l ∷ ls) (suc k) zero h = rw eqb-zero-suc (omega arith)
unit_set (l ∷ ls) (suc k) (suc j) h = rw eqb-suc-suc (unit_set ls k j h)

unit_at : (k : Does) (ls : List ℕ) (j : ℕ) → ((i : ℕ) → k ≡ task i → 1 ≤ get_or ls i 0)
    → get_or (after k ls) j 0 + pick (does_task j k) 1 0 ≡ get_or ls j 0
unfolding after does_task
unit_at nothing ls j h = omega arith
unit_at (task k) ls j h = unit_set ls k j (h k refl)
unit_at job ls j h = omega arith

enter-at : (ts : List Task) (s : ℕ) (ls : List ℕ) (j : ℕ) (t : Task) → slice_get ts j ≡ Some t
    → get_or (enter ts s ls) j 0 ≡ pick (eqb (s % t.period) 0) t.work (get_or ls j 0)
unfolding enter
enter-at [] s ls j t e = cc
enter-at (x ∷ ts) s [] zero t e = let h : x ≡ t = cc in rw h
enter-at (x ∷ ts) s (l ∷ ls) zero t e = let h : x ≡ t = cc in rw h
enter-at (x ∷ ts) s [] (suc j) t e = enter-at ts s [] j t e
enter-at (x ∷ ts) s (l ∷ ls) (suc j) t e = enter-at ts s ls j t e

-- whether a slot does a unit of a job
unfoldable pub does_job : Does → Bool
does_job nothing = false
does_job (task j) = false
does_job job = true

-- ---- the plan of a run

-- the number of task j's present request at the time s
unfoldable pub present_at : List Task → ℕ → ℕ → ℕ
present_at [] j s = 0
present_at (t ∷ ts) zero s = present t s
present_at (t ∷ ts) (suc j) s = present_at ts j s

-- the owner of slot s, before which a job units were done, by what the slot does
unfoldable pub owner_of : List Task → List ℕ → ℕ → ℕ → ℕ → Does → Owner
owner_of ts js w s a nothing = idle
owner_of ts js w s a (task j) = request j (present_at ts j s)
owner_of ts js w s a job = job_owner js w a

-- how many slots from now to below s did a unit of a job
unfoldable pub jobs_before : (ℕ → Does) → ℕ → ℕ → ℕ
jobs_before K now s = count (λ x. does_job (K x)) now (s - now)

-- the plan of a run in which slot s does K s
unfoldable pub plan_of : List Task → ℕ → List ℕ → ℕ → (ℕ → Does) → Plan
plan_of ts now js w K s = owner_of ts js w s (jobs_before K now s) (K s)

present_at-is : (ts : List Task) (j s : ℕ) (t : Task) → slice_get ts j ≡ Some t → present_at ts j s ≡ present t s
unfolding present_at
present_at-is [] j s t e = cc
present_at-is (x ∷ ts) zero s t e = let h : x ≡ t = cc in rw h
present_at-is (x ∷ ts) (suc j) s t e = present_at-is ts j s t e

owner_request : (ts js : _) (w s a : ℕ) (k : Does) (j r : ℕ) (t : Task) → slice_get ts j ≡ Some t
    → is_request j r (owner_of ts js w s a k) ≡ (does_task j k && eqb r (present t s))
unfolding owner_of is_request does_task
owner_request ts js w s a nothing j r t e = refl
owner_request ts js w s a (task k) j r t e = go (order j k)
  where
    go : Order j k → (eqb j k && eqb r (present_at ts k s)) ≡ (eqb j k && eqb r (present t s))
    go (less i) = rw (ne_eqb j k (λ z. omega arith))
    go (same i) = rw (← i, present_at-is ts j s t e)
    go (more i) = rw (ne_eqb j k (λ z. omega arith))
owner_request ts js w s a job j r t e = job_request js w a j r

owner_waiting : (ts js : _) (w s a : ℕ) (k : Does) (i : ℕ)
    → pick (is_waiting i (owner_of ts js w s a k)) 1 0 + get_or (drain js (a + pick (does_job k) 1 0)) i 0 ≡ get_or (drain js a) i 0
unfolding owner_of is_waiting does_job
owner_waiting ts js w s a nothing i = simp (add-zero, zero-add)
owner_waiting ts js w s a (task j) i = simp (add-zero, zero-add)
owner_waiting ts js w s a job i = rw add-one (waiting_step js w a i)

owner_new : (ts js : _) (w s a : ℕ) (k : Does)
    → pick (is_new (owner_of ts js w s a k)) 1 0 + (w - (a + pick (does_job k) 1 0 - sum js)) ≡ w - (a - sum js)
unfolding owner_of is_new does_job
owner_new ts js w s a nothing = simp (add-zero, zero-add)
owner_new ts js w s a (task j) = simp (add-zero, zero-add)
owner_new ts js w s a job = rw add-one (new_step js w a)

jobs_next : (K : ℕ → Does) (now s : ℕ) → now ≤ s → jobs_before K now (suc s) ≡ jobs_before K now s + pick (does_job (K s)) 1 0
unfolding jobs_before
jobs_next K now s h =
    let e : suc s - now ≡ suc (s - now) = omega arith in
    let f : now + (s - now) ≡ s = omega arith in
    rw e (rw f at (count-last (λ x. does_job (K x)) now (s - now)))

-- what falls with the units that the plan gives to jobs
module _ (ts : List Task) (now : ℕ) (K : ℕ → Does) (js : List ℕ) (w : ℕ) where
  falls_waiting : (n i : ℕ)
      → count (λ s. is_waiting i (plan_of ts now js w K s)) now n + get_or (drain js (jobs_before K now (now + n))) i 0 ≡ get_or (drain js (jobs_before K now now)) i 0
  unfolding plan_of
  falls_waiting n i =
      falls (λ s. is_waiting i (plan_of ts now js w K s)) (λ s. get_or (drain js (jobs_before K now s)) i 0) now n
      (λ s h. rw (jobs_next K now s h) (owner_waiting ts js w s (jobs_before K now s) (K s) i))

  falls_new : (n : ℕ)
      → count (λ s. is_new (plan_of ts now js w K s)) now n + (w - (jobs_before K now (now + n) - sum js)) ≡ w - (jobs_before K now now - sum js)
  unfolding plan_of
  falls_new n =
      falls (λ s. is_new (plan_of ts now js w K s)) (λ s. w - (jobs_before K now s - sum js)) now n
      (λ s h. rw (jobs_next K now s h) (owner_new ts js w s (jobs_before K now s) (K s)))

  started : jobs_before K now now ≡ 0
  unfolding jobs_before count
  started = rw sub_self

  waiting_given : (u i : ℕ)
      → given (plan_of ts now js w K) (is_waiting i) now u + get_or (drain js (jobs_before K now (now + (u - now)))) i 0 ≡ get_or js i 0
  waiting_given u i = simp (started, drain_none) at (falls_waiting (u - now) i)

  new_given : (u : ℕ) → given (plan_of ts now js w K) is_new now u + (w - (jobs_before K now (now + (u - now)) - sum js)) ≡ w
  new_given u = simp (started, zero-sub, sub-zero) at (falls_new (u - now))

-- a slot that goes to a request goes to one that is released
owner_released : (ts js : _) (w s a : ℕ) (k : Does) (j r : ℕ) → ((m : ℕ) → k ≡ task m → (t : Task) × (slice_get ts m ≡ Some t))
    → owner_of ts js w s a k ≡ request j r → (t : Task) × (slice_get ts j ≡ Some t) × (r * t.period ≤ s)
unfolding owner_of is_request present
owner_released ts js w s a nothing j r h e = let z : ◌≡◌ {A = ℕ} 0 1 = cc in absurd (omega arith)
owner_released ts js w s a (task m) j r h e =
    let known = h m refl in
    let same-task : m ≡ j = cc in
    let number : r ≡ s / known.0.period = cc (present_at-is ts m s known.0 known.1) in
    (known.0, cc known.1, rw number (div-mul-le_self s known.0.period))
owner_released ts js w s a job j r h e =
    let yes-it-is : is_request j r (request j r) ≡ true = rw (eq-eqb j j refl, eq-eqb r r refl) in
    let z : true ≡ false = sym yes-it-is ∙ ap (is_request j r) (sym e) ∙ job_request js w a j r in
    absurd (true≢false z)

-- a run from now on, in which no unfinished request reaches its deadline
pub record Run (ts : List Task) (now : ℕ) (L : ℕ → List ℕ) (K : ℕ → Does) : Type 0 where
  pub unfinished : (s j : ℕ) → now ≤ s → K s ≡ task j → (t : Task) × (slice_get ts j ≡ Some t) × (1 ≤ get_or (L s) j 0)
  pub next : (s : ℕ) → now ≤ s → L (suc s) ≡ enter ts (suc s) (after (K s) (L s))
  pub in_time : (s : ℕ) → now ≤ s → DoneBy ts (L s) s s
  pub timely : (s : ℕ) → now ≤ s → DoneBy ts (after (K s) (L s)) s (suc s)

module _ (ts : List Task) (now : ℕ) (L : ℕ → List ℕ) (K : ℕ → Does) (g : AllGood ts) (run : Run ts now L K) where
  work_next : (s j r : ℕ) (t : Task) → now ≤ s → slice_get ts j ≡ Some t
      → pick (does_task j (K s) && eqb r (present t s)) 1 0 + work_of t (get_or (L (suc s)) j 0) (suc s) r ≡ work_of t (get_or (L s) j 0) s r
  work_next s j r t h i =
      work_step t (good_at ts j t g i) (get_or (L s) j 0) (get_or (after (K s) (L s)) j 0) (get_or (L (suc s)) j 0) s r (does_task j (K s))
      (unit_at (K s) (L s) j (λ m e. (run.unfinished s m h e).2)) (run.timely s h j t i)
      (rw (run.next s h) (enter-at ts (suc s) (after (K s) (L s)) j t i))

  -- so a request has no work from its deadline on
  over : (u j r : ℕ) (t : Task) → now ≤ u → slice_get ts j ≡ Some t → r * t.period + t.deadline ≤ u
      → work_of t (get_or (L u) j 0) u r ≡ 0
  unfolding deadline_at present
  over u j r t h i d = go (order r (present t u))
    where
      go : Order r (present t u) → work_of t (get_or (L u) j 0) u r ≡ 0
      go (less k) = work_of-before t (get_or (L u) j 0) u r k
      go (same k) = work_of-at t (get_or (L u) j 0) u r k ∙ run.in_time u h j t i (omega (arith, ap (λ x. x * t.period) k))
      go (more k) = absurd (omega (arith, (le-div_iff_mul-le {x = r} {y = u} (period_pos t (good_at ts j t g i))).1 (omega arith)))

  module _ (js : List ℕ) (w : ℕ) where
    -- what falls with the units that the plan gives to requests
    falls_request : (n j r : ℕ) (t : Task) → slice_get ts j ≡ Some t
        → count (λ s. is_request j r (plan_of ts now js w K s)) now n + work_of t (get_or (L (now + n)) j 0) (now + n) r ≡ work_of t (get_or (L now) j 0) now r
    unfolding plan_of
    falls_request n j r t i =
        falls (λ s. is_request j r (plan_of ts now js w K s)) (λ s. work_of t (get_or (L s) j 0) s r) now n
        (λ s h. rw (owner_request ts js w s (jobs_before K now s) (K s) j r t i) (work_next s j r t h i))

    all_met : (j r : ℕ) (t : Task) → slice_get ts j ≡ Some t
        → work_of t (get_or (L now) j 0) now r ≤ given (plan_of ts now js w K) (is_request j r) now (r * t.period + t.deadline)
    all_met j r t i =
        let u : ℕ = r * t.period + t.deadline in
        elim (test now u) [
          | inl y ↦
              let e : now + (u - now) ≡ u = omega arith in
              omega (arith, rw e at (falls_request (u - now) j r t i), over u j r t y.1 i (le_refl u))
          | inr n ↦ omega (arith, over now j r t (le_refl now) i (omega arith))
        ]

-- THE RUN IS A PLAN, for the waiting jobs of the view and then the new work w, if the jobs' slots up to e are theirs and the last is e - 1.
pub run_plan : (ts : List Task) → AllGood ts → (v : View) (w e : ℕ) (L : ℕ → List ℕ) (K : ℕ → Does) → Run ts v.now L K
    → L v.now ≡ v.lefts
    → 1 ≤ w → v.now < e → K (e - 1) ≡ job → jobs_before K v.now e ≡ sum (job_lefts v.jobs) + w
    → Valid ts v w (plan_of ts v.now (job_lefts v.jobs) w K) e
unfolding plan_of owner_of does_job
run_plan ts g v w e L K run first some_work ahead last-job all-jobs =
    let now = v.now in
    let js = job_lefts v.jobs in
    let back : now + (e - now) ≡ e = omega arith in
    let next : suc (e - 1) ≡ e = omega arith in
    let before : sum js + w ≡ jobs_before K now (e - 1) + 1 = sym all-jobs ∙ (rw (next, last-job) at (jobs_next K now (e - 1) (omega arith))) in
    record {
      ahead = ahead;
      released = λ s j r h o. owner_released ts js w s (jobs_before K now s) (K s) j r
          (λ m k. let x = run.unfinished s m h k in (x.0, x.1)) o;
      request_most = λ j r u t i. rw (← first) (omega (arith, falls_request ts now L K g run js w (u - now) j r t i));
      waiting_most = λ i u. omega (arith, waiting_given ts now K js w u i);
      new_most = λ u. omega (arith, new_given ts now K js w u);
      meets = λ j r t i d. rw (← first) (all_met ts now L K g run js w j r t i);
      waiting_done = λ i. omega (arith, rw (back, all-jobs) at (waiting_given ts now K js w e i), drain_all js (sum js + w) i (omega arith));
      new_done = omega (arith, rw (back, all-jobs) at (new_given ts now K js w e));
      last = rw last-job (job_new js w (jobs_before K now (e - 1)) (omega arith) (omega arith));
    }
