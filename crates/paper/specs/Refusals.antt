-- "Refusal numbers": each is one definition that says whether it is given, and at which place.
-- "In this order; place in brackets, 0 where none is named." A number is given exactly when its definition is not `passed`.
use Rattle.std.specs.Prelude.{ℕ, zero, suc, ◌+◌, ◌-◌, ◌%◌, Bool, true, false, not, cond, ◌&&◌, ◌||◌, List, [], ◌∷◌, leb, ltb, eqb, length, take, drop, Option, None, Some}
use Rattle.paper.specs.declared.Task.{Task}
use Rattle.paper.specs.declared.Work.{Work}
use Rattle.paper.specs.declared.Work.TheVariants.{Done, Left}
use Rattle.paper.specs.declared.Request.{Request}
use Rattle.paper.specs.declared.Job.{Job as JobRecord}
use Rattle.paper.specs.declared.State.{State}
use Rattle.paper.specs.declared.Latest.{Latest}
use Rattle.paper.specs.declared.Latest.TheVariants.{None as NoLatest, By}
use Rattle.paper.specs.declared.Verdict.{Verdict}
use Rattle.paper.specs.Demand.{deadline_at, table_due, due}
use Rattle.paper.specs.Window.{window}
use Rattle.paper.specs.Places.{K}
use Rattle.paper.specs.Vectors.{sum, F, Y}
use Rattle.paper.specs.Idle.{promise}
use Rattle.paper.specs.View.{Job, View}
use Rattle.paper.specs.Rule.{after, serve, runs_in}

-- "The clock goes up to H = 1,099,511,627,776 (2^40)."
abbrev pub H : ℕ
H = 1099511627776

-- ---- a verdict: the number and place of a refusal, both 0 where there is none

abbrev pub passed : Verdict
passed = record { number = 0; place = 0 }

-- n where the test holds, with no place
abbrev pub when : Bool → ℕ → Verdict
when true n = record { number = n; place = 0 }
when false n = passed

-- n at the place that is found
abbrev pub at : Option ℕ → ℕ → Verdict
at None n = passed
at (Some p) n = record { number = n; place = p }

-- the first of the n numbers from u on that passes the test
unfoldable pub first_of : (ℕ → Bool) → ℕ → ℕ → Option ℕ
first_of test u zero = None
first_of test u (suc n) = cond (test u) (Some u) (first_of test (suc u) n)

abbrev pub found : Option ℕ → Bool
found None = false
found (Some u) = true

-- ---- the table

-- 1: "no task, or over 16"
unfoldable pub refusal_1 : ℕ → Verdict
refusal_1 count = when (ltb count 1 || ltb 16 count) 1

-- 2: "a task breaks its limits [first such, from 1]", with `before` tasks in front of these: 1 ≤ C ≤ R ≤ P ≤ 10,000
unfoldable pub breaks : Task → Bool
breaks t = ltb t.work 1 || (ltb t.deadline t.work || (ltb t.period t.deadline || ltb 10000 t.period))

unfoldable pub first_breaking : ℕ → List Task → Option ℕ
first_breaking before [] = None
first_breaking before (t ∷ ts) = cond (breaks t) (Some (suc before)) (first_breaking (suc before) ts)

unfoldable pub refusal_2 : List Task → Verdict
refusal_2 ts = at (first_breaking 0 ts) 2

-- 3: "W over 30,000"
unfoldable pub refusal_3 : List Task → Verdict
refusal_3 ts = when (ltb 30000 (window ts)) 3

-- 4: "K needs over 1,024 places"
unfoldable pub refusal_4 : List Task → Verdict
refusal_4 ts = when (ltb 1024 (length (K ts))) 4

-- 5: "a lent vector is shorter than K"
unfoldable pub one_shorter : ℕ → List (List ℕ) → Bool
one_shorter n [] = false
one_shorter n (v ∷ vs) = ltb (length v) n || one_shorter n vs

unfoldable pub refusal_5 : List Task → List (List ℕ) → Verdict
refusal_5 ts lent = when (one_shorter (length (K ts)) lent) 5

-- 6: "at some t the work of window requests due by t exceeds t [least t]"
unfoldable pub overloaded_at : List Task → Option ℕ
overloaded_at ts = first_of (λ u. ltb u (table_due ts u)) 0 (suc (window ts))

unfoldable pub refusal_6 : List Task → Verdict
refusal_6 ts = at (overloaded_at ts) 6

-- ---- the state

-- 7: "state misshapen: ... left 0 or above C, ... unused place not clear": the requests, of the tasks ts
abbrev pub unclear : Work → Bool
unclear Done = false
unclear (Left n) = true

unfoldable pub one_unclear : List Request → Bool
one_unclear [] = false
one_unclear (r ∷ rs) = unclear r.work || one_unclear rs

abbrev pub bad_left : Work → ℕ → Bool
bad_left Done c = false
bad_left (Left n) c = eqb n 0 || ltb c n

unfoldable pub bad_requests : List Task → List Request → Bool
bad_requests [] rs = one_unclear rs
bad_requests (t ∷ ts) [] = false
bad_requests (t ∷ ts) (r ∷ rs) = bad_left r.work t.work || bad_requests ts rs

-- "job left 0 or above 30,000, promises not rising or above H": of the waiting jobs; each promise is at least `low`, which is
-- one more than the promise before it, and 0 for the first
unfoldable pub bad_waiting : ℕ → List JobRecord → Bool
bad_waiting low [] = false
bad_waiting low (j ∷ js) =
    (eqb j.left 0 || ltb 30000 j.left) || ((ltb j.promise.0 low || ltb H j.promise.0) || bad_waiting (suc j.promise.0) js)

-- "unused place not clear": of the other places for jobs
unfoldable pub one_used : List JobRecord → Bool
one_used [] = false
one_used (j ∷ js) = (not (eqb j.left 0) || not (eqb j.promise.0 0)) || one_used js

-- "now above H, ... over 8 jobs, ... A + I above the offset"
unfoldable pub refusal_7 : List Task → State → Verdict
refusal_7 ts s =
    when
    (ltb H s.now.0
    || (bad_requests ts s.requests
    || (ltb 8 s.waiting
    || (bad_waiting 0 (take s.waiting s.jobs)
    || (one_used (drop s.waiting s.jobs)
    || ltb (s.now.0 % window ts) (s.given + s.idle))))))
    7

-- 8: "unfinished work has its deadline or promise at or before now": of requests ls of the time now, and jobs js, at the time u
unfoldable pub late_request : List Task → List ℕ → ℕ → ℕ → Bool
late_request [] ls now u = false
late_request (t ∷ ts) [] now u = false
late_request (t ∷ ts) (l ∷ ls) now u = (leb 1 l && leb (deadline_at t now) u) || late_request ts ls now u

unfoldable pub late_job : List Job → ℕ → Bool
late_job [] u = false
late_job (j ∷ js) u = leb j.promise u || late_job js u

unfoldable pub overdue : List Task → View → Bool
overdue ts v = late_request ts v.lefts v.now v.now || late_job v.jobs v.now

unfoldable pub refusal_8 : List Task → View → Verdict
refusal_8 ts v = when (overdue ts v) 8

-- "for a slot, also if it would have at the next now, before releases enter"
unfoldable pub overdue_next : List Task → View → Bool
overdue_next ts v =
    late_request ts (after (runs_in ts v) v.lefts) v.now (suc v.now)
    || late_job (serve (runs_in ts v) v.jobs) (suc v.now)

unfoldable pub refusal_8_slot : List Task → View → Verdict
refusal_8_slot ts v = when (overdue ts v || overdue_next ts v) 8

-- 9: "unfinished and later periodic work due by some t, from now to the window's end, exceeds t − now": the least such t
unfoldable pub overfull_at : List Task → View → Option ℕ
overfull_at ts v = first_of (λ u. ltb u (v.now + due ts v.lefts v.now u)) v.now (suc (window ts - v.now % window ts))

unfoldable pub refusal_9_work : List Task → View → Verdict
refusal_9_work ts v = when (found (overfull_at ts v)) 9

-- 9: "or F − A − I differs from the sum of Y"
unfoldable pub wrong_tallies : List Task → View → Bool
wrong_tallies ts v = not (eqb (v.given + v.idle + sum (Y ts v.lefts (v.now % window ts))) (F ts))

unfoldable pub refusal_9_tallies : List Task → View → Verdict
refusal_9_tallies ts v = when (wrong_tallies ts v) 9

-- 9: "or a promise is not the least t for its job and those before it", which are `before` jobs with `work` left; there is no such t
-- where F is 0. The first such job, from 1
unfoldable pub wrong_promise : List Task → List ℕ → ℕ → ℕ → ℕ → List Job → Option ℕ
wrong_promise ts ls now before work [] = None
wrong_promise ts ls now before work (j ∷ js) =
    cond (eqb (F ts) 0 || not (eqb j.promise (promise ts ls now (work + j.left)))) (Some (suc before))
    (wrong_promise ts ls now (suc before) (work + j.left) js)

unfoldable pub wrong_promise_at : List Task → View → Option ℕ
wrong_promise_at ts v = wrong_promise ts v.lefts v.now 0 0 v.jobs

unfoldable pub refusal_9_promise : List Task → View → Verdict
refusal_9_promise ts v = when (found (wrong_promise_at ts v)) 9

-- ---- a job that asks to be admitted, and a slot

-- 10: "new work 0 or above 30,000"
unfoldable pub refusal_10 : ℕ → Verdict
refusal_10 work = when (eqb work 0 || ltb 30000 work) 10

-- 11: "eight jobs wait"
unfoldable pub refusal_11 : View → Verdict
refusal_11 v = when (leb 8 (length v.jobs)) 11

-- 12: "F is 0"
unfoldable pub refusal_12 : List Task → Verdict
refusal_12 ts = when (eqb (F ts) 0) 12

-- 13: "promise above H"
unfoldable pub refusal_13 : ℕ → Verdict
refusal_13 p = when (ltb H p) 13

-- 14: "promise above the latest finish"
unfoldable pub too_late : ℕ → Latest → Bool
too_late p NoLatest = false
too_late p (By s) = ltb s.0 p

unfoldable pub refusal_14 : ℕ → Latest → Verdict
refusal_14 p latest = when (too_late p latest) 14

-- 15: "slot asked at H"
unfoldable pub refusal_15 : View → Verdict
refusal_15 v = when (leb H v.now) 15
