-- A state and its view: each gives the other back, and what the code does to the state's places is what the rule does to the view.
-- `Shape t s` is what refusal 7 leaves to know of a state: every call that passes it may use it.
use Rattle.std.specs.Prelude.{◌≡◌, refl, false, not, ◌||◌, eqb, ltb, take, get_or}
use Rattle.std.proofs.Common.{sym, ◌∙◌, arith, length-take-le, ltb-false, eqb-true}
use Rattle.std.proofs.Math.Path.{ap}
use mathlib.Core.List.{List, [], ◌∷◌, ◌++◌}
use Prim.Native.Nat.{ℕ, zero, suc, ◌+◌, ◌-◌, ◌%◌, ◌≤◌, ◌<◌}
use Rattle.std.proofs.Math.ListN.{length, drop, set, length-append}
use Rattle.std.proofs.lemmas.Bool.{eqb-false, not-false}
use Rattle.paper.specs.declared.Task.{Task}
use Rattle.paper.specs.declared.Table.{Table}
use Rattle.paper.specs.declared.Work.{Work}
use Rattle.paper.specs.declared.Work.TheVariants.{Done, Left}
use Rattle.paper.specs.declared.Request.{Request}
use Rattle.paper.specs.declared.Job.{Job as JobRecord}
use Rattle.paper.specs.declared.State.{State}
use Rattle.paper.specs.Window.{window}
use Rattle.paper.specs.View.{Job, View, left_of, request_lefts, jobs_of, view_of, no_request, no_job, request_of, requests_of, job_records, padded, state_of}
use Rattle.paper.specs.View.{tasks_of}
use Rattle.paper.specs.Idle.{promise_of}
use Rattle.paper.specs.Rule.{enter}
use Rattle.paper.specs.Refusals.{H, unclear, one_unclear, bad_left, bad_requests, bad_waiting, one_used, refusal_7}
use Rattle.paper.specs.Calls.{admitted}
use Rattle.theory.specs.Verdicts.{when_not, or_false_both}
use Rattle.theory.specs.Ready.{Ready}
use Rattle.theory.specs.Padded.{AllAre, take-padded, padded_front, set_padded, more_padded, rest-padded, front_padded}

-- ---- requests and lefts

-- A left that is put into a request is read back.
pub left_back : (l : ℕ) → left_of (request_of l).work ≡ l
left_back zero = refl
left_back (suc l) = refl

-- So are all of them.
pub lefts_back : (ls : List ℕ) → request_lefts (requests_of ls) ≡ ls
unfolding request_lefts requests_of
lefts_back [] = refl
lefts_back (l ∷ ls) = rw (left_back l, lefts_back ls)

-- There are as many lefts as requests.
pub lefts_length : (rs : List Request) → length (request_lefts rs) ≡ length rs
unfolding request_lefts
lefts_length [] = refl
lefts_length (r ∷ rs) = ap suc (lefts_length rs)

-- And as many requests as lefts.
pub requests_length : (ls : List ℕ) → length (requests_of ls) ≡ length ls
unfolding requests_of
requests_length [] = refl
requests_length (l ∷ ls) = ap suc (requests_length ls)

-- The left of request j is that of its record.
pub left_at : (rs : List Request) (j : ℕ) → get_or (request_lefts rs) j 0 ≡ left_of (get_or rs j no_request).work
unfolding request_lefts
left_at [] j = refl
left_at (r ∷ rs) zero = refl
left_at (r ∷ rs) (suc j) = left_at rs j

-- A left that is changed changes its request.
pub set_requests : (ls : List ℕ) (j l : ℕ) → requests_of (set ls j l) ≡ set (requests_of ls) j (request_of l)
unfolding requests_of
set_requests [] j l = refl
set_requests (x ∷ ls) zero l = refl
set_requests (x ∷ ls) (suc j) l = ap (λ (rs : List Request). request_of x ∷ rs) (set_requests ls j l)

-- ---- jobs

-- the record of a job
abbrev pub record_of : Job → JobRecord
record_of j = record { left = j.left; promise = record { 0 = j.promise } }

-- the job of a record
abbrev pub job_of : JobRecord → Job
job_of j = record { left = j.left; promise = j.promise.0 }

-- Jobs that are put into records are read back.
pub jobs_back : (js : List Job) → jobs_of (job_records js) ≡ js
unfolding jobs_of job_records
jobs_back [] = refl
jobs_back (j ∷ js) = ap (λ (l : List Job). j ∷ l) (jobs_back js)

-- And records that are read are put back.
pub records_back : (js : List JobRecord) → job_records (jobs_of js) ≡ js
unfolding jobs_of job_records
records_back [] = refl
records_back (j ∷ js) = ap (λ (l : List JobRecord). j ∷ l) (records_back js)

-- There are as many jobs as records.
pub jobs_length : (js : List JobRecord) → length (jobs_of js) ≡ length js
unfolding jobs_of
jobs_length [] = refl
jobs_length (j ∷ js) = ap suc (jobs_length js)

-- And as many records as jobs.
pub records_length : (js : List Job) → length (job_records js) ≡ length js
unfolding job_records
records_length [] = refl
records_length (j ∷ js) = ap suc (records_length js)

-- One job more is one record more.
pub more_records : (js : List Job) (j : Job) → job_records (js ++ (j ∷ [])) ≡ job_records js ++ (record_of j ∷ [])
unfolding job_records
more_records [] j = refl
more_records (x ∷ js) j = ap (λ (l : List JobRecord). record_of x ∷ l) (more_records js j)

-- ---- a state and its view

-- The state of a view that has room in it has that view.
pub view_back : (n : ℕ) (v : View) → length v.lefts ≡ n → n ≤ 16 → length v.jobs ≤ 8 → view_of n (state_of v) ≡ v
unfolding view_of state_of
view_back n v e h k =
    let rs = requests_of v.lefts in
    let js = job_records v.jobs in
    let er : length rs ≡ n = requests_length v.lefts ∙ e in
    let ej = records_length v.jobs in
    let a : take n (padded 16 no_request rs) ≡ rs =
    ap (λ (m : ℕ). take m (padded 16 no_request rs)) (sym er) ∙ take-padded no_request 16 rs (omega arith) in
    let b : take (length v.jobs) (padded 8 no_job js) ≡ js =
    ap (λ (m : ℕ). take m (padded 8 no_job js)) (sym ej) ∙ take-padded no_job 8 js (omega arith) in
    rw (a, b, lefts_back v.lefts, jobs_back v.jobs)

-- the request is not `Left 0`
abbrev pub Stated : Request → Type 0
Stated r = request_of (left_of r.work) ≡ r

-- all of them are
abbrev pub AllStated : List Request → Type 0
AllStated [] = Unit {0}
AllStated (r ∷ rs) = Stated r × AllStated rs

-- Requests whose lefts are stated are given back by their lefts.
pub requests_back : (rs : List Request) → AllStated rs → requests_of (request_lefts rs) ≡ rs
unfolding requests_of request_lefts
requests_back [] a = refl
requests_back (r ∷ rs) a = rw (a.0, requests_back rs a.1)

-- Requests that are made of lefts are stated.
pub stated_requests : (ls : List ℕ) → AllStated (requests_of ls)
unfolding requests_of
stated_requests [] = tt
stated_requests (l ∷ ls) = (ap request_of (left_back l), stated_requests ls)

-- the places of a state whose unused ones are clear
pub record Places (n : ℕ) (s : State) : Type 0 where
  pub requests : length s.requests ≡ 16
  pub jobs : length s.jobs ≡ 8
  pub few : n ≤ 16
  pub waiting : s.waiting ≤ 8
  pub stated : AllStated (take n s.requests)
  pub no_request_lem : AllAre no_request (drop n s.requests)
  pub no_job_lem : AllAre no_job (drop s.waiting s.jobs)

-- A state whose unused places are clear is the state of its view.
pub state_back : (n : ℕ) (s : State) → Places n s → state_of (view_of n s) ≡ s
unfolding view_of state_of
state_back n s p =
    let rs = take n s.requests in
    let js = take s.waiting s.jobs in
    let many : length (jobs_of js) ≡ s.waiting = jobs_length js ∙ length-take-le s.waiting s.jobs (omega arith) in
    rw (
      requests_back rs p.stated,
      padded_front no_request 16 n s.requests p.requests p.few p.no_request_lem,
      records_back js,
      padded_front no_job 8 s.waiting s.jobs p.jobs p.waiting p.no_job_lem,
      many,
    )

-- ---- what refusal 7 leaves

-- what 7 asks of one job
pub record KeptJob (low : ℕ) (j : Job) : Type 0 where
  pub some_left : 1 ≤ j.left
  pub most : j.left ≤ 30000
  pub rises : low ≤ j.promise
  pub in_clock : j.promise ≤ H

-- each promise is at least one more than that before it, and the first is at least `low`
abbrev pub KeptJobs : ℕ → List Job → Type 0
KeptJobs low [] = Unit {0}
KeptJobs low (j ∷ js) = KeptJob low j × KeptJobs (suc j.promise) js

-- "job left 0" is refused 7
abbrev pub SomeLeft : List Job → Type 0
SomeLeft [] = Unit {0}
SomeLeft (j ∷ js) = (1 ≤ j.left) × SomeLeft js

-- The jobs of a shaped state have work left.
pub kept_left : (low : ℕ) (js : List Job) → KeptJobs low js → SomeLeft js
kept_left low [] k = tt
kept_left low (j ∷ js) k = (k.0.some_left, kept_left (suc j.promise) js k.1)

kept_jobs : (low : ℕ) (js : List JobRecord) → bad_waiting low js ≡ false → KeptJobs low (jobs_of js)
unfolding bad_waiting jobs_of
kept_jobs low [] e = tt
kept_jobs low (j ∷ js) e =
    let l = j.left in
    let p = j.promise.0 in
    let a = or_false_both (eqb l 0 || ltb 30000 l) ((ltb p low || ltb H p) || bad_waiting (suc p) js) e in
    let b = or_false_both (eqb l 0) (ltb 30000 l) a.0 in
    let c = or_false_both (ltb p low || ltb H p) (bad_waiting (suc p) js) a.1 in
    let d = or_false_both (ltb p low) (ltb H p) c.0 in (
      record {
        some_left = omega (arith, eqb-false l 0 b.0);
        most = ltb-false 30000 l b.1;
        rises = ltb-false p low d.0;
        in_clock = ltb-false H p d.1;
      },
      kept_jobs (suc p) js c.1,
    )

no_job_lem : (j : JobRecord) → j.left ≡ 0 → j.promise.0 ≡ 0 → j ≡ no_job
no_job_lem j e f = ap (λ (n : ℕ). record { left = n; promise = j.promise }) e ∙ ap (λ (n : ℕ). record { left = 0; promise = record { 0 = n } }) f

clear_jobs : (js : List JobRecord) → one_used js ≡ false → AllAre no_job js
unfolding one_used
clear_jobs [] e = tt
clear_jobs (j ∷ js) e =
    let l = j.left in
    let p = j.promise.0 in
    let a = or_false_both (not (eqb l 0) || not (eqb p 0)) (one_used js) e in
    let b = or_false_both (not (eqb l 0)) (not (eqb p 0)) a.0 in
    (no_job_lem j (eqb-true l 0 (not-false (eqb l 0) b.0)) (eqb-true p 0 (not-false (eqb p 0) b.1)), clear_jobs js a.1)

is_done : (w : Work) → unclear w ≡ false → w ≡ Done
is_done Done e = refl
is_done (Left n) e = let z : ◌≡◌ {A = ℕ} 0 1 = cc in absurd (omega arith)

clear_requests : (rs : List Request) → one_unclear rs ≡ false → AllAre no_request rs
unfolding one_unclear
clear_requests [] e = tt
clear_requests (r ∷ rs) e =
    let a = or_false_both (unclear r.work) (one_unclear rs) e in
    (ap (λ (w : Work). record { work = w }) (is_done r.work a.0), clear_requests rs a.1)

-- each left is at most its task's C
abbrev pub AtMostC : List Task → List ℕ → Type 0
AtMostC [] ls = Unit {0}
AtMostC (t ∷ ts) [] = Unit {0}
AtMostC (t ∷ ts) (l ∷ ls) = (l ≤ t.work) × AtMostC ts ls

-- what 7 asks of one request
pub record KeptRequest (c : ℕ) (r : Request) : Type 0 where
  pub most : left_of r.work ≤ c
  pub stated : Stated r

kept_work : (w : Work) (c : ℕ) → bad_left w c ≡ false → KeptRequest c (record { work = w })
kept_work Done c e = record { most = omega arith; stated = refl }
kept_work (Left zero) c e = let z : ◌≡◌ {A = ℕ} 0 1 = cc in absurd (omega arith)
kept_work (Left (suc n)) c e =
    record { most = ltb-false c (suc n) (or_false_both (eqb (suc n) 0) (ltb c (suc n)) e).1; stated = refl }

record KeptRequests (ts : List Task) (rs : List Request) : Type 0 where
  most : AtMostC ts (request_lefts (take (length ts) rs))
  stated : AllStated (take (length ts) rs)
  no_request_lem : AllAre no_request (drop (length ts) rs)

kept_requests : (ts : List Task) (rs : List Request) → length ts ≤ length rs → bad_requests ts rs ≡ false → KeptRequests ts rs
unfolding bad_requests request_lefts
kept_requests [] rs h e = record { most = tt; stated = tt; no_request_lem = clear_requests rs e }
kept_requests (t ∷ ts) [] h e = absurd (omega arith)
kept_requests (t ∷ ts) (r ∷ rs) h e =
    let a = or_false_both (bad_left r.work t.work) (bad_requests ts rs) e in
    let one = kept_work r.work t.work a.0 in
    let more = kept_requests ts rs (omega arith) a.1 in
    record { most = (one.most, more.most); stated = (one.stated, more.stated); no_request_lem = more.no_request_lem }

-- the arrays of a table and of a state: what code knows of them
pub record Arrays (t : Table) (s : State) : Type 0 where
  pub tasks : length t.tasks ≡ 16
  pub requests : length s.requests ≡ 16
  pub jobs : length s.jobs ≡ 8

-- what is known of a state that passes 7
pub record Shape (t : Table) (s : State) : Type 0 where
  pub arrays : Arrays t s
  pub clock : s.now.0 ≤ H
  pub few : s.waiting ≤ 8
  pub lefts : AtMostC (tasks_of t) (view_of t.count s).lefts
  pub jobs : KeptJobs 0 (view_of t.count s).jobs
  pub tallies : s.given + s.idle ≤ s.now.0 % window (tasks_of t)
  pub places : Places t.count s
  -- the view has all of the state
  pub whole : state_of (view_of t.count s) ≡ s
  pub many_lefts : length (view_of t.count s).lefts ≡ t.count
  pub many_jobs : length (view_of t.count s).jobs ≡ s.waiting

-- A table of sixteen places has as many tasks as it counts.
pub many_tasks_lem : {t : Table} {w : ℕ} → Ready t w → length t.tasks ≡ 16 → length (tasks_of t) ≡ t.count
unfolding tasks_of
many_tasks_lem {t} r h = length-take-le t.count t.tasks (omega arith)

-- A state that passes 7 has all of this.
pub shape : {t : Table} {w : ℕ} {s : State} → Ready t w → Arrays t s → (refusal_7 (tasks_of t) s).number ≡ 0 → Shape t s
unfolding refusal_7 view_of
shape {t} {w} {s} r h e =
    let ts = tasks_of t in
    let now = s.now.0 in
    let jobs = bad_waiting 0 (take s.waiting s.jobs) in
    let used = one_used (drop s.waiting s.jobs) in
    let over = ltb (now % window ts) (s.given + s.idle) in
    let all = ltb H now || (bad_requests ts s.requests || (ltb 8 s.waiting || (jobs || (used || over)))) in
    let a = or_false_both (ltb H now) (bad_requests ts s.requests || (ltb 8 s.waiting || (jobs || (used || over)))) (when_not all 6 e) in
    let b = or_false_both (bad_requests ts s.requests) (ltb 8 s.waiting || (jobs || (used || over))) a.1 in
    let c = or_false_both (ltb 8 s.waiting) (jobs || (used || over)) b.1 in
    let d = or_false_both jobs (used || over) c.1 in
    let f = or_false_both used over d.1 in
    let many = many_tasks_lem r h.tasks in
    let few : s.waiting ≤ 8 = ltb-false 8 s.waiting c.0 in
    let kept = kept_requests ts s.requests (omega arith) b.0 in
    let places : Places t.count s = record {
      requests = h.requests;
      jobs = h.jobs;
      few = r.few;
      waiting = few;
      stated = rw many at kept.stated;
      no_request_lem = rw many at kept.no_request_lem;
      no_job_lem = clear_jobs (drop s.waiting s.jobs) f.0;
    } in
    record {
      arrays = h;
      clock = ltb-false H now a.0;
      few = few;
      lefts = rw many at kept.most;
      jobs = kept_jobs 0 (take s.waiting s.jobs) d.0;
      tallies = ltb-false (now % window ts) (s.given + s.idle) f.1;
      places = places;
      whole = state_back t.count s places;
      many_lefts = lefts_length (take t.count s.requests) ∙ length-take-le t.count s.requests (omega arith);
      many_jobs = jobs_length (take s.waiting s.jobs) ∙ length-take-le s.waiting s.jobs (omega arith);
    }

-- ---- the state's places change as the view does

-- the state with other requests
abbrev pub put_requests : State → List Request → State
put_requests s rs = record { now = s.now; requests = rs; jobs = s.jobs; waiting = s.waiting; given = s.given; idle = s.idle }

-- the state with other jobs, of which n wait
abbrev pub put_jobs : State → List JobRecord → ℕ → State
put_jobs s js n = record { now = s.now; requests = s.requests; jobs = js; waiting = n; given = s.given; idle = s.idle }

-- the view with other lefts
abbrev pub with_lefts : View → List ℕ → View
with_lefts v ls = record { now = v.now; lefts = ls; jobs = v.jobs; given = v.given; idle = v.idle }

-- the view with other jobs
abbrev pub with_jobs : View → List Job → View
with_jobs v js = record { now = v.now; lefts = v.lefts; jobs = js; given = v.given; idle = v.idle }

module _ (v : View) where
  -- one left is set
  pub put_left : (j l : ℕ) → length v.lefts ≤ 16 → j < length v.lefts
      → state_of (with_lefts v (set v.lefts j l)) ≡ put_requests (state_of v) (set (state_of v).requests j (request_of l))
  unfolding state_of
  put_left j l h k =
      let e = requests_length v.lefts in
      rw (set_requests v.lefts j l, set_padded no_request 16 (requests_of v.lefts) j (request_of l) (omega arith) (omega arith))

  -- all lefts are set: releases enter
  pub put_lefts : (ls : List ℕ) → length ls ≡ length v.lefts → length v.lefts ≤ 16
      → state_of (with_lefts v ls) ≡ put_requests (state_of v) (requests_of ls ++ drop (length v.lefts) (state_of v).requests)
  unfolding state_of
  put_lefts ls e h =
      let rs = requests_of v.lefts in
      let old = requests_length v.lefts in
      let new = requests_length ls in
      let q : requests_of ls ++ drop (length rs) (padded 16 no_request rs) ≡ padded 16 no_request (requests_of ls) =
      front_padded no_request 16 rs (requests_of ls) (omega arith) (omega arith) in
      ap (λ (l : List Request). put_requests (state_of v) l)
      (sym q ∙ ap (λ (n : ℕ). requests_of ls ++ drop n (padded 16 no_request rs)) old)

  -- one job more
  pub put_job : (j : Job) → length v.jobs < 8
      → state_of (with_jobs v (v.jobs ++ (j ∷ [])))
      ≡ put_jobs (state_of v) (set (state_of v).jobs (length v.jobs) (record_of j)) (length v.jobs + 1)
  unfolding state_of
  put_job j h =
      let rs = job_records v.jobs in
      let e = records_length v.jobs in
      let q : set (padded 8 no_job rs) (length rs) (record_of j) ≡ padded 8 no_job (rs ++ (record_of j ∷ [])) =
      more_padded no_job 8 rs (record_of j) (omega arith) in
      rw (more_records v.jobs j, length-append v.jobs (j ∷ []), ← q, e)

  module _ (j : Job) (js : List Job) (has : v.jobs ≡ j ∷ js) (few : length v.jobs ≤ 8) where
    short : length js < 8
    short = omega (arith, ap length has)

    -- the oldest job leaves
    pub drop-job : state_of (with_jobs v js) ≡ put_jobs (state_of v) (drop 1 (state_of v).jobs ++ (no_job ∷ [])) (length v.jobs - 1)
    unfolding state_of job_records
    drop-job =
        let n : length js ≡ length v.jobs - 1 = omega (arith, ap length has) in
        let q : drop 1 (padded 8 no_job (job_records v.jobs)) ++ (no_job ∷ []) ≡ padded 8 no_job (job_records js) =
        ap (λ (l : List Job). drop 1 (padded 8 no_job (job_records l)) ++ (no_job ∷ [])) has
        ∙ rest-padded no_job 8 (record_of j) (job_records js) (rw (records_length js) short) in
        rw (q, n)

    -- the oldest job has something else left
    pub change_job : (k : Job) → state_of (with_jobs v (k ∷ js)) ≡ put_jobs (state_of v) (set (state_of v).jobs 0 (record_of k)) (length v.jobs)
    unfolding state_of job_records
    change_job k =
        let n : suc (length js) ≡ length v.jobs = omega (arith, ap length has) in
        let q : set (padded 8 no_job (job_records v.jobs)) 0 (record_of k) ≡ padded 8 no_job (record_of k ∷ job_records js) =
        ap (λ (l : List Job). set (padded 8 no_job (job_records l)) 0 (record_of k)) has
        ∙ set_padded no_job 8 (record_of j ∷ job_records js) 0 (record_of k) (rw (records_length js) (omega (arith, short))) (omega arith) in
        rw (q, n)

-- ---- and of a shaped state

module _ {t : Table} {s : State} (h : Shape t s) where
  abbrev view : View
  view = view_of t.count s

  -- A left that is changed in the view changes its request in the state.
  pub shaped_left : (j l : ℕ) → j < t.count
      → state_of (with_lefts (view_of t.count s) (set (view_of t.count s).lefts j l)) ≡ put_requests s (set s.requests j (request_of l))
  shaped_left j l k =
      let e = h.many_lefts in
      let f = h.places.few in
      put_left view j l (omega arith) (omega arith)
      ∙ ap (λ (x : State). put_requests x (set x.requests j (request_of l))) h.whole

  -- admission: "the state with the job last"
  pub shaped_job : (j : Job) → s.waiting < 8
      → state_of (with_jobs (view_of t.count s) ((view_of t.count s).jobs ++ (j ∷ [])))
      ≡ put_jobs s (set s.jobs s.waiting (record_of j)) (s.waiting + 1)
  shaped_job j k =
      let m = h.many_jobs in
      put_job view j (omega arith)
      ∙ rw m (ap (λ (x : State). put_jobs x (set x.jobs s.waiting (record_of j)) (s.waiting + 1)) h.whole)

  -- So the state after an admission has the new job in the first place that was unused.
  pub shaped_admitted : (w : ℕ) → s.waiting < 8
      → state_of (admitted (tasks_of t) (view_of t.count s) w)
      ≡ put_jobs s
      (set s.jobs s.waiting (record { left = w; promise = record { 0 = promise_of (tasks_of t) (view_of t.count s) w } }))
      (s.waiting + 1)
  shaped_admitted w k = shaped_job (record { left = w; promise = promise_of (tasks_of t) view w }) k

  module _ (j : Job) (js : List Job) (has : (view_of t.count s).jobs ≡ j ∷ js) where
    -- Without the oldest job, the records move one place down.
    pub shaped_drop : state_of (with_jobs (view_of t.count s) js) ≡ put_jobs s (drop 1 s.jobs ++ (no_job ∷ [])) (s.waiting - 1)
    shaped_drop =
        let m = h.many_jobs in
        let f = h.few in
        drop-job view j js has (omega arith)
        ∙ rw m (ap (λ (x : State). put_jobs x (drop 1 x.jobs ++ (no_job ∷ [])) (s.waiting - 1)) h.whole)

    -- With the oldest job changed, its record is.
    pub shaped_change : (k : Job) → state_of (with_jobs (view_of t.count s) (k ∷ js)) ≡ put_jobs s (set s.jobs 0 (record_of k)) s.waiting
    shaped_change k =
        let m = h.many_jobs in
        let f = h.few in
        change_job view j js has (omega arith) k
        ∙ rw m (ap (λ (x : State). put_jobs x (set x.jobs 0 (record_of k)) s.waiting) h.whole)

-- ---- releases keep the number of lefts

-- When releases have entered there are as many lefts as tasks.
pub enter-length : (ts : List Task) (at : ℕ) (ls : List ℕ) → length (enter ts at ls) ≡ length ts
unfolding enter
enter-length [] at ls = refl
enter-length (t ∷ ts) at [] = ap suc (enter-length ts at [])
enter-length (t ∷ ts) at (l ∷ ls) = ap suc (enter-length ts at ls)
