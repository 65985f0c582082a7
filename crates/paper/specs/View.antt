-- "Time, tasks, state": what the definitions look at in a running state, numbers and lists, and the record that holds them.
-- "It holds now ..., the requests, the waiting jobs oldest first, and tallies A (slots given to jobs) and I (idle slots)".
use Rattle.std.specs.Prelude.{ℕ, zero, suc, ◌≡◌, ◌⊎◌, List, [], ◌∷◌, ◌++◌, length, take, replicate}
use Rattle.paper.specs.declared.Task.{Task}
use Rattle.paper.specs.declared.Table.{Table}
use Rattle.paper.specs.declared.Work.{Work}
use Rattle.paper.specs.declared.Work.TheVariants.{Done, Left}
use Rattle.paper.specs.declared.Request.{Request}
use Rattle.paper.specs.declared.Job.{Job as JobRecord}
use Rattle.paper.specs.declared.State.{State}
use Rattle.paper.specs.Demand.{works}

-- "A job has work left and its promise"
pub record Job : Type 0 where
  pub left : ℕ
  pub promise : ℕ

pub record View : Type 0 where
  pub now : ℕ
  pub lefts : List ℕ
  pub jobs : List Job
  pub given : ℕ
  pub idle : ℕ

-- "Power-on: now 0, all requests at C, no job, tallies 0."
abbrev pub power_on : List Task → View
power_on ts = record { now = 0; lefts = works ts; jobs = []; given = 0; idle = 0 }

-- "promises rise strictly, so a promise names its job": the job of the promise p waits
abbrev pub Waits : ℕ → List Job → Type 0
Waits p [] = ⊥
Waits p (j ∷ js) = (j.promise ≡ p) ⊎ Waits p js

-- ---- the state's record: nothing but this part and refusal 7 looks at it

abbrev pub left_of : Work → ℕ
left_of Done = 0
left_of (Left n) = n

unfoldable pub request_lefts : List Request → List ℕ
request_lefts [] = []
request_lefts (r ∷ rs) = left_of r.work ∷ request_lefts rs

unfoldable pub jobs_of : List JobRecord → List Job
jobs_of [] = []
jobs_of (j ∷ js) = record { left = j.left; promise = j.promise.0 } ∷ jobs_of js

-- the view of a state, for a table of n tasks
unfoldable pub view_of : ℕ → State → View
view_of n s = record {
  now = s.now.0;
  lefts = request_lefts (take n s.requests);
  jobs = jobs_of (take s.waiting s.jobs);
  given = s.given;
  idle = s.idle;
}

-- "Unused places are done or zero."
abbrev pub no_request : Request
no_request = record { work = Done }

abbrev pub no_job : JobRecord
no_job = record { left = 0; promise = record { 0 = 0 } }

-- "Each request is done or has a stated amount left."
abbrev pub request_of : ℕ → Request
request_of zero = no_request
request_of (suc n) = record { work = Left (suc n) }

unfoldable pub requests_of : List ℕ → List Request
requests_of [] = []
requests_of (l ∷ ls) = request_of l ∷ requests_of ls

unfoldable pub job_records : List Job → List JobRecord
job_records [] = []
job_records (j ∷ js) = record { left = j.left; promise = record { 0 = j.promise } } ∷ job_records js

-- the first n places: xs, and then a in each that is unused
abbrev pub padded : {A : Type 0} → ℕ → A → List A → List A
padded n a xs = take n (xs ++ replicate n a)

-- "The running state has room for sixteen requests and eight jobs": the state that has this view
unfoldable pub state_of : View → State
state_of v = record {
  now = record { 0 = v.now };
  requests = padded 16 no_request (requests_of v.lefts);
  jobs = padded 8 no_job (job_records v.jobs);
  waiting = length v.jobs;
  given = v.given;
  idle = v.idle;
}

-- ---- the table's record

-- "The table is lent as a run of task records": the first of a table's sixteen places
unfoldable pub tasks_of : Table → List Task
tasks_of t = take t.count t.tasks

abbrev pub no_task : Task
no_task = record { work = 0; deadline = 0; period = 0 }

-- the table of a lent run: how many tasks it has, and the first sixteen of them
unfoldable pub table_of : List Task → Table
table_of ts = record { tasks = padded 16 no_task ts; count = length ts }
