-- "One slot".
-- Tasks are numbered from 0 here, and from 1 in the answer.
use Rattle.std.specs.Prelude.{ℕ, zero, suc, ◌+◌, ◌*◌, ◌-◌, ◌/◌, ◌%◌, ◌^◌, Bool, true, false, cond, List, [], ◌∷◌, leb, eqb, get_or, set}
use Rattle.paper.specs.declared.Task.{Task}
use Rattle.paper.specs.declared.Who.{Who}
use Rattle.paper.specs.declared.Who.TheVariants.{Idle, Task as TaskOf, Job as JobOf}
use Rattle.paper.specs.Demand.{pick, deadline_at}
use Rattle.paper.specs.Window.{window}
use Rattle.paper.specs.View.{Job, View}

-- a slot is idle, or does one unit of the present request of task j, or one unit of the oldest job
pub data Does : Type 0 where
  nothing : Does
  task : ℕ → Does
  job : Does

-- ---- "Of the unfinished requests and the oldest job the earliest deadline runs; on a tie the job, then the lowest task number."

-- the unfinished request of the earliest deadline: its task and its deadline
pub data First : Type 0 where
  none_left : First
  first-is : ℕ → ℕ → First

-- one more task in front: whether its request is unfinished, its deadline, and the first of the others
abbrev pub better : Bool → ℕ → First → First
better false d none_left = none_left
better false d (first-is j e) = first-is (suc j) e
better true d none_left = first-is 0 d
better true d (first-is j e) = cond (leb d e) (first-is 0 d) (first-is (suc j) e)

unfoldable pub first : List Task → List ℕ → ℕ → First
first [] ls now = none_left
first (t ∷ ts) [] now = none_left
first (t ∷ ts) (l ∷ ls) now = better (leb 1 l) (deadline_at t now) (first ts ls now)

abbrev pub against : First → List Job → Does
against none_left [] = nothing
against none_left (j ∷ js) = job
against (first-is i d) [] = task i
against (first-is i d) (j ∷ js) = cond (leb j.promise d) job (task i)

unfoldable pub runs : List Task → List ℕ → ℕ → List Job → Does
runs ts ls now js = against (first ts ls now) js

-- ---- "One unit is done. A finished job leaves and the rest move up."

unfoldable pub after : Does → List ℕ → List ℕ
after nothing ls = ls
after (task j) ls = set ls j (get_or ls j 0 - 1)
after job ls = ls

-- the oldest job with n left, and the promise p
unfoldable pub onward : ℕ → ℕ → List Job → List Job
onward zero p js = js
onward (suc n) p js = record { left = suc n; promise = p } ∷ js

unfoldable pub serve : Does → List Job → List Job
serve nothing js = js
serve (task i) js = js
serve job [] = []
serve job (j ∷ js) = onward (j.left - 1) j.promise js

-- ---- "Then now rises, releases enter, and at a window's start A and I become 0."

-- the requests that are released at s enter
unfoldable pub enter : List Task → ℕ → List ℕ → List ℕ
enter [] s ls = []
enter (t ∷ ts) s [] = pick (eqb (s % t.period) 0) t.work 0 ∷ enter ts s []
enter (t ∷ ts) s (l ∷ ls) = pick (eqb (s % t.period) 0) t.work l ∷ enter ts s ls

abbrev pub job_unit : Does → ℕ
job_unit nothing = 0
job_unit (task j) = 0
job_unit job = 1

abbrev pub idle_unit : Does → ℕ
idle_unit nothing = 1
idle_unit (task j) = 0
idle_unit job = 0

-- a tally at the time s
unfoldable pub tally : List Task → ℕ → ℕ → ℕ
tally ts s n = pick (eqb (s % window ts) 0) 0 n

-- the view after the slot in which k is done
unfoldable pub doing : List Task → Does → View → View
doing ts k v = record {
  now = suc v.now;
  lefts = enter ts (suc v.now) (after k v.lefts);
  jobs = serve k v.jobs;
  given = tally ts (suc v.now) (v.given + job_unit k);
  idle = tally ts (suc v.now) (v.idle + idle_unit k);
}

abbrev pub runs_in : List Task → View → Does
runs_in ts v = runs ts v.lefts v.now v.jobs

unfoldable pub next : List Task → View → View
next ts v = doing ts (runs_in ts v) v

-- ---- "The answer says idle, task or job, and, for the new state with its releases, after the slot bit j−1 of a sixteen-bit word is
-- set exactly when task j has work left."

unfoldable pub said : Does → List Job → Who
said nothing js = Idle
said (task i) js = TaskOf (suc i)
said job [] = Idle
said job (j ∷ js) = JobOf (record { 0 = j.promise })

-- the paper's number and values of each case: 0 idle, 1–16 a task, 17 a job with its promise
abbrev pub numbers_of : Who → List ℕ
numbers_of Idle = 0 ∷ []
numbers_of (TaskOf j) = j ∷ []
numbers_of (JobOf p) = 17 ∷ p.0 ∷ []

-- and of what a slot does
unfoldable pub said_numbers : Does → List Job → List ℕ
said_numbers nothing js = 0 ∷ []
said_numbers (task i) js = suc i ∷ []
said_numbers job [] = 0 ∷ []
said_numbers job (j ∷ js) = 17 ∷ j.promise ∷ []

-- the word, its lowest bit first
unfoldable pub ready_word : List ℕ → ℕ
ready_word [] = 0
ready_word (l ∷ ls) = pick (leb 1 l) 1 0 + 2 * ready_word ls

-- bit j of a number, and what it is to be
abbrev pub bit : ℕ → ℕ → ℕ
bit n j = n / 2 ^ j % 2

abbrev pub ready_bit : List ℕ → ℕ → ℕ
ready_bit ls j = pick (leb 1 (get_or ls j 0)) 1 0
