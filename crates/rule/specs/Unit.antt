-- The one unit of a slot, on the state's places.
use Rattle.std.specs.Prelude.{ℕ, suc, ◌-◌, ◌≤◌, cond, List, ◌∷◌, ◌++◌, eqb, get_or, set, take, drop}
use Rattle.paper.specs.declared.Job.{Job}
use Rattle.paper.specs.declared.State.{State}
use Rattle.paper.specs.declared.Who.{Who}
use Rattle.paper.specs.declared.Who.TheVariants.{Idle, Task as TaskOf, Job as JobOf}
use Rattle.paper.specs.View.{left_of, request_of, no_request, no_job}
use Rattle.theory.specs.States.{put_requests, put_jobs}

-- the n jobs after the first move up, and the place of the last of them is clear
abbrev pub moved_up : List Job → ℕ → List Job
moved_up js n = take n (drop 1 js) ++ (no_job ∷ drop (suc n) js)

-- the oldest job leaves and the rest move up
abbrev pub dropped_oldest : State → State
dropped_oldest s = put_jobs s (moved_up s.jobs (s.waiting - 1)) (s.waiting - 1)

-- the oldest job has l left
abbrev pub changed_oldest : State → ℕ → State
changed_oldest s l = put_jobs s (set s.jobs 0 (record { left = l; promise = (get_or s.jobs 0 no_job).promise })) s.waiting

abbrev pub served_oldest : State → State
served_oldest s = cond (eqb ((get_or s.jobs 0 no_job).left - 1) 0) (dropped_oldest s) (changed_oldest s ((get_or s.jobs 0 no_job).left - 1))

-- request j, from 0, has one unit less
abbrev pub spent_at : State → ℕ → State
spent_at s j = put_requests s (set s.requests j (request_of (left_of (get_or s.requests j no_request).work - 1)))

abbrev pub unit_of : Who → State → State
unit_of Idle s = s
unit_of (TaskOf j) s = spent_at s (j - 1)
unit_of (JobOf p) s = served_oldest s

-- there is a unit to do
abbrev pub CanRun : Who → State → Type 0
CanRun Idle s = Unit {0}
CanRun (TaskOf j) s = (1 ≤ j) × (j ≤ 16) × (1 ≤ left_of (get_or s.requests (j - 1) no_request).work)
CanRun (JobOf p) s = (1 ≤ s.waiting) × (s.waiting ≤ 8) × (1 ≤ (get_or s.jobs 0 no_job).left)
