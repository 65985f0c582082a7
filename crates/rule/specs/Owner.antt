-- The owner of a slot, as the answer names it, from what a walk over the requests tells and the oldest job.
use Rattle.std.specs.Prelude.{ℕ, suc, ◌+◌, ◌-◌, ◌<◌, Bool, true, false, cond, List, [], ◌∷◌, leb, Option, Some, None}
use Rattle.paper.specs.declared.Job.{Job as JobRecord}
use Rattle.paper.specs.declared.Who.{Who}
use Rattle.paper.specs.declared.Who.TheVariants.{Idle, Task as TaskOf, Job as JobOf}
use Rattle.paper.specs.View.{Job}
use Rattle.paper.specs.Rule.{Does, nothing, task, job, First, none_left, first-is}
use Rattle.rule.specs.declared.Due.{Due}
use Rattle.rule.specs.declared.First.{First as Found}

-- the request of task i that is due at d
abbrev pub due_of : (i d : ℕ) → Due
due_of i d = record { task = i; due = record { 0 = d } }

-- the first request that the walk tells of
abbrev pub first_of : Option Due → First
first_of None = none_left
first_of (Some d) = first-is d.task d.due.0

-- what it tells of a first request
abbrev pub told_of : First → Option Due
told_of none_left = None
told_of (first-is j d) = Some (due_of j d)

-- and of n units that are due by the slot's end
abbrev pub found_of : First → ℕ → Found
found_of f n = record { first = told_of f; soon = n }

-- one request more in front: whether it is unfinished, its task and its deadline
abbrev pub sooner : Bool → (at d : ℕ) → Option Due → Option Due
sooner false at d best = best
sooner true at d None = Some (due_of at d)
sooner true at d (Some e) = Some (cond (leb d e.due.0) (due_of at d) e)

-- and its units that are due by the slot's end
abbrev pub found_by : Found → Bool → (at d units : ℕ) → Found
found_by best unfinished at d units = record { first = sooner unfinished at d best.first; soon = units + best.soon }

-- its task is one of sixteen
abbrev pub TaskFits : Option Due → Type 0
TaskFits None = Unit {0}
TaskFits (Some d) = d.task < 16

abbrev pub oldest_of : List Job → Option JobRecord
oldest_of [] = None
oldest_of (j ∷ js) = Some (record { left = j.left; promise = record { 0 = j.promise } })

abbrev pub owner_of : First → Option JobRecord → Who
owner_of none_left None = Idle
owner_of none_left (Some j) = JobOf j.promise
owner_of (first-is i d) None = TaskOf (suc i)
owner_of (first-is i d) (Some j) = cond (leb j.promise.0 d) (JobOf j.promise) (TaskOf (suc i))

-- what the answer says was done
abbrev pub does_of : Who → Does
does_of Idle = nothing
does_of (TaskOf j) = task (j - 1)
does_of (JobOf p) = job
