-- Refusal 8 by what one walk over the requests tells, and the oldest job.
use Rattle.std.specs.Prelude.{ℕ, suc, ◌+◌, Bool, ◌||◌, leb, ltb, Option, Some, None}
use Rattle.paper.specs.declared.Job.{Job}
use Rattle.paper.specs.Demand.{pick}
use Rattle.theory.specs.DueBy.{late_first}
use Rattle.rule.specs.declared.First.{First}
use Rattle.rule.specs.Owner.{first_of}

-- the work left of the oldest job, if its promise is at or before u
abbrev pub work_by : Option Job → ℕ → ℕ
work_by None u = 0
work_by (Some j) u = pick (leb j.promise.0 u) j.left 0

-- work is due by now, or more than one unit by the next now; v is the offset of now
abbrev pub too_late : First → ℕ → Option Job → ℕ → Bool
too_late f v o now = late_first (first_of f.first) v || (ltb 0 (work_by o now) || ltb 1 (f.soon + work_by o (suc now)))
