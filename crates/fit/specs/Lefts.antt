-- The waiting jobs that 9's third rule walks over: what is left of each.
use Rattle.std.specs.Prelude.{ℕ, zero, suc, ◌≤◌, ◌<◌, List, [], ◌∷◌, length, take, get_or}
use Rattle.std.proofs.Common.{arith, le_of_suc-le-suc}
use Rattle.paper.specs.declared.Job.{Job}
use Rattle.paper.specs.View.{jobs_of, no_job}
use Rattle.theory.specs.States.{KeptJobs}

-- each of the first n jobs has work left that refusal 7 allows
abbrev pub Lefts : ℕ → List Job → Type 0
Lefts n js = (i : ℕ) → i < n → (1 ≤ (get_or js i no_job).left) × ((get_or js i no_job).left ≤ 30000)

pub kept_lefts : (low n : ℕ) (js : List Job) → KeptJobs low (jobs_of (take n js)) → n ≤ length js → Lefts n js
unfolding jobs_of
kept_lefts low zero js k h i l = absurd (omega arith)
kept_lefts low (suc n) [] k h i l = absurd (omega arith)
kept_lefts low (suc n) (j ∷ js) k h zero l = (k.0.some_left, k.0.most)
kept_lefts low (suc n) (j ∷ js) k h (suc i) l = kept_lefts (suc j.promise.0) n js k.1 (le_of_suc-le-suc h) i (le_of_suc-le-suc l)
