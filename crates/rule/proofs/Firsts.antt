-- What the walk over the requests tells: one request more in front, and that it tells of the paper's first; the oldest job.
use mathlib.Core.Path.{◌≡◌, refl, ap, ◌∙◌}
use mathlib.Core.Bool.{Bool, true, false, cond}
use mathlib.Core.List.{List, [], ◌∷◌}
use Prim.Native.Nat.{ℕ, suc, ◌+◌, ◌-◌, ◌≤◌, ◌<◌}
use native.Mathlib.Omega.{arith}
use lib.Dec.{leb}
use lib.ListN.{length, get_or}
use Rattle.paper.specs.declared.Task.{Task}
use Rattle.paper.specs.declared.Request.{Request}
use Rattle.paper.specs.Demand.{deadline_at, present_due}
use Rattle.paper.specs.declared.Job.{Job as JobRecord}
use Rattle.paper.specs.View.{left_of, request_lefts, jobs_of, no_request, no_task}
use Rattle.paper.specs.Rule.{First, none_left, first-is, better, first}
use Rattle.theory.specs.Counting.{due-done}
use Rattle.theory.specs.Scan.{Left, from, from_none, from_before}
use Rattle.theory.specs.DueBy.{due_by}
use Rattle.rule.specs.declared.First.{First as Found}
use Rattle.rule.specs.declared.Due.{Due}
use Rattle.rule.specs.Owner.{due_of, first_of, told_of, found_of, found_by, oldest_of, TaskFits}
use Rattle.std.specs.Prelude.{Option, None, Some, slice_get}

-- what is told of the requests from task i on
abbrev pub told_from : ℕ → First → Option Due
told_from i none_left = None
told_from i (first-is j d) = Some (due_of (i + j) d)

abbrev pub told : ℕ → First → ℕ → Found
told i f n = record { first = told_from i f; soon = n }

same-task : (j k d n : ℕ) → j ≡ k → ◌≡◌ {A = Found} (record { first = Some (due_of j d); soon = n }) (record { first = Some (due_of k d); soon = n })
same-task j k d n e = ap (λ (i : ℕ). record { first = Some (due_of i d); soon = n }) e

told_first : (c : Bool) (i j d e n : ℕ)
    → record { first = Some (cond c (due_of i d) (due_of (suc i + j) e)); soon = n } ≡ told i (cond c (first-is 0 d) (first-is (suc j) e)) n
told_first true i j d e n = same-task i (i + 0) d n (omega arith)
told_first false i j d e n = same-task (suc i + j) (i + suc j) e n (omega arith)

-- one request more in front: a finished one changes nothing
pub found_done : (best : Found) (at : ℕ) (t : Task) (v : ℕ)
    → best ≡ found_by best (leb 1 0) at (deadline_at t v) (present_due t 0 v (suc v))
found_done best at t v =
    let e : best.soon ≡ present_due t 0 v (suc v) + best.soon = omega (arith, due-done t v (suc v)) in
    ap (λ (n : ℕ). record { first = best.first; soon = n }) e

told_better : (i d units n : ℕ) (b : Bool) (f : First) → found_by (told (suc i) f n) b i d units ≡ told i (better b d f) (units + n)
told_better i d units n false none_left = refl
told_better i d units n false (first-is j e) = same-task (suc i + j) (i + suc j) e (units + n) (omega arith)
told_better i d units n true none_left = same-task i (i + 0) d (units + n) (omega arith)
told_better i d units n true (first-is j e) = told_first (leb d e) i j d e (units + n)

pub told_all : (f : First) (n : ℕ) → told 0 f n ≡ found_of f n
told_all none_left n = refl
told_all (first-is j d) n = same-task (0 + j) j d n (omega arith)

module _ (ts : List Task) (rs : List Request) (n : ℕ) (v : ℕ) where
  pub first-none : told n (first (from ts n n) (request_lefts (from rs n n)) v) (due_by (from ts n n) (request_lefts (from rs n n)) v (suc v))
      ≡ record { first = None; soon = 0 }
  unfolding first due_by
  first-none = rw (from_none ts n)

  pub first-before : (i : ℕ) → Left ts n i → n ≤ length rs
      → found_by (told i (first (from ts n i) (request_lefts (from rs n i)) v) (due_by (from ts n i) (request_lefts (from rs n i)) v (suc v)))
      (leb 1 (left_of (get_or rs (i - 1) no_request).work)) (i - 1) (deadline_at (get_or ts (i - 1) no_task) v)
      (present_due (get_or ts (i - 1) no_task) (left_of (get_or rs (i - 1) no_request).work) v (suc v))
      ≡ told (i - 1) (first (from ts n (i - 1)) (request_lefts (from rs n (i - 1))) v)
      (due_by (from ts n (i - 1)) (request_lefts (from rs n (i - 1))) v (suc v))
  unfolding first request_lefts due_by
  first-before i h k =
      let t = get_or ts (i - 1) no_task in
      let l = left_of (get_or rs (i - 1) no_request).work in
      let d = deadline_at t v in
      let units = present_due t l v (suc v) in
      let f = first (from ts n i) (request_lefts (from rs n i)) v in
      let m = due_by (from ts n i) (request_lefts (from rs n i)) v (suc v) in
      let e : i ≡ suc (i - 1) = omega arith in
      let same : Left rs n i = (h.0, h.1, k) in
      rw (from_before ts n no_task i h, from_before rs n no_request i same)
      (ap (λ (q : ℕ). found_by (told q f m) (leb 1 l) (i - 1) d units) e ∙ told_better (i - 1) d units m (leb 1 l) f)

-- ---- the first request is one of n tasks'

abbrev InTable : ℕ → First → Type 0
InTable n none_left = Unit {0}
InTable n (first-is j d) = j < n

better_in : (b : Bool) (d n : ℕ) (p : First) → InTable n p → InTable (suc n) (better b d p)
better_in false d n none_left h = tt
better_in false d n (first-is j e) h = omega arith
better_in true d n none_left h = omega arith
better_in true d n (first-is j e) h = go (leb d e)
  where
    go : (c : Bool) → InTable (suc n) (cond c (first-is 0 d) (first-is (suc j) e))
    go true = omega arith
    go false = omega arith

first-in : (ts : List Task) (ls : List ℕ) (now : ℕ) → InTable (length ts) (first ts ls now)
unfolding first
first-in [] ls now = tt
first-in (t ∷ ts) [] now = tt
first-in (t ∷ ts) (l ∷ ls) now = better_in (leb 1 l) (deadline_at t now) (length ts) (first ts ls now) (first-in ts ls now)

in_sixteen : (f : First) (n : ℕ) → InTable n f → n ≤ 16 → TaskFits (told_of f)
in_sixteen none_left n h k = tt
in_sixteen (first-is j d) n h k = omega arith

pub found_task : (ts : List Task) (ls : List ℕ) (v : ℕ) → length ts ≤ 16 → TaskFits (told_of (first ts ls v))
found_task ts ls v h = in_sixteen (first ts ls v) (length ts) (first-in ts ls v) h

-- the first request that is told of
pub first_back : (f : First) → first_of (told_of f) ≡ f
first_back none_left = refl
first_back (first-is j d) = refl

-- ---- the oldest job

pub oldest_is : (js : List JobRecord) → slice_get js 0 ≡ oldest_of (jobs_of js)
unfolding jobs_of
oldest_is [] = refl
oldest_is (j ∷ js) = refl
