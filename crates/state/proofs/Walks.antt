-- One place more in front, of each walk over a state's requests and jobs.
use mathlib.Core.Path.{◌≡◌, refl, ap, ◌∙◌}
use mathlib.Core.Bool.{Bool, true, false, not, ◌||◌, ◌&&◌}
use mathlib.Core.List.{List, [], ◌∷◌, ◌++◌, append_assoc}
use Prim.Native.Nat.{ℕ, zero, suc, ◌+◌, ◌%◌, ◌-◌, ◌≤◌, ◌<◌}
use native.Mathlib.Omega.{arith}
use native.Mathlib.Nat.{le_of_suc-le-suc}
use native.Mathlib.Numerals.{add-one}
use borrow.Author.Tests.{ltb-false}
use lib.Dec.{leb, ltb, eqb}
use lib.ListN.{length, take, drop, get_or, replicate, drop_of_length-le}
use Rattle.std.specs.List.{list_any, sum_by}
use Rattle.std.proofs.lemmas.List.Sums.{sum_by-cons}
use lib.Seq.{take-suc, drop-cons}
use Rattle.paper.specs.declared.Task.{Task}
use Rattle.paper.specs.declared.Work.TheVariants.{Left as LeftOf}
use Rattle.paper.specs.declared.Request.{Request}
use Rattle.paper.specs.declared.Job.{Job as JobRecord}
use Rattle.paper.specs.Demand.{pick, deadline_at}
use Rattle.paper.specs.Vectors.{sum}
use Rattle.paper.specs.Idle.{job_lefts}
use Rattle.paper.specs.View.{left_of, request_lefts, jobs_of, no_request, no_job, request_of, requests_of, no_task}
use Rattle.paper.specs.Rule.{enter}
use Rattle.paper.specs.Refusals.{H, unclear, one_unclear, bad_left, bad_requests, bad_waiting, one_used, late_request, late_job}
use Rattle.theory.specs.Scan.{Left, from, from_none, from_before}
use Rattle.theory.specs.Verdicts.{or_false_both}
use Rattle.theory.specs.States.{Stated, AllStated}
use Rattle.state.specs.Shaped.{bad_job}

pub drop-before : {A : Type 0} (l : List A) (z : A) (i : ℕ) → 0 < i → i ≤ length l → drop (i - 1) l ≡ get_or l (i - 1) z ∷ drop i l
drop-before l z i p h =
    let e : suc (i - 1) ≡ i = omega arith in
    rw (drop-cons l (i - 1) z (omega arith), e)

pub some_request : (n : ℕ) → (n ≡ 0 → ⊥) → request_of n ≡ record { work = LeftOf n }
some_request zero h = absurd (h refl)
some_request (suc n) h = refl

-- ---- requests that are not `Left 0`

pub stated_take : (n : ℕ) (rs : List Request) → AllStated rs → AllStated (take n rs)
stated_take zero rs a = tt
stated_take (suc n) [] a = tt
stated_take (suc n) (r ∷ rs) a = (a.0, stated_take n rs a.1)

pub stated_none : (n : ℕ) → AllStated (replicate n no_request)
stated_none zero = tt
stated_none (suc n) = (refl, stated_none n)

stated_at : (rs : List Request) (n i : ℕ) → AllStated (take n rs) → i < n → i < length rs → Stated (get_or rs i no_request)
stated_at [] n i a h k = absurd (omega arith)
stated_at (r ∷ rs) zero i a h k = absurd (omega arith)
stated_at (r ∷ rs) (suc n) zero a h k = a.0
stated_at (r ∷ rs) (suc n) (suc i) a h k = stated_at rs n i a.1 (le_of_suc-le-suc h) (le_of_suc-le-suc k)

-- what is not changed stays in front
keep_before : {A : Type 0} (l xs : List A) (i : ℕ) (z : A) → 0 < i → i ≤ length l
    → take i l ++ xs ≡ take (i - 1) l ++ (get_or l (i - 1) z ∷ xs)
keep_before l xs i z p h =
    let e : i ≡ suc (i - 1) = omega arith in
    ap (λ (n : ℕ). take n l ++ xs) e ∙ rw (take-suc l (i - 1) z (omega arith)) (append_assoc (take (i - 1) l) (get_or l (i - 1) z ∷ []) xs)

module _ (ts : List Task) (rs : List Request) (n : ℕ) where
  pub bad_none : bad_requests (from ts n n) (drop n rs) ≡ one_unclear (drop n rs)
  unfolding bad_requests
  bad_none = rw (from_none ts n)

  module _ (i : ℕ) (h : Left ts n i) (k : n ≤ length rs) where
    abbrev same : Left rs n i
    same = (h.0, h.1, k)

    pub bad_before : bad_requests (from ts n (i - 1)) (drop (i - 1) rs)
        ≡ bad_left (get_or rs (i - 1) no_request).work (get_or ts (i - 1) no_task).work || bad_requests (from ts n i) (drop i rs)
    unfolding bad_requests
    bad_before = rw (from_before ts n no_task i h, drop-before rs no_request i h.0 (omega arith))

    pub late_before : (now at : ℕ) → late_request (from ts n (i - 1)) (request_lefts (from rs n (i - 1))) now at
        ≡ (leb 1 (left_of (get_or rs (i - 1) no_request).work) && leb (deadline_at (get_or ts (i - 1) no_task) now) at)
        || late_request (from ts n i) (request_lefts (from rs n i)) now at
    unfolding late_request request_lefts
    late_before now at = rw (from_before ts n no_task i h, from_before rs n no_request i same)

    pub enter-before : (at : ℕ) → requests_of (enter (from ts n (i - 1)) at (request_lefts (from rs n (i - 1))))
        ≡ request_of (pick (eqb (at % (get_or ts (i - 1) no_task).period) 0) (get_or ts (i - 1) no_task).work (left_of (get_or rs (i - 1) no_request).work))
        ∷ requests_of (enter (from ts n i) at (request_lefts (from rs n i)))
    unfolding enter request_lefts requests_of
    enter-before at = rw (from_before ts n no_task i h, from_before rs n no_request i same)

    -- a request that is not released
    pub keep_entered : (at : ℕ) (rest : List Request) → AllStated (take n rs) → eqb (at % (get_or ts (i - 1) no_task).period) 0 ≡ false
        → take i rs ++ (requests_of (enter (from ts n i) at (request_lefts (from rs n i))) ++ rest)
        ≡ take (i - 1) rs ++ (requests_of (enter (from ts n (i - 1)) at (request_lefts (from rs n (i - 1)))) ++ rest)
    keep_entered at rest a e =
        rw (enter-before at, e, stated_at rs n (i - 1) a (omega arith) (omega arith))
        (keep_before rs (requests_of (enter (from ts n i) at (request_lefts (from rs n i))) ++ rest) i no_request h.0 (omega arith))

  pub late_none : (now at : ℕ) → late_request (from ts n n) (request_lefts (from rs n n)) now at ≡ false
  unfolding late_request
  late_none now at = rw (from_none ts n)

  pub enter-none : (at : ℕ) → requests_of (enter (from ts n n) at (request_lefts (from rs n n))) ≡ []
  unfolding enter requests_of
  enter-none at = rw (from_none ts n)

-- ---- each test of a list as one of its elements

pub unclear_any : (rs : List Request) → one_unclear rs ≡ list_any (λ r. unclear r.work) rs
unfolding one_unclear
unclear_any [] = refl
unclear_any (r ∷ rs) = rw (unclear_any rs)

pub used_any : (js : List JobRecord) → one_used js ≡ list_any (λ j. not (eqb j.left 0) || not (eqb j.promise.0 0)) js
unfolding one_used
used_any [] = refl
used_any (j ∷ js) = rw (used_any js)

pub late_any : (js : List JobRecord) (at : ℕ) → late_job (jobs_of js) at ≡ list_any (λ j. leb j.promise.0 at) js
unfolding late_job jobs_of
late_any [] at = refl
late_any (j ∷ js) at = rw (late_any js at)

pub work_sum : (js : List JobRecord) → sum (job_lefts (jobs_of js)) ≡ sum_by (λ j. j.left) js
unfolding sum job_lefts jobs_of
work_sum [] = refl
work_sum (j ∷ js) = omega (arith, work_sum js, sum_by-cons (λ (x : JobRecord). x.left) j js)

-- ---- the waiting jobs, from the oldest on

pub or_assoc : (a b c : Bool) → a || (b || c) ≡ (a || b) || c
or_assoc true b c = refl
or_assoc false b c = refl

pub waiting_more : (js : List JobRecord) (i low : ℕ) → i < length js
    → bad_waiting low (drop i js) ≡ bad_job low (get_or js i no_job) || bad_waiting (suc (get_or js i no_job).promise.0) (drop (i + 1) js)
unfolding bad_waiting
waiting_more js i low h =
    let j = get_or js i no_job in
    let p = j.promise.0 in
    rw (drop-cons js i no_job h, add-one i)
    (or_assoc (eqb j.left 0 || ltb 30000 j.left) (ltb p low || ltb H p) (bad_waiting (suc p) (drop (suc i) js)))

pub waiting_end : (js : List JobRecord) (i low : ℕ) → length js ≤ i → bad_waiting low (drop i js) ≡ false
unfolding bad_waiting
waiting_end js i low h = rw (drop_of_length-le js {i = i} h)

pub bad_clock : (low : ℕ) (j : JobRecord) → bad_job low j ≡ false → j.promise.0 ≤ H
bad_clock low j e =
    let p = j.promise.0 in
    let a = or_false_both (eqb j.left 0 || ltb 30000 j.left) (ltb p low || ltb H p) e in
    ltb-false H p (or_false_both (ltb p low) (ltb H p) a.1).1
