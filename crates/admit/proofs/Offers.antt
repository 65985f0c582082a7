-- 9 to 14 in their order, and what a job that passes is offered.
use mathlib.Core.Path.{◌≡◌, sym, ap, ◌∙◌}
use mathlib.Core.Bool.{◌||◌}
use mathlib.Core.List.{List, [], ◌∷◌, ◌++◌}
use Prim.Native.Nat.{ℕ, ◌+◌, ◌*◌, ◌≤◌, ◌<◌}
use native.Mathlib.Omega.{arith}
use lib.Dec.{leb, ltb, eqb}
use lib.ListN.{length, take}
use borrow.Author.Tests.{eqb-false, ltb-false, leb-false}
use Rattle.std.specs.Prelude.{Result, Ok, Err}
use Rattle.std.specs.Result.{result_and}
use Rattle.paper.specs.declared.Task.{Task}
use Rattle.paper.specs.declared.State.{State}
use Rattle.paper.specs.declared.Job.{Job as JobRecord}
use Rattle.paper.specs.declared.Latest.{Latest}
use Rattle.paper.specs.declared.Verdict.{Verdict}
use Rattle.paper.specs.declared.Refusal.{Refusal}
use Rattle.paper.specs.Vectors.{sum, F}
use Rattle.paper.specs.Idle.{promise, job_lefts, promise_of}
use Rattle.paper.specs.View.{Job, View, jobs_of, view_of, tasks_of}
use Rattle.paper.specs.Refusals.{passed, refusal_10, refusal_11, refusal_12, refusal_13, refusal_14}
use Rattle.paper.specs.Refused.{verdict_of, Judges}
use Rattle.paper.specs.Calls.{first_given, nine_to_fourteen}
use Rattle.theory.specs.Verdicts.{when_not, or_false_both, none_given}
use Rattle.theory.specs.Said.{passed_number, said_front, pass_front}
use Rattle.theory.specs.States.{KeptJobs}
use Rattle.window.specs.declared.Windowed.{Windowed}
use Rattle.moving.specs.declared.Made.{Made}
use Rattle.promise.specs.declared.Vectors.{Vectors}
use Rattle.fit.specs.Ground.{Ground, three_rules}
use Rattle.admit.specs.Parts.{ten_to_twelve}

-- ---- the work of the waiting jobs

sum_kept : (low : ℕ) (js : List Job) → KeptJobs low js → sum (job_lefts js) ≤ length js * 30000
unfolding sum job_lefts
sum_kept low [] k = omega arith
sum_kept low (j ∷ js) k = omega (arith, k.0.most, sum_kept _ js k.1)

-- ---- what 10 to 12 leave to know

pub record Wanted (work waiting idle : ℕ) : Type 0 where
  pub some : 1 ≤ work
  pub most : work ≤ 30000
  pub free : waiting < 8
  pub some_idle : 1 ≤ idle

module _ (w : Windowed) (s : State) (v : Vectors) (g : Ground w s v.made v.k.now v.y.now) (work : ℕ) (latest : Latest) where
  abbrev ts : List Task
  ts = tasks_of w.within.table

  abbrev view : View
  view = view_of w.within.table.count s

  abbrev p : ℕ
  p = promise_of (tasks_of w.within.table) (view_of w.within.table.count s) work

  abbrev last : List Verdict
  last = refusal_13 p ∷ refusal_14 p latest ∷ []

  abbrev middle : List Verdict
  middle = ten_to_twelve work s.waiting v.made.idle

  abbrev all : Verdict
  all = first_given (nine_to_fourteen ts view work latest)

  middle_is : middle ≡ refusal_10 work ∷ refusal_11 view ∷ refusal_12 ts ∷ []
  unfolding refusal_11 refusal_12
  middle_is =
      let i : v.made.idle ≡ F ts = ap (λ (m : Made). m.idle) g.numbers in
      rw (i, g.shape.many_jobs)

  all_are : nine_to_fourteen ts view work latest ≡ three_rules ts view ++ (middle ++ last)
  all_are = ap (λ (rs : List Verdict). three_rules ts view ++ (rs ++ last)) (sym middle_is)

  -- 9 to 12 are asked in one
  abbrev pub early : Verdict
  early = first_given (three_rules ts view ++ middle)

  pub says_early : (a b : Result (Unit {0}) Refusal) → Judges (first_given (three_rules ts view)) a → Judges (first_given middle) b
      → Judges early (result_and a b)
  says_early (Ok x) (Ok z) i j = (pass_front (three_rules ts view) middle i.0 ∙ j.0, tt)
  says_early (Ok x) (Err r) i j = pass_front (three_rules ts view) middle i.0 ∙ j
  says_early (Err r) b i j = said_front (three_rules ts view) middle r i

  pub said_early : (r : Refusal) → early ≡ verdict_of r → all ≡ verdict_of r
  said_early r e = rw all_are (said_front (three_rules ts view ++ middle) last r e)

  module _ (e : early ≡ passed) where
    past_early : all ≡ first_given last
    past_early = rw all_are (pass_front (three_rules ts view ++ middle) last e)

    pub is_wanted : Wanted work s.waiting v.made.idle
    unfolding refusal_10
    is_wanted =
        let a = none_given (three_rules ts view ++ middle) (passed_number e) in
        let b = or_false_both (eqb work 0) (ltb 30000 work) (when_not (eqb work 0 || ltb 30000 work) 9 a.1.1.1.0) in
        record {
          some = omega (arith, eqb-false work 0 b.0);
          most = ltb-false 30000 work b.1;
          free = leb-false 8 s.waiting (when_not (leb 8 s.waiting) 10 a.1.1.1.1.0);
          some_idle = omega (arith, eqb-false v.made.idle 0 (when_not (eqb v.made.idle 0) 11 a.1.1.1.1.1.0));
        }

    -- the promise q for the work n of the waiting jobs, and the new work
    module _ (n q : ℕ) (js : List JobRecord) (en : n ≡ sum (job_lefts (jobs_of js))) (ej : js ≡ take s.waiting s.jobs)
        (eq : q ≡ promise ts view.lefts s.now.0 (n + work)) where
      pub promise-is : q ≡ p
      unfolding view_of
      promise-is = eq ∙ rw (en, ej)

      last_is : first_given (refusal_13 q ∷ refusal_14 q latest ∷ []) ≡ first_given last
      last_is = rw promise-is

      pub said_late : (r : Refusal) → first_given (refusal_13 q ∷ refusal_14 q latest ∷ []) ≡ verdict_of r → all ≡ verdict_of r
      said_late r e = past_early ∙ sym last_is ∙ e

      pub pass_late : first_given (refusal_13 q ∷ refusal_14 q latest ∷ []) ≡ passed → all ≡ passed
      pass_late e = past_early ∙ sym last_is ∙ e

  -- ---- the need

  pub waiting_work : (n : ℕ) (js : List JobRecord) → n ≡ sum (job_lefts (jobs_of js)) → js ≡ take s.waiting s.jobs → n ≤ 240000
  unfolding view_of
  waiting_work n js en ej = rw (en, ej) (omega (arith, sum_kept 0 view.jobs g.shape.jobs, g.shape.many_jobs, g.shape.few))
