-- Refusals 1 to 3 from what the code has tested: each is given, or passed.
use Rattle.std.specs.Prelude.{◌≡◌, refl, Bool, true, false, cond, List, [], ◌∷◌, ℕ, suc, ◌+◌, ◌≤◌, ◌<◌, ltb, length, take, drop, get_or, Option, Some, None}
use Rattle.std.specs.List.{position_from}
use Rattle.std.proofs.Common.{◌∙◌, arith, add-one, length-take, take-suc, take-append-drop}
use borrow.Author.Tests.{lt-ltb, le-ltb}
use Rattle.paper.specs.declared.Task.{Task}
use Rattle.paper.specs.declared.Table.{Table}
use Rattle.paper.specs.declared.Verdict.{Verdict}
use Rattle.paper.specs.declared.Refusal.{Refusal}
use Rattle.paper.specs.declared.Refusal.TheVariants.{NoOrManyTasks}
use Rattle.paper.specs.Demand.{AllGood}
use Rattle.paper.specs.Window.{lcm, window}
use Rattle.paper.specs.View.{no_task, tasks_of}
use Rattle.paper.specs.Refusals.{passed, at, breaks, first_breaking, refusal_1, refusal_2, refusal_3}
use Rattle.paper.specs.Refused.{numbered, verdict_of}
use Rattle.paper.specs.Calls.{first_given, power_on_verdict, one_to_three}
use Rattle.theory.specs.Verdicts.{when_given, when_passed, or_true_right}
use Rattle.theory.specs.Said.{said_first, pass_first, said_front, pass_front, passed_number}
use Rattle.theory.specs.Limits.{Limits}
use Rattle.theory.specs.Ready.{Ready, window-kept}
use Rattle.theory.specs.OneVerdict.{one_when, one_at}
use Rattle.theory.specs.WindowLaws.{window_more, window-first}

-- ---- 1

module _ (n : ℕ) where
  pub no_task_lem : n < 1 → refusal_1 n ≡ numbered 1 0
  unfolding refusal_1
  no_task_lem h = rw (lt-ltb n 1 h)

  pub many_tasks_lem : 16 < n → refusal_1 n ≡ numbered 1 0
  unfolding refusal_1
  many_tasks_lem h = when_given 1 (or_true_right (ltb n 1) (lt-ltb 16 n h))

  pub count-good : 1 ≤ n → n ≤ 16 → refusal_1 n ≡ passed
  unfolding refusal_1
  count-good h k = rw (le-ltb n 1 h, le-ltb 16 n k)

-- ---- 2

-- what the place of the first such task says, from 0
abbrev pub placed : Option ℕ → Verdict
placed None = passed
placed (Some i) = numbered 2 (i + 1)

placed_cond : (b : Bool) (n : ℕ) (o : Option ℕ) (p : Option ℕ) → at o 2 ≡ placed p → at (cond b (Some (suc n)) o) 2 ≡ placed (cond b (Some n) p)
placed_cond true n o p e = rw (add-one n)
placed_cond false n o p e = e

placed_is : (n : ℕ) (ts : List Task) → at (first_breaking n ts) 2 ≡ placed (position_from breaks n ts)
unfolding first_breaking
placed_is n [] = refl
placed_is n (t ∷ ts) = placed_cond (breaks t) n (first_breaking (suc n) ts) (position_from breaks (n + 1) ts) (rw (add-one n) (placed_is (suc n) ts))

pub bad_task : (ts : List Task) → refusal_2 ts ≡ placed (position_from breaks 0 ts)
unfolding refusal_2
bad_task ts = placed_is 0 ts

in_cond : (b : Bool) (n i m : ℕ) (p : Option ℕ) → n < m → (Some i ≡ p → i < m) → Some i ≡ cond b (Some n) p → i < m
in_cond true n i m p h k e = let same : i ≡ n = cc in omega arith
in_cond false n i m p h k e = k e

placed_in : (n i : ℕ) (ts : List Task) → Some i ≡ position_from breaks n ts → i < n + length ts
placed_in n i [] e = let z : ◌≡◌ {A = ℕ} 0 1 = cc in absurd (omega arith)
placed_in n i (t ∷ ts) e =
    in_cond (breaks t) n i (n + length (t ∷ ts)) (position_from breaks (n + 1) ts) (omega arith) (λ q. omega (arith, placed_in (n + 1) i ts q)) e

-- of at most sixteen tasks, a place below sixteen
pub bad_place : (t : Table) (i : ℕ) → t.count ≤ 16 → Some i ≡ position_from breaks 0 (tasks_of t) → i < 16
unfolding tasks_of
bad_place t i h e = omega (arith, placed_in 0 i (tasks_of t) e, length-take t.count t.tasks)

-- ---- 1 and 2

module _ (t : Table) where
  pub said_count : refusal_1 t.count ≡ numbered 1 0 → power_on_verdict t ≡ numbered 1 0
  unfolding power_on_verdict
  said_count e = said_first (refusal_2 (tasks_of t) ∷ []) (NoOrManyTasks 0) e

  pub said_tasks : refusal_1 t.count ≡ passed → power_on_verdict t ≡ refusal_2 (tasks_of t)
  unfolding power_on_verdict refusal_2
  said_tasks e = pass_first (refusal_2 (tasks_of t) ∷ []) e ∙ one_at (first_breaking 0 (tasks_of t)) 1

  module _ (Some : 1 ≤ t.count) (few : t.count ≤ 16) (o : Option ℕ) (e : o ≡ position_from breaks 0 (tasks_of t)) where
    pub said_bad : power_on_verdict t ≡ placed o
    said_bad = rw e (said_tasks (count-good t.count Some few) ∙ bad_task (tasks_of t))

-- ---- 3

module _ (ts : List Task) where
  pub window-long : 30000 < window ts → refusal_3 ts ≡ numbered 3 0
  unfolding refusal_3
  window-long h = when_given 3 (lt-ltb 30000 (window ts) h)

  pub window-good : window ts ≤ 30000 → refusal_3 ts ≡ passed
  unfolding refusal_3
  window-good h = when_passed 3 (le-ltb 30000 (window ts) h)

  pub window-next : (i : ℕ) → i < length ts → lcm (window (take i ts)) (get_or ts i no_task).period ≡ window (take (i + 1) ts)
  window-next i h = rw (add-one i, take-suc ts i no_task h, window_more (take i ts) (get_or ts i no_task))

  pub window-so_far : (i : ℕ) → AllGood ts → window (take i ts) ≤ window ts
  window-so_far i g =
      let e = take-append-drop i ts in
      rw e at (window-first (take i ts) (drop i ts) (rw e g))

-- ---- 1 to 3

module _ (t : Table) where
  pub said_two : (r : Refusal) → power_on_verdict t ≡ verdict_of r → first_given (one_to_three t) ≡ verdict_of r
  unfolding power_on_verdict
  said_two r e = said_front (refusal_1 t.count ∷ refusal_2 (tasks_of t) ∷ []) (refusal_3 (tasks_of t) ∷ []) r e

  pub said_three : power_on_verdict t ≡ passed → first_given (one_to_three t) ≡ refusal_3 (tasks_of t)
  unfolding power_on_verdict refusal_3
  said_three e =
      pass_front (refusal_1 t.count ∷ refusal_2 (tasks_of t) ∷ []) (refusal_3 (tasks_of t) ∷ []) e
      ∙ one_when (ltb 30000 (window (tasks_of t))) 2

pub is_ready : (t : Table) (w : ℕ) → Limits t → refusal_3 (tasks_of t) ≡ passed → w ≡ window (tasks_of t) → Ready t w
is_ready t w l e q =
    record { some_task = l.some_task; few = l.few; good = l.good; is_window = q; short = rw q (window-kept (tasks_of t) (passed_number e)) }
