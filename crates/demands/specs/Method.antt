-- Demand 2 for the chip, of any lent run of tasks that the table check accepts: what the vectors are and what the paper says of them, in
-- every state that calls reach; and that a slot goes where the rule sends it, which is to an earliest deadline.
use Rattle.std.specs.Prelude.{ℕ, ◌≤◌, ◌≡◌, length, None}
use Rattle.std.proofs.Math.Path.{ap, subst}
use Rattle.std.proofs.Common.{◌∙◌, arith}
use mathlib.Core.List.{List, [], ◌∷◌}
use Rattle.paper.specs.declared.Task.{Task}
use Rattle.paper.specs.declared.State.{State}
use Rattle.paper.specs.Demand.{AllGood}
use Rattle.paper.specs.Places.{K}
use Rattle.paper.specs.Vectors.{D}
use Rattle.paper.specs.View.{View, view_of, state_of, tasks_of, table_of}
use Rattle.paper.specs.Rule.{runs_in, next, said}
use Rattle.paper.specs.Refusals.{overloaded_at, refusal_6}
use Rattle.paper.specs.Calls.{filled, y_of, table_call, moving_call, slot_call}
use Rattle.paper.specs.Reached.{ReachedByCalls}
use Rattle.theory.specs.RuleLaws.{Earliest, runs-earliest}
use Rattle.theory.specs.Verdicts.{at_not}
use Rattle.demands.specs.IdleVectors.{StaticSays, MovingSays, static_says, moving_says}
use Rattle.demands.specs.Always.{never_refused}
use Rattle.demands.specs.Accepted.{table_passed, table_ready, slot_state, slot_who}
use Rattle.demands.specs.Called.{the_tasks, reached_view}
use Rattle.demands.specs.Leaves.{table_fills, moving_fills}

-- ---- the statements

-- what the table check puts into the vectors k and d, and what the paper says of it
pub record StaticVectors (ts : List Task) (k d : List ℕ) : Type 0 where
  pub places : (table_call (table_of ts) k d).k ≡ filled (K ts) k
  pub entries : (table_call (table_of ts) k d).d ≡ filled (D ts) d
  pub says : StaticSays ts

-- what the call for the moving vectors puts into y in the state s, where it is accepted, and what the paper says of it
pub record MovingVectors (ts : List Task) (s : State) : Type 0 where
  pub entries : (k d y : List ℕ) → (moving_call (table_of ts) s k d y).answer.number ≡ 0
      → (moving_call (table_of ts) s k d y).y ≡ filled (y_of ts (view_of (length ts) s)) y
  pub says : MovingSays ts (view_of (length ts) s).lefts (view_of (length ts) s).now

-- a slot in the view v, of the state s: the state that it leaves and what it says are the rule's, and the rule's choice is an unfinished
-- request of the earliest deadline if that lies before the oldest job's promise, else the oldest job, else nothing
pub record ByTheRule (ts : List Task) (s : State) (v : View) : Type 0 where
  pub leaves : (slot_call (table_of ts) s).state ≡ state_of (next ts v)
  pub says : (slot_call (table_of ts) s).who ≡ said (runs_in ts v) v.jobs
  pub earliest : Earliest ts v.lefts v.now v.jobs (runs_in ts v)

-- ---- the theorems

some_says : (ts : List Task) → 1 ≤ length ts → AllGood ts → overloaded_at ts ≡ None → StaticSays ts
some_says [] Some good fits = absurd (omega arith)
some_says (t ∷ ts) Some good fits = static_says t ts good fits

module _ (ts : List Task) (k₀ d₀ : List ℕ) (ok : (table_call (table_of ts) k₀ d₀).answer.number ≡ 0) where
  some_task : 1 ≤ length ts
  unfolding table_of
  some_task = (table_ready (table_of ts) k₀ d₀ ok).some_task

  good : AllGood ts
  good = subst AllGood (the_tasks ts k₀ d₀ ok) (table_ready (table_of ts) k₀ d₀ ok).good

  fits : overloaded_at ts ≡ None
  unfolding refusal_6
  fits =
      subst (λ (x : List Task). overloaded_at x ≡ None) (the_tasks ts k₀ d₀ ok)
      (at_not (overloaded_at (tasks_of (table_of ts))) 5 (table_passed (table_of ts) k₀ d₀ ok).1.1.1.1.1.0)

  -- The table check fills K and D, and they are what the paper says.
  pub static_vectors : StaticVectors ts k₀ d₀
  static_vectors =
      let e = the_tasks ts k₀ d₀ ok in
      let Filled-in = table_fills (table_of ts) k₀ d₀ ok in
      record {
        places = Filled-in.0 ∙ ap (λ (x : List Task). filled (K x) k₀) e;
        entries = Filled-in.1 ∙ ap (λ (x : List Task). filled (D x) d₀) e;
        says = some_says ts some_task good fits;
      }

  -- In a reached state the call for the moving vectors fills Y, and it is what the paper says.
  pub moving_vectors : (s : State) → ReachedByCalls (table_of ts) s → MovingVectors ts s
  unfolding table_of
  moving_vectors s reached =
      let v = view_of (length ts) s in
      record {
        entries = λ k d y a.
            (moving_fills (table_of ts) s k d y a).2 ∙ ap (λ (x : List Task). filled (y_of x v) y) (the_tasks ts k₀ d₀ ok);
        says = moving_says ts good fits v (never_refused ts good fits v (reached_view ts k₀ d₀ ok s reached)).work_fits;
      }

  -- A slot that is accepted, in any state, goes where the rule sends it.
  pub slot_by_rule : (s : State) → (slot_call (table_of ts) s).number ≡ 0 → ByTheRule ts s (view_of (length ts) s)
  unfolding table_of
  slot_by_rule s a =
      let v = view_of (length ts) s in
      let e = the_tasks ts k₀ d₀ ok in
      record {
        leaves = slot_state (table_of ts) s a ∙ ap (λ (x : List Task). state_of (next x v)) e;
        says = slot_who (table_of ts) s a ∙ ap (λ (x : List Task). said (runs_in x v) v.jobs) e;
        earliest = runs-earliest ts v.lefts v.now v.jobs;
      }
