-- What holds of every view that is reached from power-on by slots and admissions, of a table that is not refused 2 or 6.
-- 8 and 9 are never given; of 7, whose other bounds are the machine's, A + I is at most the offset (Called.antt has all of 7).
use Rattle.std.specs.Prelude.{ℕ, ◌+◌, ◌%◌, ◌≤◌, ◌≡◌, false, List, [], get_or, None, Some, slice_get}
use Rattle.paper.specs.declared.Task.{Task}
use Rattle.paper.specs.Demand.{AllGood}
use Rattle.paper.specs.Window.{window}
use Rattle.paper.specs.Vectors.{sum, F, Y}
use Rattle.paper.specs.View.{View}
use Rattle.paper.specs.Rule.{nothing, runs_in}
use Rattle.paper.specs.Refusals.{overloaded_at, overdue, overdue_next, overfull_at, wrong_tallies, wrong_promise_at}
use Rattle.paper.specs.Reached.{Reached}
use Rattle.demands.specs.Tallies.{tallies}
use Rattle.theory.specs.RuleLaws.{runs-earliest, idle_means}
use Rattle.demands.specs.Shape.{shaped}
use Rattle.demands.specs.Fit.{not_overloaded, reached_sound, not_overdue, not_overdue_next, not_overfull, not_wrong_tallies, not_wrong_promise}

-- what 7 to 9 ask of a view, as far as a view shows it
pub record Fit (ts : List Task) (v : View) : Type 0 where
  -- 8: no unfinished work has its deadline or promise at or before now, nor will have at the next now
  pub on_time : overdue ts v ≡ false
  pub on_time_next : overdue_next ts v ≡ false
  -- 9
  pub work_fits : overfull_at ts v ≡ None
  pub tallies_fit : wrong_tallies ts v ≡ false
  pub promises_fit : wrong_promise_at ts v ≡ None
  -- F − A − I is the sum of Y, and A + I is at most the offset
  pub tallied : v.given + v.idle + sum (Y ts v.lefts (v.now % window ts)) ≡ F ts
  pub tallies_small : v.given + v.idle ≤ v.now % window ts

-- Every reached view has it.
pub never_refused : (ts : List Task) → AllGood ts → overloaded_at ts ≡ None → (v : View) → Reached ts v → Fit ts v
never_refused ts good fits v reached =
    let feasible = not_overloaded ts good fits in
    let sound = reached_sound ts good fits v reached in
    record {
      on_time = not_overdue ts good feasible v sound;
      on_time_next = not_overdue_next ts good feasible v sound;
      work_fits = not_overfull ts good feasible v sound;
      tallies_fit = not_wrong_tallies ts good feasible v sound;
      promises_fit = not_wrong_promise ts good feasible v sound;
      tallied = tallies ts good feasible v sound.held.fits sound.tallied;
      tallies_small = (shaped ts good feasible v reached).tallies;
    }

-- while a job waits, or a request is unfinished, no slot is idle: in any view
pub no_idle_while_waiting : (ts : List Task) (v : View) → runs_in ts v ≡ nothing
    → (v.jobs ≡ []) × ((j : ℕ) (t : Task) → slice_get ts j ≡ Some t → get_or v.lefts j 0 ≡ 0)
no_idle_while_waiting ts v e = idle_means (runs-earliest ts v.lefts v.now v.jobs) e
