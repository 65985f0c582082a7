-- THE THREE DEMANDS, in the buyer's words, and nothing else. Below each sentence stand its statement and the theorem that shows it. The names
-- are the paper's, and those of the records that say a sentence in full, in the file that each is taken from.
use Rattle.std.specs.Prelude.{ℕ, ◌/◌, ◌%◌, ◌≡◌, List, length}
use Rattle.paper.specs.declared.Task.{Task}
use Rattle.paper.specs.declared.Table.{Table}
use Rattle.paper.specs.declared.State.{State}
use Rattle.paper.specs.declared.Slot.{Slot}
use Rattle.paper.specs.declared.Latest.{Latest}
use Rattle.paper.specs.declared.Latest.TheVariants.{None as NoLatest}
use Rattle.paper.specs.Window.{window}
use Rattle.paper.specs.View.{view_of, table_of}
use Rattle.paper.specs.Calls.{table_call, admission_call, slot_call}
use Rattle.paper.specs.Reached.{FromCalls, ReachedByCalls}
use Rattle.demands.specs.Leaves.{RefusedBy, AsBefore, LentVectors, refused_by_lem, as_before, lent_vectors}
use Rattle.demands.specs.Method.{StaticVectors, MovingVectors, ByTheRule, static_vectors, moving_vectors, slot_by_rule}
use Rattle.demands.specs.Counted.{SlotsTallied, tallies_counted}
use Rattle.demands.specs.Called.{CallsAgree, LateByCall, three_times_called, too_late_called}

-- 1. "Every call takes every input and comes back." Crate outcomes: each public call asks nothing, and answers what the paper's call answers.
-- "A bad table, state or arrival is refused by the number and place in the paper's table, given exactly when the paper says. The running
-- state is then as before, and each lent vector is either untouched or holds what the paper states."
pub demand_1 : (t : Table) (s : State) (w : ℕ) (latest : Latest) (k d y : List ℕ)
    → RefusedBy t s w latest k d y × AsBefore t s w latest k d y × LentVectors t s w latest k d y
demand_1 t s w latest k d y = (refused_by_lem t s w latest k d y, as_before t s w latest k d y, lent_vectors t s w latest k d y)

-- any lent run of tasks that the table check accepts
module _ (ts : List Task) (k₀ d₀ : List ℕ) (accepted : (table_call (table_of ts) k₀ d₀).answer.number ≡ 0) where
  -- 2. "The static and moving idle vectors equal those of Chetto's 1995 paper as corrected in document 01,
  pub demand_2_vectors : StaticVectors ts k₀ d₀ × ((s : State) → ReachedByCalls (table_of ts) s → MovingVectors ts s)
  demand_2_vectors = (static_vectors ts k₀ d₀ accepted, moving_vectors ts k₀ d₀ accepted)

  -- and each slot goes where its earliest-deadline rule sends it,
  pub demand_2_slots : (s : State) → (slot_call (table_of ts) s).number ≡ 0 → ByTheRule ts s (view_of (length ts) s)
  demand_2_slots = slot_by_rule ts k₀ d₀ accepted

  -- with the slot tallies to match."
  pub demand_2_tallies : {s₀ s : State} → ReachedByCalls (table_of ts) s₀ → s₀.now.0 % window ts ≡ 0
      → (r : FromCalls (table_of ts) s₀ s) → s.now.0 / window ts ≡ s₀.now.0 / window ts → SlotsTallied (table_of ts) ts r
  demand_2_tallies = tallies_counted ts k₀ d₀ accepted

  -- 3. "Take an accepted table, a state reached from power-on by slots and admissions, and a job accepted there. Three times agree: the finish
  -- promised from the vectors; the end of the slot in which the running chip does the job's last unit, if run so far, with any later arrivals;
  -- and the earliest end in any plan from that moment that meets every periodic deadline to the end of the window holding that end and has all
  -- earlier accepted jobs done by then.
  pub demand_3_times : (s : State) → ReachedByCalls (table_of ts) s → (w : ℕ) (latest : Latest) (k d y : List ℕ)
      → (admission_call (table_of ts) s w latest k d y).answer.number ≡ 0
      → CallsAgree (table_of ts) ts s w (admission_call (table_of ts) s w latest k d y).answer
  demand_3_times = three_times_called ts k₀ d₀ accepted

  -- A job that passes every other check is refused as too late exactly if no such plan ends by the slot asked."
  pub demand_3_late : (s : State) → ReachedByCalls (table_of ts) s → (w : ℕ) (k d y : List ℕ)
      → (admission_call (table_of ts) s w NoLatest k d y).answer.number ≡ 0 → (latest : Slot) → LateByCall (table_of ts) ts s w latest k d y
  demand_3_late = too_late_called ts k₀ d₀ accepted
