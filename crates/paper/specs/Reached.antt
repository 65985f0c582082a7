-- Demand 3: "a state reached from power-on by slots and admissions".
-- First of views, where the bounds of the machine (H, eight jobs, work 30,000) are left out: what is shown of more views holds of
-- those. Then of states, by the calls themselves.
use Rattle.std.specs.Prelude.{ℕ, ◌≤◌, ◌≡◌, List, ◌∷◌}
use Rattle.paper.specs.declared.Task.{Task}
use Rattle.paper.specs.declared.Table.{Table}
use Rattle.paper.specs.declared.State.{State}
use Rattle.paper.specs.declared.Latest.{Latest}
use Rattle.paper.specs.Vectors.{F}
use Rattle.paper.specs.View.{Job, View, power_on}
use Rattle.paper.specs.Rule.{job, runs_in, next}
use Rattle.paper.specs.Calls.{power_on_call, admitted, admission_call, slot_call}

-- by slots and admissions, from the view v₀ on
pub data From (ts : List Task) (v₀ : View) : View → Type 0 where
  start : From ts v₀ v₀
  slot : {v : View} → From ts v₀ v → From ts v₀ (next ts v)
  admit : {v : View} → From ts v₀ v → (w : ℕ) → 1 ≤ w → 1 ≤ F ts → From ts v₀ (admitted ts v w)

abbrev pub Reached : List Task → View → Type 0
Reached ts v = From ts (power_on ts) v

-- the slot of the view does the last unit of the job of the promise p
abbrev pub LastUnit : List Task → View → ℕ → Type 0
LastUnit ts v p = (j : Job) × (js : List Job) × (v.jobs ≡ j ∷ js) × (j.promise ≡ p) × (j.left ≡ 1) × (runs_in ts v ≡ job)

-- by slots and admissions that are accepted, with any lent vectors, from the state s₀ on
pub data FromCalls (t : Table) (s₀ : State) : State → Type 0 where
  start_called : FromCalls t s₀ s₀
  slot_called : {s : State} → FromCalls t s₀ s → (slot_call t s).number ≡ 0 → FromCalls t s₀ (slot_call t s).state
  admission_called : {s : State} → FromCalls t s₀ s → (w : ℕ) (latest : Latest) (k d y : List ℕ)
      → (admission_call t s w latest k d y).answer.number ≡ 0
      → FromCalls t s₀ (admission_call t s w latest k d y).answer.state

abbrev pub ReachedByCalls : Table → State → Type 0
ReachedByCalls t s = FromCalls t (power_on_call t).state s
