-- The work left of one job, and the slots that say that they did a unit of it. "Promises rise strictly, so a promise names its job":
-- where they rise, a slot takes one unit of the job that it names and none of another, and a new job takes nothing.
use Rattle.std.specs.Prelude.{ℕ, zero, suc, ◌+◌, ◌-◌, ◌≤◌, ◌<◌, ◌≡◌, refl, ◌≢◌, List, [], ◌∷◌, ◌++◌, eqb, take}
use Rattle.std.proofs.Common.{inl, inr, arith, eq-eqb, ne_eqb}
use Rattle.std.proofs.Math.Decide.{ℕ_discrete}
use Rattle.paper.specs.declared.Table.{Table}
use Rattle.paper.specs.declared.State.{State}
use Rattle.paper.specs.declared.Slot.{Slot}
use Rattle.paper.specs.declared.Who.{Who}
use Rattle.paper.specs.declared.Who.TheVariants.{Idle, Task as TaskOf, Job as JobOf}
use Rattle.paper.specs.Demand.{pick}
use Rattle.paper.specs.View.{Job, Waits, jobs_of}
use Rattle.paper.specs.Rule.{Does, nothing, task, job, onward, serve, said}
use Rattle.paper.specs.Calls.{slot_call}
use Rattle.paper.specs.Reached.{FromCalls, start_called, slot_called, admission_called}
use Rattle.demands.specs.Shape.{Rising}

-- ---- what is counted

-- the work left of the job of the promise p, 0 where it does not wait
unfoldable pub left_for : ℕ → List Job → ℕ
left_for p [] = 0
left_for p (j ∷ js) = pick (eqb j.promise p) j.left (left_for p js)

-- the same in a state
abbrev pub work_left : Slot → State → ℕ
work_left p s = left_for p.0 (jobs_of (take s.waiting s.jobs))

-- whether a slot says that it did a unit of the job of the promise p
abbrev pub said_for : Slot → Who → ℕ
said_for p Idle = 0
said_for p (TaskOf j) = 0
said_for p (JobOf q) = pick (eqb q.0 p.0) 1 0

-- how many of the slots from s₀ to s said so: the answers of the calls themselves
unfoldable pub slots_that : (Who → ℕ) → {t : Table} {s₀ s : State} → FromCalls t s₀ s → ℕ
slots_that say start_called = 0
slots_that say {t} (slot_called {s} r e) = slots_that say r + say (slot_call t s).who
slots_that say (admission_called r w latest k d y e) = slots_that say r

-- "the slot in which the running chip does the job's last unit": the slot asked for in the state u, and the job of the promise p
pub record LastUnitByCall (t : Table) (u : State) (p : Slot) : Type 0 where
  pub runs : (slot_call t u).number ≡ 0
  pub says : (slot_call t u).who ≡ JobOf p
  pub one_left : work_left p u ≡ 1
  pub none_after : work_left p (slot_call t u).state ≡ 0

-- ---- a job that waits has work left

-- What has work left waits.
pub left_waits : (p : ℕ) (js : List Job) → 1 ≤ left_for p js → Waits p js
unfolding left_for
left_waits p [] h = absurd (omega arith)
left_waits p (j ∷ js) h = elim (ℕ_discrete j.promise p) [
  | yes e ↦ inl e
  | no n ↦ inr (left_waits p js (rw (ne_eqb j.promise p n) at h))
]

-- What waits has work left.
pub waits_left : (p low : ℕ) (js : List Job) → Rising low js → Waits p js → 1 ≤ left_for p js
unfolding left_for
waits_left p low [] r w = absurd w
waits_left p low (j ∷ js) r (inl e) = rw (eq-eqb j.promise p e) r.1
waits_left p low (j ∷ js) r (inr w) = elim (ℕ_discrete j.promise p) [
  | yes e ↦ rw (eq-eqb j.promise p e) r.1
  | no n ↦ rw (ne_eqb j.promise p n) (waits_left p j.promise js r.2 w)
]

-- ---- a slot

-- a promise at or before the lowest is no job's
left_past : (p low : ℕ) (js : List Job) → p ≤ low → Rising low js → left_for p js ≡ 0
unfolding left_for
left_past p low [] h r = refl
left_past p low (j ∷ js) h r =
    rw (ne_eqb j.promise p (λ z. omega (arith, r.0))) (left_past p j.promise js (omega (arith, r.0)) r.2)

left_onward : (p n q : ℕ) (js : List Job) → q ≡ p → left_for p js ≡ 0 → left_for p (onward n q js) ≡ n
unfolding left_for onward
left_onward p zero q js e h = h
left_onward p (suc n) q js e h = rw (eq-eqb q p e)

left_other : (p n q : ℕ) (js : List Job) → q ≢ p → left_for p (onward n q js) ≡ left_for p js
unfolding left_for onward
left_other p zero q js n = refl
left_other p (suc m) q js n = rw (ne_eqb q p n)

-- What is left of a job falls by one in a slot that names it, and stays in every other.
pub left_slot : (p low : ℕ) (k : Does) (js : List Job) → Rising low js
    → left_for p js ≡ left_for p (serve k js) + said_for (record { 0 = p }) (said k js)
unfolding left_for serve said
left_slot p low nothing js r = omega arith
left_slot p low (task i) js r = omega arith
left_slot p low job [] r = refl
left_slot p low job (j ∷ js) r = elim (ℕ_discrete j.promise p) [
  | yes e ↦ rw (eq-eqb j.promise p e)
      (omega (arith, r.1, left_onward p (j.left - 1) j.promise js e (left_past p j.promise js (omega arith) r.2)))
  | no n ↦ rw (ne_eqb j.promise p n) (omega (arith, left_other p (j.left - 1) j.promise js n))
]

-- ---- an admission

-- The last of rising promises lies above the lowest.
pub last_above : (low : ℕ) (js : List Job) (j : Job) → Rising low (js ++ (j ∷ [])) → low < j.promise
last_above low [] j r = r.0
last_above low (x ∷ js) j r = omega (arith, r.0, last_above x.promise js j r.2)

-- The new job's promise lies above that of every job that waits.
pub above_waits : (p low : ℕ) (js : List Job) (j : Job) → Rising low (js ++ (j ∷ [])) → Waits p js → p < j.promise
above_waits p low [] j r w = absurd w
above_waits p low (x ∷ js) j r (inl e) = omega (arith, last_above x.promise js j r.2)
above_waits p low (x ∷ js) j r (inr w) = above_waits p x.promise js j r.2 w

-- It has all of its work left.
pub left_last : (low : ℕ) (js : List Job) (j : Job) → Rising low (js ++ (j ∷ [])) → left_for j.promise (js ++ (j ∷ [])) ≡ j.left
unfolding left_for
left_last low [] j r = rw (eq-eqb j.promise j.promise refl)
left_last low (x ∷ js) j r =
    rw (ne_eqb x.promise j.promise (λ z. omega (arith, last_above x.promise js j r.2))) (left_last x.promise js j r.2)

-- What is left of a job of another promise stays.
pub left_more : (p : ℕ) (js : List Job) (j : Job) → j.promise ≢ p → left_for p (js ++ (j ∷ [])) ≡ left_for p js
unfolding left_for
left_more p [] j n = rw (ne_eqb j.promise p n)
left_more p (x ∷ js) j n = rw (left_more p js j n)
