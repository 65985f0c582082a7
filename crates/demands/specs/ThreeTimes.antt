-- Demand 3, for a table that is not refused 2 or 6, a view that is reached from power-on by slots and admissions, and work that is not
-- refused 10 or 12: the three times agree, and a job is too late exactly if no plan ends by the slot asked.
use Rattle.std.specs.Prelude.{ℕ, suc, ◌≤◌, ◌<◌, ◌≡◌, ◌↔◌, true, List, None}
use Rattle.std.proofs.Common.{arith}
use Rattle.std.proofs.Math.Decide.{dec_lt}
use borrow.Author.Tests.{lt-ltb, ltb-true}
use Rattle.paper.specs.declared.Task.{Task}
use Rattle.paper.specs.declared.Slot.{Slot}
use Rattle.paper.specs.declared.Latest.TheVariants.{By}
use Rattle.paper.specs.Demand.{AllGood}
use Rattle.paper.specs.Vectors.{F}
use Rattle.paper.specs.Idle.{idle_until, LeastAfter, need, promise_of}
use Rattle.paper.specs.View.{View, Waits}
use Rattle.paper.specs.Refusals.{overloaded_at, too_late}
use Rattle.paper.specs.Plan.{Plan, Valid}
use Rattle.paper.specs.Calls.{admitted}
use Rattle.paper.specs.Reached.{From, Reached, LastUnit}
use Rattle.demands.specs.Room.{Feasible}
use Rattle.demands.specs.Promise.{promise-idle}
use Rattle.demands.specs.Tallies.{room_idle}
use Rattle.demands.specs.SoundViews.{Sound, sound_admit, waits_last, waits_until, last_unit}
use Rattle.demands.specs.PlanBound.{plan_room}
use Rattle.demands.specs.Running.{none_earlier, plan_at}
use Rattle.demands.specs.Fit.{not_overloaded, reached_sound}

-- a job of work w is accepted in the view v: its three times are p
pub record Agree (ts : List Task) (v : View) (w p : ℕ) : Type 0 where
  -- the finish promised from the vectors: the least t with idle until t equal to need
  pub promised : LeastAfter (λ t. idle_until ts v.lefts v.now t ≡ need v w) v.now p
  -- run on, with any later arrivals: the slot that does the job's last unit is the one that ends at p, and until then the job waits
  pub run : (u : View) → From ts (admitted ts v w) u → LastUnit ts u p ↔ (suc u.now ≡ p)
  pub waits : (u : View) → From ts (admitted ts v w) u → Waits p u.jobs ↔ (u.now < p)
  -- the earliest end in any plan
  pub planned : (plan : Plan) × Valid ts v w plan p
  pub earliest : (plan : Plan) (e : ℕ) → Valid ts v w plan e → p ≤ e

-- where F is 0, no plan does any new work
abbrev pub NoPlan : List Task → View → ℕ → Type 0
NoPlan ts v w = (plan : Plan) (e : ℕ) → Valid ts v w plan e → ⊥

-- 14 is given exactly if no plan ends by the slot asked
abbrev pub LateExactly : List Task → View → ℕ → Slot → Type 0
LateExactly ts v w latest =
    (too_late (promise_of ts v w) (By latest) ≡ true) ↔ ((plan : Plan) (e : ℕ) → Valid ts v w plan e → e ≤ latest.0 → ⊥)

-- ---- of any sound view: what every state that passes 7 to 9 has, reached or not (Nine.antt)

module _ (ts : List Task) (good : AllGood ts) (feasible : Feasible ts) (v : View) (sound : Sound ts v) (w : ℕ) (some_work : 1 ≤ w) where
  -- Where F is 0, no plan does any new work.
  pub sound_no_plan : F ts ≡ 0 → NoPlan ts v w
  sound_no_plan none-idle plan e ok =
      omega (
        arith,
        room_idle ts good feasible v sound.held.fits sound.tallied e (need v w) (omega arith) (plan_room ts good v w plan e ok feasible),
      )

  module _ (some_idle : 1 ≤ F ts) where
    -- The three times agree.
    pub sound_agree : Agree ts v w (promise_of ts v w)
    sound_agree =
        let p = promise_of ts v w in
        let s = sound_admit ts good feasible v w sound some_work some_idle in
        record {
          promised = promise-idle ts good feasible v.lefts v.now (need v w) sound.held.fits (omega arith) some_idle;
          run = last_unit ts good feasible s p (waits_last p w v.jobs);
          waits = waits_until ts good feasible s p (waits_last p w v.jobs);
          planned = plan_at ts good feasible v sound w some_work some_idle;
          earliest = none_earlier ts good feasible v sound w some_work some_idle;
        }

    -- 14 is given exactly if no plan ends by the slot asked.
    pub sound_late : (latest : Slot) → LateExactly ts v w latest
    unfolding too_late
    sound_late latest = (
      λ late plan e ok by. omega (arith, ltb-true latest.0 (promise_of ts v w) late, sound_agree.earliest plan e ok),
      λ none-by. elim (dec_lt latest.0 (promise_of ts v w)) [
        | yes h ↦ lt-ltb latest.0 (promise_of ts v w) h
        | no h ↦ absurd (none-by sound_agree.planned.0 (promise_of ts v w) sound_agree.planned.1 (omega arith))
      ],
    )

-- ---- DEMAND 3

module _ (ts : List Task) (good : AllGood ts) (fits : overloaded_at ts ≡ None) (v : View) (reached : Reached ts v) (w : ℕ) (some_work : 1 ≤ w) where
  -- In a reached view the three times agree, where F is not 0.
  pub three_times : 1 ≤ F ts → Agree ts v w (promise_of ts v w)
  three_times = sound_agree ts good (not_overloaded ts good fits) v (reached_sound ts good fits v reached) w some_work

  -- There 14 is given exactly if no plan ends by the slot asked.
  pub too_late_lem : 1 ≤ F ts → (latest : Slot) → LateExactly ts v w latest
  too_late_lem = sound_late ts good (not_overloaded ts good fits) v (reached_sound ts good fits v reached) w some_work

  -- Where F is 0, no plan does any new work.
  pub no_plan : F ts ≡ 0 → NoPlan ts v w
  no_plan = sound_no_plan ts good (not_overloaded ts good fits) v (reached_sound ts good fits v reached) w some_work
