-- Every view that is reached is held and tallied, and a job waits in it exactly until its promise.
-- So it is from any sound view on, by slots and admissions.
use Rattle.std.specs.Prelude.{ℕ, zero, suc, ◌+◌, ◌-◌, ◌≤◌, ◌<◌, ◌≡◌, ◌↔◌}
use Rattle.std.proofs.Math.Path.{refl}
use Rattle.std.proofs.Common.{inl, inr, arith}
use mathlib.Core.List.{List, [], ◌∷◌, ◌++◌}
use Rattle.std.proofs.Math.Decide.{dec_le}
use Rattle.paper.specs.declared.Task.{Task}
use Rattle.paper.specs.Demand.{AllGood}
use Rattle.paper.specs.Vectors.{sum, F}
use Rattle.paper.specs.View.{Job, View, Waits, power_on}
use Rattle.paper.specs.Idle.{job_lefts, need, promise_of}
use Rattle.paper.specs.Rule.{Does, nothing, task, job, onward, serve, runs_in, doing, next}
use Rattle.paper.specs.Calls.{admitted}
use Rattle.paper.specs.Reached.{From, start, slot, admit, LastUnit}
use Rattle.theory.specs.Tables.{due-start}
use Rattle.demands.specs.Room.{Feasible, Room, Least, room_late}
use Rattle.demands.specs.Promise.{promise-least}
use Rattle.demands.specs.SlotKeeps.{Promised, Held, held_slot, promise-kept}
use Rattle.theory.specs.RuleLaws.{Earliest, runs-earliest}
use Rattle.demands.specs.Tallies.{Tallied, tallied_start, tallied_slot}

-- what every reached view is
pub record Sound (ts : List Task) (v : View) : Type 0 where
  pub held : Held ts v.lefts v.now v.jobs
  pub tallied : Tallied ts v

-- a job more, with the least time for it and those before it
promised_more : (R : ℕ → ℕ → Type 0) (n w p : ℕ) (js : List Job) → 1 ≤ w → Least R (n + sum (job_lefts js) + w) p → Promised R n js
    → Promised R n (js ++ (record { left = w; promise = p } ∷ []))
unfolding job_lefts sum
promised_more R n w p [] h l ps = let e : n + 0 + w ≡ n + w = omega arith in (h, rw e at l, tt)
promised_more R n w p (j ∷ js) h l ps =
    let e : n + (j.left + sum (job_lefts js)) + w ≡ n + j.left + sum (job_lefts js) + w = omega arith in
    (ps.0, ps.1, promised_more R (n + j.left) w p js h (rw e at l) ps.2)

module _ (ts : List Task) (good : AllGood ts) (feasible : Feasible ts) where
  -- The slot of a view does the earliest deadline.
  pub earliest_in : (v : View) → Earliest ts v.lefts v.now v.jobs (runs_in ts v)
  earliest_in v = runs-earliest ts v.lefts v.now v.jobs

  -- Power-on is sound.
  pub sound_start : Sound ts (power_on ts)
  sound_start = record {
    held = record { fits = λ u h. omega (arith, feasible u, due-start ts u good); kept = tt };
    tallied = tallied_start ts good feasible;
  }

  -- A slot keeps a view sound.
  pub sound_slot : (v : View) → Sound ts v → Sound ts (next ts v)
  unfolding next doing
  sound_slot v s = record {
    held = held_slot ts good feasible v.lefts v.now s.held (earliest_in v);
    tallied = tallied_slot ts good feasible v (runs_in ts v) s.held (earliest_in v) s.tallied;
  }

  -- the promise from the vectors is the least time that leaves room
  pub promise-is : (v : View) (w : ℕ) → Sound ts v → 1 ≤ w → 1 ≤ F ts
      → Least (Room ts v.lefts v.now) (need v w) (promise_of ts v w)
  promise-is v w s h f = promise-least ts good feasible v.lefts v.now (need v w) s.held.fits (omega arith) f

  -- An admission keeps it sound: the new job gets the least time for its need.
  pub sound_admit : (v : View) (w : ℕ) → Sound ts v → 1 ≤ w → 1 ≤ F ts → Sound ts (admitted ts v w)
  sound_admit v w s h f = record {
    held = record {
      fits = s.held.fits;
      kept = promised_more (Room ts v.lefts v.now) 0 w (promise_of ts v w) v.jobs h
          (let e : 0 + sum (job_lefts v.jobs) + w ≡ sum (job_lefts v.jobs) + w = omega arith in rw e (promise-is v w s h f))
          s.held.kept;
    };
    tallied = record { slots = s.tallied.slots };
  }

  -- So do any slots and admissions.
  pub sound_from : {v₀ v : View} → Sound ts v₀ → From ts v₀ v → Sound ts v
  sound_from s start = s
  sound_from s (slot {v} r) = sound_slot v (sound_from s r)
  sound_from s (admit {v} r w h f) = sound_admit v w (sound_from s r) h f

-- ---- a job waits until its promise, and not longer

waits_append : (p : ℕ) (js more : List Job) → Waits p js → Waits p (js ++ more)
waits_append p [] more h = absurd h
waits_append p (j ∷ js) more (inl e) = inl e
waits_append p (j ∷ js) more (inr h) = inr (waits_append p js more h)

-- A job that was just admitted waits.
pub waits_last : (p w : ℕ) (js : List Job) → Waits p (js ++ (record { left = w; promise = p } ∷ []))
waits_last p w [] = inl refl
waits_last p w (j ∷ js) = inr (waits_last p w js)

-- what waits has its promise ahead
waits_ahead : (ts : List Task) (ls : List ℕ) (now n p : ℕ) (js : List Job) → Promised (Room ts ls now) n js → Waits p js → now < p
waits_ahead ts ls now n p [] ps h = absurd h
waits_ahead ts ls now n p (j ∷ js) ps (inl e) = omega (arith, ps.0, room_late ts ls now j.promise (n + j.left) ps.1.room)
waits_ahead ts ls now n p (j ∷ js) ps (inr h) = waits_ahead ts ls now (n + j.left) p js ps.2 h

waits_onward : (p n q : ℕ) (js : List Job) → Waits p js → Waits p (onward n q js)
unfolding onward
waits_onward p zero q js h = h
waits_onward p (suc n) q js h = inr h

waits_stay : (p n q : ℕ) (js : List Job) → 1 ≤ n → q ≡ p → Waits p (onward n q js)
unfolding onward
waits_stay p zero q js h e = absurd (omega arith)
waits_stay p (suc n) q js h e = inl e

-- a job that waits still does after the slot, unless the slot does its last unit
pub data Stays (ts : List Task) (v : View) (p : ℕ) (js : List Job) : Type 0 where
  stays : Waits p js → Stays ts v p js
  leaves : LastUnit ts v p → Stays ts v p js

module _ (ts : List Task) (good : AllGood ts) (feasible : Feasible ts) where
  waits_slot : (v : View) (p : ℕ) → Sound ts v → Waits p v.jobs → Stays ts v p (serve (runs_in ts v) v.jobs)
  unfolding serve
  waits_slot v p s w = go v.jobs (runs_in ts v) refl refl w s.held.kept
    where
      go : (js : List Job) (k : Does) → v.jobs ≡ js → runs_in ts v ≡ k → Waits p js → Promised (Room ts v.lefts v.now) 0 js
          → Stays ts v p (serve k js)
      go js nothing a b w ps = stays w
      go js (task i) a b w ps = stays w
      go [] job a b w ps = stays w
      go (j ∷ js) job a b (inr w) ps = stays (waits_onward p (j.left - 1) j.promise js w)
      go (j ∷ js) job a b (inl e) ps = elim (dec_le 2 j.left) [
        | yes y ↦ stays (waits_stay p (j.left - 1) j.promise js (omega arith) e)
        | no n ↦ leaves (j, js, a, e, omega (arith, ps.0), b)
      ]

  -- the slot that does a job's last unit ends at its promise
  pub ends_at_promise : (v : View) (p : ℕ) → Sound ts v → LastUnit ts v p → suc v.now ≡ p
  ends_at_promise v p s l = go v.jobs l.2 s.held (earliest_in ts good feasible v)
    where
      go : (js : List Job) → js ≡ l.0 ∷ l.1 → Held ts v.lefts v.now js → Earliest ts v.lefts v.now js (runs_in ts v)
          → suc v.now ≡ p
      go js e h r = omega (arith, promise-kept ts good feasible v.lefts v.now (rw e at h) (rw (e, l.5) at r) l.4, l.3)

  module _ {v₀ : View} (s₀ : Sound ts v₀) (p : ℕ) (w₀ : Waits p v₀.jobs) where
    waits_on : {v : View} → From ts v₀ v → v.now < p → Waits p v.jobs
    unfolding next doing
    waits_on start h = w₀
    waits_on (slot {v} r) h =
        elim (waits_slot v p (sound_from ts good feasible s₀ r) (waits_on r (omega arith))) [
          | stays w ↦ w
          | leaves l ↦ absurd (omega (arith, ends_at_promise v p (sound_from ts good feasible s₀ r) l))
        ]
    waits_on (admit {v} r w a f) h = waits_append p v.jobs (record { left = w; promise = promise_of ts v w } ∷ []) (waits_on r h)

    -- A job waits exactly until its promise.
    pub waits_until : (v : View) → From ts v₀ v → Waits p v.jobs ↔ (v.now < p)
    waits_until v r =
        (λ w. waits_ahead ts v.lefts v.now 0 p v.jobs (sound_from ts good feasible s₀ r).held.kept w, λ h. waits_on r h)

    -- and the slot that ends there does its last unit
    pub last_unit : (v : View) → From ts v₀ v → LastUnit ts v p ↔ (suc v.now ≡ p)
    unfolding next doing
    last_unit v r =
        let s = sound_from ts good feasible s₀ r in (
          λ l. ends_at_promise v p s l,
          λ e. elim (waits_slot v p s (waits_on r (omega arith))) [
            | stays w ↦ absurd (omega (arith, (waits_until (next ts v) (slot r)).0 w))
            | leaves l ↦ l
          ],
        )
