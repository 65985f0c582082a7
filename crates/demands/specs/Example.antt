-- The premises of ThreeTimes.antt and of Called.antt can be met, at the paper's table M: at power-on, with new work 3, whose three times
-- are 9; and in a state that slots and admissions reach, in which two jobs wait, with new work 4, whose three times are 21.
use Rattle.std.specs.Prelude.{ℕ, suc, ◌≤◌, ◌≡◌, refl, ◌↔◌, true, List, [], ◌∷◌, None}
use Rattle.std.proofs.Common.{ap, subst, lit≤}
use Rattle.paper.specs.declared.Slot.{Slot}
use Rattle.paper.specs.declared.State.{State}
use Rattle.paper.specs.declared.AdmissionAnswer.{AdmissionAnswer}
use Rattle.paper.specs.declared.Latest.{Latest}
use Rattle.paper.specs.declared.Latest.TheVariants.{None as NoLatest, By}
use Rattle.paper.specs.declared.Who.TheVariants.{Job as JobOf}
use Rattle.paper.specs.Demand.{AllGood}
use Rattle.paper.specs.Window.{window}
use Rattle.paper.specs.Vectors.{F}
use Rattle.paper.specs.Idle.{promise_of}
use Rattle.paper.specs.View.{View, power_on, view_of, state_of, table_of}
use Rattle.paper.specs.Rule.{next}
use Rattle.paper.specs.Refusals.{overloaded_at}
use Rattle.paper.specs.Plan.{Plan, Valid}
use Rattle.paper.specs.Reached.{start, FromCalls, start_called, ReachedByCalls}
use Rattle.paper.specs.Asked.{M, lent, Event, slots, arrival, state_at, holds}
use Rattle.paper.specs.Calls.{power_on_call, table_call, admitted, admission_call, slot_call}
use Rattle.demands.specs.ThreeTimes.{Agree, three_times}
use Rattle.demands.specs.JobWork.{left_for, work_left, LastUnitByCall}
use Rattle.demands.specs.Called.{CallsAgree, three_times_called}
use Rattle.demands.specs.Played.{all_run, all_accepted, reached_at}

-- ---- the numbers of M

-- the state at power-on, and what an admission there answers
abbrev pub on : State
on = (power_on_call (table_of M)).state

-- what an admission of M answers, with vectors of five places
abbrev pub admits_M : State → ℕ → Latest → AdmissionAnswer
admits_M s w latest = (admission_call (table_of M) s w latest lent lent lent).answer

-- power-on, a slot, a job of work 3, a slot, a job of work 2, and three slots, the last of which is the first job's
abbrev pub two_jobs : List Event
two_jobs = slots 1 ∷ arrival 3 ∷ slots 1 ∷ arrival 2 ∷ slots 3 ∷ []

-- the state that they lead to
abbrev pub two_wait : State
two_wait = state_at M two_jobs

-- the paper's run, up to slot 9: slots 2 and 3 are the job's, and slot 8 is idle
abbrev pub nine_slots : List Event
nine_slots = slots 1 ∷ arrival 2 ∷ slots 8 ∷ []

-- the state that they lead to
abbrev pub at_nine : State
at_nine = state_at M nine_slots

-- two jobs of work 1 at power-on: the first has slot 0
abbrev pub one_done : View
one_done = next M (admitted M (admitted M (power_on M) 1) 1)

-- M at 0 with a job of left 1 and promise 3, the deadline of task 1: no run leads there, but a slot takes it
abbrev pub tied : State
tied = state_of (record { now = 0; lefts = 2 ∷ 2 ∷ []; jobs = record { left = 1; promise = 3 } ∷ []; given = 0; idle = 0 })

-- what the calls and the rule give for these
pub record NumbersOfM : Type 0 where
  pub table : (table_call (table_of M) lent lent).answer.number ≡ 0
  pub ten : window M ≡ 10
  pub starts : on.now.0 ≡ 0
  pub three : ((admits_M on 3 NoLatest).number ≡ 0) × ((admits_M on 3 NoLatest).promise.0 ≡ 9)
  pub three_by_nine : (admits_M on 3 (By (record { 0 = 9 }))).number ≡ 0
  pub two_accepted : all_accepted M two_jobs on ≡ true
  pub two_waiting : (two_wait.now.0 ≡ 5) × (two_wait.waiting ≡ 2)
      × (work_left (record { 0 = 9 }) two_wait ≡ 2) × (work_left (record { 0 = 11 }) two_wait ≡ 2)
  pub four : ((admits_M two_wait 4 NoLatest).number ≡ 0) × ((admits_M two_wait 4 NoLatest).promise.0 ≡ 21)
  pub nine_accepted : all_accepted M nine_slots on ≡ true
  pub tallies : (at_nine.now.0 ≡ 9) × (at_nine.given ≡ 2) × (at_nine.idle ≡ 1)
  pub one_done_is : one_done ≡ record { now = 1; lefts = 2 ∷ 2 ∷ []; jobs = record { left = 1; promise = 4 } ∷ []; given = 1; idle = 0 }
  pub tie : ((slot_call (table_of M) tied).number ≡ 0) × ((slot_call (table_of M) tied).who ≡ JobOf (record { 0 = 3 }))

-- By computing.
pub numbers_of_M : NumbersOfM
unfolding holds left_for all_run all_accepted
numbers_of_M = record {
  table = refl;
  ten = refl;
  starts = refl;
  three = (refl, refl);
  three_by_nine = refl;
  two_accepted = refl;
  two_waiting = (refl, refl, refl, refl);
  four = (refl, refl);
  nine_accepted = refl;
  tallies = (refl, refl, refl);
  one_done_is = refl;
  tie = (refl, refl);
}

-- ---- of ThreeTimes.antt

-- M passes 2.
pub good_M : AllGood M
good_M = (
  record { some_work = lit≤ tt; fits = lit≤ tt; before_next = lit≤ tt; small = lit≤ tt },
  (record { some_work = lit≤ tt; fits = lit≤ tt; before_next = lit≤ tt; small = lit≤ tt }, tt),
)

-- M passes 6.
pub fits_M : overloaded_at M ≡ None
unfolding holds
fits_M = refl

-- M has idle slots.
pub some_idle_M : 1 ≤ F M
unfolding holds
some_idle_M = lit≤ tt

promised : promise_of M (power_on M) 3 ≡ 9
unfolding holds
promised = refl

-- At power-on new work 3 has the three times 9.
pub example : Agree M (power_on M) 3 9
example = subst (Agree M (power_on M) 3) promised (three_times M good_M fits_M (power_on M) start 3 (lit≤ tt) some_idle_M)

-- ---- of Called.antt: by the calls, with vectors of five places

-- At power-on, new work 3: its promise is 9 (`NumbersOfM.three`).
pub example_called : CallsAgree (table_of M) M on 3 (admits_M on 3 NoLatest)
example_called = three_times_called M lent lent numbers_of_M.table on start_called 3 NoLatest lent lent lent numbers_of_M.three.0

-- The state in which two jobs wait, the older with 2 of its 3 units left, is reached from power-on by calls.
pub two_reached : ReachedByCalls (table_of M) two_wait
two_reached = reached_at M two_jobs numbers_of_M.two_accepted

-- There, new work 4: its promise is 21 (`NumbersOfM.four`).
pub example_two : CallsAgree (table_of M) M two_wait 4 (admits_M two_wait 4 NoLatest)
example_two = three_times_called M lent lent numbers_of_M.table two_wait two_reached 4 NoLatest lent lent lent numbers_of_M.four.0

-- the last two of its three times, at p: a plan ends at p and none before it, and the slot that does the job's last unit ends at p
abbrev pub TwoWaitAt : Slot → Type 0
TwoWaitAt p = ((plan : Plan) × Valid M (view_of 2 two_wait) 4 plan p.0)
    × ((plan : Plan) (e : ℕ) → Valid M (view_of 2 two_wait) 4 plan e → p.0 ≤ e)
    × ((u : State) → FromCalls (table_of M) (admits_M two_wait 4 NoLatest).state u → LastUnitByCall (table_of M) u p ↔ (suc u.now.0 ≡ p.0))

-- In numbers they are 21.
pub example_two_at : TwoWaitAt (record { 0 = 21 })
unfolding table_of
example_two_at =
    subst TwoWaitAt (ap (λ (n : ℕ). record { 0 = n }) numbers_of_M.four.1) (example_two.planned, example_two.earliest, example_two.run)
