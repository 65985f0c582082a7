-- The statements are sharp: each theorem here refutes, at the paper's table M, a statement one step stronger or turned another way.
-- The job is of work 3, accepted at power-on with the promise 9, where no other job is named (Example.antt has the numbers).
use Rattle.std.specs.Prelude.{ℕ, zero, suc, ◌+◌, ◌≤◌, ◌<◌, ◌≡◌, refl, ◌↔◌, [], ◌∷◌}
use Rattle.std.proofs.Common.{ap, ◌∙◌, arith, le_refl, lit≤}
use Rattle.paper.specs.declared.State.{State}
use Rattle.paper.specs.declared.Slot.{Slot}
use Rattle.paper.specs.declared.Latest.TheVariants.{None as NoLatest, By}
use Rattle.paper.specs.declared.Who.TheVariants.{Job as JobOf}
use Rattle.paper.specs.Demand.{dues, present, deadline_at, present_due, later_due, due}
use Rattle.paper.specs.View.{View, power_on, view_of, state_of, table_of}
use Rattle.paper.specs.Rule.{Does, task, job, after, onward, serve, enter, doing, next}
use Rattle.paper.specs.Refusals.{H}
use Rattle.paper.specs.Plan.{Plan, Valid}
use Rattle.paper.specs.Calls.{slot_call}
use Rattle.paper.specs.Reached.{start, slot, admit, FromCalls, start_called, slot_called, ReachedByCalls}
use Rattle.paper.specs.Asked.{of, M, lent}
use Rattle.theory.specs.RuleLaws.{Urgent}
use Rattle.demands.specs.SlotKeeps.{Held}
use Rattle.demands.specs.Fit.{reached_sound}
use Rattle.demands.specs.Accepted.{slot_state}
use Rattle.demands.specs.JobWork.{LastUnitByCall, slots_that}
use Rattle.demands.specs.Called.{never_refused_called}
use Rattle.demands.specs.Counted.{said_idle, tallies_counted}
use Rattle.demands.specs.Played.{reached_at}
use Rattle.demands.specs.Example.{on, admits_M, at_nine, nine_slots, one_done, tied, numbers_of_M, good_M, fits_M, some_idle_M, example}
use Rattle.demands.specs.Example.{example_called}

-- ---- the slot of the last unit

-- the answer, and what is reached from it by calls
abbrev From9 : State → Type 0
From9 u = FromCalls (table_of M) (admits_M on 3 NoLatest).state u

abbrev nine : Slot
nine = (admits_M on 3 NoLatest).promise

-- A last unit that is done in the slot that starts n slots before the promise: only for n = 1.
pub last_unit_ends_at_the_promise : (n : ℕ) → ((u : State) → From9 u → LastUnitByCall (table_of M) u nine → u.now.0 + n ≡ nine.0) → n ≡ 1
last_unit_ends_at_the_promise n h =
    let there = example_called.reaches in
    omega (arith, h there.0 there.1 ((example_called.run there.0 there.1).1 there.2), there.2)

-- The slot that ends at the promise still says that it did the job: it is not so that only earlier ones do.
pub says_in_the_last_slot : ((u : State) → From9 u → (slot_call (table_of M) u).who ≡ JobOf nine → suc (suc u.now.0) ≤ nine.0) → ⊥
says_in_the_last_slot h =
    let there = example_called.reaches in
    omega (arith, h there.0 there.1 ((example_called.run there.0 there.1).1 there.2).says, there.2)

-- ---- plans

-- A plan ends at the promise: it is not so that all end later.
pub a_plan_ends_at_the_promise : ((plan : Plan) (e : ℕ) → Valid M (power_on M) 3 plan e → 9 < e) → ⊥
a_plan_ends_at_the_promise h = let p = example.planned in omega (arith, h p.0 9 p.1)

-- A job whose latest finish is its promise is accepted, though no plan ends earlier: 14 does not mean that none ends before the slot asked.
pub not_late_at_the_promise : (((admits_M on 3 (By (record { 0 = 9 }))).number ≡ 14) ↔ ((plan : Plan) (e : ℕ) → Valid M (power_on M) 3 plan e → e < 9 → ⊥)) → ⊥
not_late_at_the_promise h =
    omega (arith, h.1 (λ plan e v below. omega (arith, example.earliest plan e v)), numbers_of_M.three_by_nine)

-- ---- the clock's end

-- From power-on the clock runs up to its end: every slot before it is accepted.
pub reached_slot : (n : ℕ) → n ≤ H → (s : State) × ReachedByCalls (table_of M) s × (s.now.0 ≡ n)
unfolding view_of state_of next doing
reached_slot zero h = (on, start_called, numbers_of_M.starts)
reached_slot (suc n) h =
    let a = reached_slot n (omega arith) in
    let s = a.0 in
    let q = (never_refused_called M lent lent numbers_of_M.table s a.1).runs (omega (arith, a.2)) in
    ((slot_call (table_of M) s).state, slot_called a.1 q, ap (λ (x : State). x.now.0) (slot_state (table_of M) s q) ∙ ap suc a.2)

-- At H no slot runs, though the state there is reached: it is refused 15.
pub stops_at_the_clocks_end : ((s : State) → ReachedByCalls (table_of M) s → s.now.0 ≤ H → (slot_call (table_of M) s).number ≡ 0) → ⊥
stops_at_the_clocks_end h =
    let a = reached_slot H (le_refl H) in
    let stops = (never_refused_called M lent lent numbers_of_M.table a.0 a.1).stops a.2 in
    omega (arith, h a.0 a.1 (omega (arith, a.2)), stops)

-- ---- the tallies

-- A counts the slots that said job and not those that said idle: in the paper's run they are 2 and 1 at slot 9.
pub tallies_not_exchanged : ((r : ReachedByCalls (table_of M) at_nine) → at_nine.given ≡ slots_that said_idle r) → ⊥
tallies_not_exchanged h =
    let n = numbers_of_M in
    let r = reached_at M nine_slots n.nine_accepted in
    let c = tallies_counted M lent lent n.table start_called (rw (n.starts, n.ten)) r (rw (n.tallies.0, n.starts, n.ten)) in
    omega (arith, h r, c.idle, n.tallies.1, n.tallies.2)

-- ---- the earliest deadline

-- what is held in a view
abbrev HeldIn : View → Type 0
HeldIn v = Held M v.lefts v.now v.jobs

-- M at 1, slot 0 given to a job of work 1, and another waiting: a reached view, so all is held.
pub held_at_1 : HeldIn one_done
held_at_1 =
    (reached_sound M good_M fits_M one_done (slot (admit (admit start 1 (lit≤ tt) some_idle_M) 1 (lit≤ tt) some_idle_M))).held

-- after slot 1, given to k
abbrev HeldAfter : Does → View → Type 0
HeldAfter k v = HeldIn (doing M k v)

-- A slot for task 2, whose deadline 8 is later than task 1's 3, does not keep what is held: task 1 is late at 3.
pub later_deadline_breaks : HeldAfter (task 1) one_done → ⊥
unfolding doing after serve enter due present_due later_due dues present deadline_at
later_deadline_breaks h = let late = (rw numbers_of_M.one_done_is at h).fits 3 (lit≤ tt) in omega arith

-- A slot for the job, whose promise 4 is later than task 1's deadline 3, does not either.
pub job_past_a_deadline_breaks : HeldAfter job one_done → ⊥
unfolding doing after serve onward enter due present_due later_due dues present deadline_at
job_past_a_deadline_breaks h = let late = (rw numbers_of_M.one_done_is at h).fits 3 (lit≤ tt) in omega arith

-- On a tie the job runs: its promise is 3, and it is not so that every unfinished request is due later.
pub job_runs_on_a_tie : ((slot_call (table_of M) tied).who ≡ JobOf (record { 0 = 3 })) × (Urgent M (2 ∷ 2 ∷ []) 0 4 → ⊥)
unfolding deadline_at present
job_runs_on_a_tie = (numbers_of_M.tie.1, λ u. let late = u 0 (of 2 3 5) refl (lit≤ tt) in omega arith)
