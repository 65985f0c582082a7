-- What it says of the inputs that a call accepts them: a list of refusals of which none is given, read one by one.
-- And of an admission that passes every check but 14, when 14 is given.
use Rattle.std.specs.Prelude.{ℕ, ◌≤◌, ◌<◌, ◌≡◌, refl, ◌↔◌, Bool, true, false, ◌||◌, List, [], ◌∷◌, ◌++◌, leb, eqb, length, None}
use Rattle.std.proofs.Common.{ap, ◌∙◌, arith}
use Rattle.std.proofs.Math.Decide.{ℕ_discrete}
use Rattle.std.proofs.Math.Dec.{ltb}
use borrow.Author.Tests.{ltb-false, leb-false, eqb-false}
use Rattle.paper.specs.declared.Table.{Table}
use Rattle.paper.specs.declared.State.{State}
use Rattle.paper.specs.declared.Slot.{Slot}
use Rattle.paper.specs.declared.Latest.{Latest}
use Rattle.paper.specs.declared.Who.TheVariants.{Idle, Job as JobOf}
use Rattle.paper.specs.declared.Verdict.{Verdict}
use Rattle.paper.specs.Window.{window}
use Rattle.paper.specs.Vectors.{F}
use Rattle.paper.specs.Idle.{promise_of}
use Rattle.paper.specs.View.{power_on, view_of, state_of, tasks_of}
use Rattle.paper.specs.Rule.{runs_in, next, said}
use Rattle.paper.specs.Refusals.{H, too_late, passed, refusal_1, refusal_2, when, found, overloaded_at, overfull_at, wrong_tallies, wrong_promise_at}
use Rattle.paper.specs.Refusals.{refusal_6, refusal_7, refusal_8_slot, refusal_9_work, refusal_9_tallies, refusal_9_promise, refusal_10, refusal_11}
use Rattle.paper.specs.Refusals.{refusal_12, refusal_13, refusal_14, refusal_15}
use Rattle.paper.specs.Calls.{first_given, one_to_three, one_to_six, one_to_eight, all_zero, power_on_verdict, power_on_call, table_verdict, table_call, admitted}
use Rattle.paper.specs.Calls.{admission_verdict, admission_call, slot_verdict, slot_call}
use Rattle.demands.specs.Room.{Feasible}
use Rattle.demands.specs.Fit.{not_overloaded}
use Rattle.theory.specs.Verdicts.{when_not, at_not, or_false_both, AllPassed, none_given, all_none, passed-front, found_not, accepted_is, refused_is}
use Rattle.theory.specs.OneVerdict.{one_when}
use Rattle.theory.specs.Ready.{Ready, ready}

-- ---- the table

module _ (t : Table) (k d : List ℕ) (ok : (table_call t k d).answer.number ≡ 0) where
  -- It passes 1 to 6.
  pub table_passed : AllPassed (one_to_six t (k ∷ d ∷ []))
  unfolding table_call table_verdict
  table_passed = none_given (one_to_six t (k ∷ d ∷ [])) ok

  -- It passes 1 to 3.
  pub table_1_3 : AllPassed (one_to_three t)
  table_1_3 = let a = table_passed in (a.0, (a.1.0, (a.1.1.0, tt)))

  -- Its tasks keep their limits, and its window is short.
  pub table_ready : Ready t (window (tasks_of t))
  table_ready = ready t (ap (λ (r : Verdict). r.number) (all_none (one_to_three t) table_1_3))

  -- At no time more work is due than there are slots.
  pub table_feasible : Feasible (tasks_of t)
  unfolding refusal_6
  table_feasible =
      not_overloaded (tasks_of t) table_ready.good (at_not (overloaded_at (tasks_of t)) 5 table_passed.1.1.1.1.1.0)

module _ (t : Table) (s : State) (ok : (slot_call t s).number ≡ 0) where
  slot_passed : AllPassed (one_to_three t ++ (refusal_7 (tasks_of t) s ∷ refusal_15 (view_of t.count s) ∷ refusal_8_slot (tasks_of t) (view_of t.count s) ∷ []))
  unfolding slot_call slot_verdict
  slot_passed = none_given _ ok

  -- An accepted slot lies before the clock's end.
  pub slot_clock : (view_of t.count s).now < H
  unfolding refusal_15
  slot_clock =
      let now = (view_of t.count s).now in
      leb-false H now (when_not (leb H now) 14 slot_passed.1.1.1.1.0)

  -- It leaves the state of the next view, as the rule says.
  pub slot_state : (slot_call t s).state ≡ state_of (next (tasks_of t) (view_of t.count s))
  unfolding slot_call
  slot_state = accepted_is (slot_verdict t s) (state_of (next (tasks_of t) (view_of t.count s))) s ok

  -- It says what the rule's choice says.
  pub slot_who : (slot_call t s).who ≡ said (runs_in (tasks_of t) (view_of t.count s)) (view_of t.count s).jobs
  unfolding slot_call
  slot_who = let v = view_of t.count s in accepted_is (slot_verdict t s) (said (runs_in (tasks_of t) v) v.jobs) Idle ok

-- a slot that says that it did a job was not refused
pub told_job : (t : Table) (s : State) (p : Slot) → (slot_call t s).who ≡ JobOf p → (slot_call t s).number ≡ 0
unfolding slot_call
told_job t s p e = elim (ℕ_discrete (slot_verdict t s).number 0) [
  | yes z ↦ z
  | no z ↦
      (let v = view_of t.count s in
      let idle = refused_is (slot_verdict t s) (said (runs_in (tasks_of t) v) v.jobs) Idle (omega arith) in
      let o : ◌≡◌ {A = ℕ} 0 1 = cc in absurd (omega arith))
]

-- Power-on of a table that passes 1 to 3 gives the state of the view at power-on.
pub power_on_state : (t : Table) → AllPassed (one_to_three t) → (power_on_call t).state ≡ state_of (power_on (tasks_of t))
unfolding power_on_call power_on_verdict
power_on_state t a =
    let r = first_given (refusal_1 t.count ∷ refusal_2 (tasks_of t) ∷ []) in
    let e : r ≡ passed = all_none (refusal_1 t.count ∷ refusal_2 (tasks_of t) ∷ []) (a.0, (a.1.0, tt)) in
    accepted_is r (state_of (power_on (tasks_of t))) all_zero (ap (λ (x : Verdict). x.number) e)

-- every refusal of an admission but 14
abbrev pub others : Table → State → ℕ → List ℕ → List ℕ → List ℕ → List Verdict
others t s w k d y =
    let ts = tasks_of t in
    let v = view_of t.count s in
    one_to_eight t s (k ∷ d ∷ y ∷ [])
    ++ (refusal_9_work ts v
    ∷ refusal_9_tallies ts v
    ∷ refusal_9_promise ts v
    ∷ refusal_10 w
    ∷ refusal_11 v
    ∷ refusal_12 ts
    ∷ refusal_13 (promise_of ts v w)
    ∷ [])

-- what they leave to know
pub record Admits (t : Table) (s : State) (w : ℕ) : Type 0 where
  pub seven : (refusal_7 (tasks_of t) s).number ≡ 0
  pub work_fits : overfull_at (tasks_of t) (view_of t.count s) ≡ None
  pub tallies_fit : wrong_tallies (tasks_of t) (view_of t.count s) ≡ false
  pub promises_fit : wrong_promise_at (tasks_of t) (view_of t.count s) ≡ None
  pub some_work : 1 ≤ w
  pub most_work : w ≤ 30000
  pub few_jobs : length (view_of t.count s).jobs < 8
  pub some_idle : 1 ≤ F (tasks_of t)
  pub in_clock : promise_of (tasks_of t) (view_of t.count s) w ≤ H

module _ (t : Table) (s : State) (w : ℕ) (latest : Latest) (k d y : List ℕ) (ok : (admission_call t s w latest k d y).answer.number ≡ 0) where
  -- An accepted admission passes every refusal of its list.
  pub admission_passed : AllPassed (others t s w k d y ++ (refusal_14 (promise_of (tasks_of t) (view_of t.count s) w) latest ∷ []))
  unfolding admission_call admission_verdict
  admission_passed = none_given _ ok

  -- So it leaves all of that to know.
  pub admits : Admits t s w
  unfolding refusal_9_work refusal_9_tallies refusal_9_promise refusal_10 refusal_11 refusal_12 refusal_13
  admits =
      let ts = tasks_of t in
      let v = view_of t.count s in
      let a = admission_passed.1.1.1.1.1.1 in
      let nine = a.1.1 in
      let ten = nine.1.1.1 in
      let work = or_false_both (eqb w 0) (ltb 30000 w) (when_not (eqb w 0 || ltb 30000 w) 9 ten.0) in
      record {
        seven = a.0;
        work_fits = found_not (overfull_at ts v) (when_not (found (overfull_at ts v)) 8 nine.0);
        tallies_fit = when_not (wrong_tallies ts v) 8 nine.1.0;
        promises_fit = found_not (wrong_promise_at ts v) (when_not (found (wrong_promise_at ts v)) 8 nine.1.1.0);
        some_work = omega (arith, eqb-false w 0 work.0);
        most_work = ltb-false 30000 w work.1;
        few_jobs = leb-false 8 (length v.jobs) (when_not (leb 8 (length v.jobs)) 10 ten.1.0);
        some_idle = omega (arith, eqb-false (F ts) 0 (when_not (eqb (F ts) 0) 11 ten.1.1.0));
        in_clock = ltb-false H (promise_of ts v w) (when_not (ltb H (promise_of ts v w)) 12 ten.1.1.1.0);
      }

  -- It leaves the state with the new job last.
  pub admitted-state : (admission_call t s w latest k d y).answer.state ≡ state_of (admitted (tasks_of t) (view_of t.count s) w)
  unfolding admission_call
  admitted-state = accepted_is (admission_verdict t s w latest k d y) (state_of (admitted (tasks_of t) (view_of t.count s) w)) s ok

  -- It answers the promise that the vectors give.
  pub admitted-promise : (admission_call t s w latest k d y).answer.promise.0 ≡ promise_of (tasks_of t) (view_of t.count s) w
  unfolding admission_call
  admitted-promise = accepted_is (admission_verdict t s w latest k d y) (promise_of (tasks_of t) (view_of t.count s) w) 0 ok

-- ---- 14

module _ (t : Table) (s : State) (w : ℕ) (k d y : List ℕ) (rest : AllPassed (others t s w k d y)) (latest : Latest) where
  -- Where every other refusal passes, the verdict is that of 14.
  pub only_14 : admission_verdict t s w latest k d y ≡ refusal_14 (promise_of (tasks_of t) (view_of t.count s) w) latest
  unfolding admission_verdict refusal_14
  only_14 =
      let p = promise_of (tasks_of t) (view_of t.count s) w in
      passed-front (others t s w k d y) (refusal_14 p latest ∷ []) (ap (λ (r : Verdict). r.number) (all_none (others t s w k d y) rest))
      ∙ one_when (too_late p latest) 13

-- A refusal 14 is given exactly if its test is true.
pub late_number : (b : Bool) → ((when b 14).number ≡ 14) ↔ (b ≡ true)
late_number true = (λ e. refl, λ e. refl)
late_number false = (λ e. absurd (omega arith), λ e. let z : ◌≡◌ {A = ℕ} 0 1 = cc in absurd (omega arith))
