-- Demand 3 for the chip: an accepted table, lent as any run of tasks, a state that is reached from power-on by calls, and a job accepted
-- there. NeverRefused, CallsAgree and LateByCall are the statements. A refused call leaves the state (Leaves.antt), so only accepted
-- ones are walked along. The clock's end H only stops slots (15): no bound on it enters the truth of a promise.
use Prim.Native.Nat.{ℕ, zero, suc, ◌+◌, ◌-◌, ◌≤◌, ◌<◌}
use Rattle.std.specs.Prelude.{◌≡◌, refl, ◌↔◌, ◌≢◌, length}
use Rattle.std.proofs.Common.{sym, ◌∙◌, inl}
use Rattle.std.proofs.Math.Path.{ap, subst}
use Rattle.std.proofs.Math.Bool.{true}
use mathlib.Core.List.{List, [], ◌∷◌, ◌++◌}
use native.Mathlib.Omega.{arith}
use Rattle.std.proofs.Math.Decide.{dec_lt}
use borrow.Author.Tests.{le-leb, lt-leb, eq-eqb}
use Rattle.paper.specs.declared.Task.{Task}
use Rattle.paper.specs.declared.Table.{Table}
use Rattle.paper.specs.declared.State.{State}
use Rattle.paper.specs.declared.Slot.{Slot}
use Rattle.paper.specs.declared.Latest.{Latest}
use Rattle.paper.specs.declared.Latest.TheVariants.{None as NoLatest, By}
use Rattle.paper.specs.declared.Who.TheVariants.{Job as JobOf}
use Rattle.paper.specs.declared.Verdict.{Verdict}
use Rattle.paper.specs.declared.AdmissionAnswer.{AdmissionAnswer}
use Rattle.paper.specs.Window.{window}
use Rattle.paper.specs.Idle.{idle_until, LeastAfter, need, promise_of}
use Rattle.paper.specs.View.{Job, View, Waits, power_on, view_of, tasks_of, table_of}
use Rattle.paper.specs.Rule.{Does, nothing, task, job, runs_in, doing, next, said}
use Rattle.paper.specs.Refusals.{H, passed, when, too_late, refusal_7, refusal_8, refusal_8_slot, refusal_9_work, refusal_9_tallies, refusal_9_promise}
use Rattle.paper.specs.Refusals.{refusal_14, refusal_15}
use Rattle.paper.specs.Calls.{one_to_three, table_call, admitted, admission_call, slot_verdict, slot_call}
use Rattle.paper.specs.Plan.{Plan, Valid}
use Rattle.paper.specs.Reached.{From, start, slot, admit, Reached, LastUnit, FromCalls, start_called, slot_called, admission_called, ReachedByCalls}
use Rattle.demands.specs.Room.{Feasible}
use Rattle.demands.specs.Shape.{Rising}
use Rattle.demands.specs.Fit.{not_overdue, not_overdue_next, not_overfull, not_wrong_tallies, not_wrong_promise}
use Rattle.demands.specs.ThreeTimes.{Agree, sound_agree, sound_late}
use Rattle.theory.specs.Verdicts.{all_none, given_first, passed-front, passed-part}
use Rattle.theory.specs.Ready.{Ready}
use Rattle.demands.specs.LentRun.{sixteen_places, lent_tasks}
use Rattle.theory.specs.States.{Arrays, shape}
use Rattle.demands.specs.Accepted.{Admits, table_1_3, table_ready, table_feasible, slot_clock, slot_state, slot_who, told_job, power_on_state}
use Rattle.demands.specs.Accepted.{admission_passed, admits, admitted-state, admitted-promise, only_14, late_number, others}
use Rattle.demands.specs.Machine.{kept_start, kept_slot, kept_admit, seven, rises, KeptState, few, view_kept, state_kept, passed-kept}
use Rattle.demands.specs.JobWork.{left_for, work_left, said_for, slots_that, LastUnitByCall, left_waits, waits_left, left_slot, last_above}
use Rattle.demands.specs.JobWork.{above_waits, left_last, left_more}

-- ---- the statements: t is a table, and ts are its tasks

-- no call on the state is refused 7, 8 or 9; a slot runs until the clock's end, and there it is refused 15
pub record NeverRefused (t : Table) (ts : List Task) (s : State) : Type 0 where
  pub seven : refusal_7 ts s ≡ passed
  pub eight : refusal_8 ts (view_of t.count s) ≡ passed
  pub eight_slot : refusal_8_slot ts (view_of t.count s) ≡ passed
  pub nine_work : refusal_9_work ts (view_of t.count s) ≡ passed
  pub nine_tallies : refusal_9_tallies ts (view_of t.count s) ≡ passed
  pub nine_promise : refusal_9_promise ts (view_of t.count s) ≡ passed
  pub clock : s.now.0 ≤ H
  pub runs : s.now.0 < H → (slot_call t s).number ≡ 0
  pub stops : s.now.0 ≡ H → (slot_call t s).number ≡ 15

-- a job of work w is accepted in the state s with this answer: "Three times agree"
pub record CallsAgree (t : Table) (ts : List Task) (s : State) (w : ℕ) (answer : AdmissionAnswer) : Type 0 where
  -- "the finish promised from the vectors": the least time until which idle is equal to need
  pub promised : LeastAfter (λ u. idle_until ts (view_of t.count s).lefts s.now.0 u ≡ need (view_of t.count s) w) s.now.0
      answer.promise.0
  -- "the end of the slot in which the running chip does the job's last unit, if run so far, with any later arrivals": this slot, and no
  -- other, takes the work left from one to none and says that it did the job
  pub run : (u : State) → FromCalls t answer.state u → LastUnitByCall t u answer.promise ↔ (suc u.now.0 ≡ answer.promise.0)
  -- "and the earliest end in any plan from that moment that meets every periodic deadline to the end of the window holding that end and
  -- has all earlier accepted jobs done by then"
  pub planned : (plan : Plan) × Valid ts (view_of t.count s) w plan answer.promise.0
  pub earliest : (plan : Plan) (e : ℕ) → Valid ts (view_of t.count s) w plan e → answer.promise.0 ≤ e
  -- what the chip does on the way: until the promise no slot is refused, and so the chip can be run so far; ...
  pub goes_on : (u : State) → FromCalls t answer.state u → u.now.0 < answer.promise.0 → (slot_call t u).number ≡ 0
  pub reaches : (u : State) × FromCalls t answer.state u × (suc u.now.0 ≡ answer.promise.0)
  -- ... the job has work left exactly until the promise; what is left and the slots that said that they did a unit make up its work; ...
  pub waits : (u : State) → FromCalls t answer.state u → (1 ≤ work_left answer.promise u) ↔ (u.now.0 < answer.promise.0)
  pub units : (u : State) (r : FromCalls t answer.state u) → work_left answer.promise u + slots_that (said_for answer.promise) r ≡ w
  -- ... and no slot after the promise says that it did the job
  pub no_later : (u : State) → FromCalls t answer.state u → (slot_call t u).who ≡ JobOf answer.promise
      → suc u.now.0 ≤ answer.promise.0

-- "A job that passes every other check is refused as too late exactly if no such plan ends by the slot asked."
abbrev pub LateByCall : Table → List Task → State → ℕ → Slot → List ℕ → List ℕ → List ℕ → Type 0
LateByCall t ts s w latest k d y =
    ((admission_call t s w (By latest) k d y).answer.number ≡ 14)
    ↔ ((plan : Plan) (e : ℕ) → Valid ts (view_of t.count s) w plan e → e ≤ latest.0 → ⊥)

-- ---- a slot that says that it did the job of the promise p

says : (p : ℕ) (k : Does) (js : List Job) → said k js ≡ JobOf (record { 0 = p }) → Waits p js
unfolding said
says p nothing js e = let z : ◌≡◌ {A = ℕ} 0 1 = cc in absurd (omega arith)
says p (task i) js e = let z : ◌≡◌ {A = ℕ} 0 1 = cc in absurd (omega arith)
says p job [] e = let z : ◌≡◌ {A = ℕ} 0 1 = cc in absurd (omega arith)
says p job (j ∷ js) e = let q : ◌≡◌ {A = Slot} (record { 0 = j.promise }) (record { 0 = p }) = cc in inl (ap (λ (x : Slot). x.0) q)

last_says : (ts : List Task) (v : View) (p : ℕ) → LastUnit ts v p → said (runs_in ts v) v.jobs ≡ JobOf (record { 0 = p })
unfolding said
last_says ts v p l = rw (l.5, l.2, l.3)

-- ---- an accepted table of sixteen places

module _ (t : Table) (sixteen : length t.tasks ≡ 16) (k₀ d₀ : List ℕ) (ok : (table_call t k₀ d₀).answer.number ≡ 0) where
  -- It passes 1 to 3.
  pub is_ready : Ready t (window (tasks_of t))
  is_ready = table_ready t k₀ d₀ ok

  -- It passes 6: at no time more work is due than there are slots.
  pub feasible : Feasible (tasks_of t)
  feasible = table_feasible t k₀ d₀ ok

  -- ---- an accepted call keeps the state, and does to its view what the rule and the promise say

  -- an accepted slot
  kept_by_slot : (s : State) → KeptState t s → (slot_call t s).number ≡ 0
      → KeptState t (slot_call t s).state × (view_of t.count (slot_call t s).state ≡ next (tasks_of t) (view_of t.count s))
  kept_by_slot s h e =
      let ts = tasks_of t in
      let v = view_of t.count s in
      let after = kept_slot ts is_ready.good feasible v h.kept (slot_clock t s e) in
      rw (slot_state t s e) (state_kept is_ready sixteen (next ts v) after, view_kept is_ready sixteen (next ts v) after)

  -- an accepted admission
  kept_by_admission : (s : State) → KeptState t s → (w : ℕ) (latest : Latest) (k d y : List ℕ)
      → (admission_call t s w latest k d y).answer.number ≡ 0
      → KeptState t (admission_call t s w latest k d y).answer.state
      × (view_of t.count (admission_call t s w latest k d y).answer.state ≡ admitted (tasks_of t) (view_of t.count s) w)
  kept_by_admission s h w latest k d y e =
      let ts = tasks_of t in
      let v = view_of t.count s in
      let m = admits t s w latest k d y e in
      let after = kept_admit ts is_ready.good feasible v w h.kept m.some_work m.most_work m.some_idle m.few_jobs m.in_clock in
      rw (admitted-state t s w latest k d y e) (state_kept is_ready sixteen (admitted ts v w) after, view_kept is_ready sixteen (admitted ts v w) after)

  -- Any accepted calls keep the state, and lead its view where slots and admissions lead it.
  pub along : {s₀ s : State} → KeptState t s₀ → FromCalls t s₀ s → KeptState t s × From (tasks_of t) (view_of t.count s₀) (view_of t.count s)
  along h start_called = (h, start)
  along h (slot_called {s} r e) =
      let a = along h r in
      let b = kept_by_slot s a.0 e in
      (b.0, rw b.1 (slot a.1))
  along h (admission_called {s} r w latest k d y e) =
      let a = along h r in
      let b = kept_by_admission s a.0 w latest k d y e in
      let m = admits t s w latest k d y e in
      (b.0, rw b.1 (admit a.1 w m.some_work m.some_idle))

  -- ---- a kept state

  rising : (s : State) → KeptState t s → Rising s.now.0 (view_of t.count s).jobs
  unfolding view_of
  rising s h = rises (tasks_of t) is_ready.good (few is_ready sixteen) (view_of t.count s) h.kept

  kept_never : (s : State) → KeptState t s → NeverRefused t (tasks_of t) s
  unfolding view_of refusal_8 refusal_8_slot refusal_9_work refusal_9_tallies refusal_9_promise refusal_15 slot_call slot_verdict
  kept_never s h =
      let ts = tasks_of t in
      let v = view_of t.count s in
      let good = is_ready.good in
      let sound = h.kept.sound in
      let now = not_overdue ts good feasible v sound in
      let r7 : refusal_7 ts s ≡ passed =
      subst (λ (x : State). refusal_7 ts x ≡ passed) h.whole (seven ts good (few is_ready sixteen) v h.kept) in
      let r8 : refusal_8_slot ts v ≡ passed = rw (now, not_overdue_next ts good feasible v sound) in
      let first = table_1_3 t k₀ d₀ ok in
      let number : Verdict → ℕ = λ (r : Verdict). r.number in
      let front = one_to_three t ++ (refusal_7 ts s ∷ []) in
      let rest = refusal_15 v ∷ refusal_8_slot ts v ∷ [] in
      let front-passed = all_none front (first.0, (first.1.0, (first.1.1.0, (rw r7, tt)))) in
      let only-rest = passed-front front rest (ap number front-passed) in
      record {
        seven = r7;
        eight = rw now;
        eight_slot = r8;
        nine_work = rw (not_overfull ts good feasible v sound);
        nine_tallies = rw (not_wrong_tallies ts good feasible v sound);
        nine_promise = rw (not_wrong_promise ts good feasible v sound);
        clock = h.kept.machine.clock;
        runs = λ below. ap number (only-rest ∙ all_none rest (rw (lt-leb H s.now.0 below), (rw r8, tt)));
        stops = λ end.
            let r15 : refusal_15 v ≡ when true 15 = rw (le-leb H s.now.0 (omega arith)) in
            ap number (only-rest ∙ given_first (refusal_15 v) (refusal_8_slot ts v ∷ []) (rw r15 (omega arith)) ∙ r15);
      }

  module _ (s : State) (h : KeptState t s) (w : ℕ) (latest : Latest) (k d y : List ℕ) (yes-it-is : (admission_call t s w latest k d y).answer.number ≡ 0) where
    abbrev o : AdmissionAnswer
    o = (admission_call t s w latest k d y).answer

    abbrev viewed : State → View
    viewed = view_of t.count

    m : Admits t s w
    m = admits t s w latest k d y yes-it-is

    more : KeptState t o.state × (viewed o.state ≡ admitted (tasks_of t) (viewed s) w)
    more = kept_by_admission s h w latest k d y yes-it-is

    same : o.promise.0 ≡ promise_of (tasks_of t) (viewed s) w
    same = admitted-promise t s w latest k d y yes-it-is

    agreed : Agree (tasks_of t) (viewed s) w o.promise.0
    agreed = rw same (sound_agree (tasks_of t) is_ready.good feasible (viewed s) h.kept.sound w m.some_work m.some_idle)

    -- what is reached from the answer's state by calls
    kept_on : (u : State) → FromCalls t o.state u → KeptState t u
    kept_on u r = (along more.0 r).0

    on : (u : State) → FromCalls t o.state u → From (tasks_of t) (admitted (tasks_of t) (viewed s) w) (viewed u)
    on u r = rw more.1 at (along more.0 r).1

    runs-until : (u : State) → FromCalls t o.state u → u.now.0 < o.promise.0 → (slot_call t u).number ≡ 0
    runs-until u r below = (kept_never u (kept_on u r)).runs (omega (arith, m.in_clock, same))

    now_after : (u : State) → FromCalls t o.state u → (slot_call t u).number ≡ 0 → (slot_call t u).state.now.0 ≡ suc u.now.0
    unfolding view_of next doing
    now_after u r e = ap (λ (x : View). x.now) (kept_by_slot u (kept_on u r) e).1

    reached_end : (n : ℕ) (u : State) → FromCalls t o.state u → suc (u.now.0 + n) ≡ o.promise.0
        → (x : State) × FromCalls t o.state x × (suc x.now.0 ≡ o.promise.0)
    reached_end zero u r e = (u, r, omega arith)
    reached_end (suc n) u r e =
        let q = runs-until u r (omega arith) in
        reached_end n (slot_call t u).state (slot_called r q) (omega (arith, now_after u r q))

    until : (u : State) → FromCalls t o.state u → (1 ≤ work_left o.promise u) ↔ (u.now.0 < o.promise.0)
    unfolding view_of
    until u r =
        let p = o.promise.0 in
        let v = viewed u in
        let a = agreed.waits v (on u r) in
        (λ l. a.0 (left_waits p v.jobs l), λ b. waits_left p v.now v.jobs (rising u (kept_on u r)) (a.1 b))

    -- a later job is not of this promise
    other_promise : (u : State) → FromCalls t o.state u → (j : Job) → Rising u.now.0 ((viewed u).jobs ++ (j ∷ [])) → j.promise ≢ o.promise.0
    unfolding view_of
    other_promise u r j up z =
        let p = o.promise.0 in
        let v = viewed u in
        elim (dec_lt v.now p) [
          | yes b ↦ omega (arith, above_waits p v.now v.jobs j up ((agreed.waits v (on u r)).1 b))
          | no b ↦ omega (arith, last_above v.now v.jobs j up)
        ]

    all_units : {u : State} (r : FromCalls t o.state u) → work_left o.promise u + slots_that (said_for o.promise) r ≡ w
    unfolding slots_that view_of next doing
    all_units start_called =
        let new : Job = record { left = w; promise = promise_of (tasks_of t) (viewed s) w } in
        let e = ap (λ (x : View). left_for o.promise.0 x.jobs) more.1 in
        let up : Rising o.state.now.0 ((viewed s).jobs ++ (new ∷ [])) = rw (ap (λ (x : View). x.jobs) more.1) at (rising o.state more.0) in
        let l = ap (λ (q : ℕ). left_for q ((viewed s).jobs ++ (new ∷ []))) same ∙ left_last o.state.now.0 (viewed s).jobs new up in
        omega (arith, e, l)
    all_units (slot_called {s = u} r e) =
        let a = ap (λ (x : View). left_for o.promise.0 x.jobs) (kept_by_slot u (kept_on u r) e).1 in
        let l = left_slot o.promise.0 u.now.0 (runs_in (tasks_of t) (viewed u)) (viewed u).jobs (rising u (kept_on u r)) in
        omega (arith, all_units r, a, rw (sym (slot_who t u e)) at l)
    all_units (admission_called {s = u} r w' latest' k' d' y' e) =
        let new : Job = record { left = w'; promise = promise_of (tasks_of t) (viewed u) w' } in
        let b = kept_by_admission u (kept_on u r) w' latest' k' d' y' e in
        let after = (admission_call t u w' latest' k' d' y').answer.state in
        let a = ap (λ (x : View). left_for o.promise.0 x.jobs) b.1 in
        let up : Rising after.now.0 ((viewed u).jobs ++ (new ∷ [])) = rw (ap (λ (x : View). x.jobs) b.1) at (rising after b.0) in
        let up' : Rising u.now.0 ((viewed u).jobs ++ (new ∷ [])) = rw (ap (λ (x : View). x.now) b.1) at up in
        omega (arith, all_units r, a, left_more o.promise.0 (viewed u).jobs new (other_promise u r new up'))

    -- the three times of a job that is accepted in a kept state
    kept_agree : CallsAgree t (tasks_of t) s w o
    unfolding view_of slots_that
    kept_agree =
        let ts = tasks_of t in
        let p = o.promise in
        record {
          promised = agreed.promised;
          run = λ u r. (
            λ l.
                let z = l.none_after in
                let a = (until u r).0 (omega (arith, l.one_left)) in
                let b = (until (slot_call t u).state (slot_called r l.runs)).1 in
                elim (dec_lt (suc u.now.0) p.0) [
                  | yes c ↦ absurd (omega (arith, b (omega (arith, now_after u r l.runs))))
                  | no c ↦ omega arith
                ],
            λ e.
                let q = runs-until u r (omega arith) in
                let who : (slot_call t u).who ≡ JobOf p = slot_who t u q ∙ last_says ts (viewed u) p.0 ((agreed.run (viewed u) (on u r)).1 e) in
                let one : said_for p (slot_call t u).who ≡ 1 = rw (who, eq-eqb p.0 p.0 refl) in
                let zero-after : work_left p (slot_call t u).state ≡ 0 =
                elim (dec_lt 0 (work_left p (slot_call t u).state)) [
                  | yes c ↦ absurd (omega (arith, (until (slot_call t u).state (slot_called r q)).0 c, now_after u r q))
                  | no c ↦ omega arith
                ] in
                record {
                  runs = q;
                  says = who;
                  one_left = omega (arith, all_units r, all_units (slot_called r q));
                  none_after = zero-after;
                },
          );
          planned = agreed.planned;
          earliest = agreed.earliest;
          goes_on = runs-until;
          reaches = reached_end (p.0 - suc o.state.now.0) o.state start_called (omega (arith, agreed.promised.after, ap (λ (x : View). x.now) more.1));
          waits = until;
          units = λ u r. all_units r;
          no_later = λ u r e.
              let number = told_job t u p e in
              (agreed.waits (viewed u) (on u r)).0 (says p.0 (runs_in ts (viewed u)) (viewed u).jobs (sym (slot_who t u number) ∙ e));
        }

  kept_late : (s : State) → KeptState t s → (w : ℕ) (k d y : List ℕ) → (admission_call t s w NoLatest k d y).answer.number ≡ 0
      → (latest : Slot) → LateByCall t (tasks_of t) s w latest k d y
  unfolding admission_call refusal_14
  kept_late s h w k d y others-pass latest =
      let ts = tasks_of t in
      let v = view_of t.count s in
      let p = promise_of ts v w in
      let m = admits t s w NoLatest k d y others-pass in
      let a = passed-part (others t s w k d y) (refusal_14 p NoLatest ∷ []) (admission_passed t s w NoLatest k d y others-pass) in
      let late = sound_late ts is_ready.good feasible v h.kept.sound w m.some_work m.some_idle latest in
      let given = late_number (too_late p (By latest)) in
      let only = ap (λ (r : Verdict). r.number) (only_14 t s w k d y a (By latest)) in
      (λ e. late.0 (given.0 (sym only ∙ e)), λ none-by. only ∙ given.1 (late.1 none-by))

  -- ---- what is reached from power-on

  -- A reached state is kept, and its view is reached.
  pub reached_kept : (s : State) → ReachedByCalls t s → KeptState t s × Reached (tasks_of t) (view_of t.count s)
  reached_kept s r =
      let ts = tasks_of t in
      let on = power_on_state t (table_1_3 t k₀ d₀ ok) in
      let first = kept_start ts is_ready.good feasible in
      let a = along (rw on (state_kept is_ready sixteen (power_on ts) first)) r in
      (a.0, rw (on, view_kept is_ready sixteen (power_on ts) first) at a.1)

-- ---- THE THEOREMS, of any lent run of tasks that the table check accepts

module _ (ts : List Task) (k₀ d₀ : List ℕ) (ok : (table_call (table_of ts) k₀ d₀).answer.number ≡ 0) where
  -- An accepted run is short enough that the table has all of its tasks.
  pub the_tasks : tasks_of (table_of ts) ≡ ts
  unfolding table_of
  the_tasks = lent_tasks ts (is_ready (table_of ts) (sixteen_places ts) k₀ d₀ ok).few

  module _ (s : State) (reached : ReachedByCalls (table_of ts) s) where
    is_kept : KeptState (table_of ts) s × Reached (tasks_of (table_of ts)) (view_of (table_of ts).count s)
    is_kept = reached_kept (table_of ts) (sixteen_places ts) k₀ d₀ ok s reached

    -- The view of a reached state is reached, so all that is shown of views is shown of it.
    pub reached_view : Reached ts (view_of (length ts) s)
    unfolding table_of
    reached_view = subst (λ (x : List Task). Reached x (view_of (length ts) s)) the_tasks is_kept.1

    -- No call on a reached state is refused 7, 8 or 9, and a slot runs until the clock's end.
    pub never_refused_called : NeverRefused (table_of ts) ts s
    never_refused_called =
        subst (λ (x : List Task). NeverRefused (table_of ts) x s) the_tasks (kept_never (table_of ts) (sixteen_places ts) k₀ d₀ ok s is_kept.0)

    -- DEMAND 3: the three times of a job that is accepted in a reached state agree.
    pub three_times_called : (w : ℕ) (latest : Latest) (k d y : List ℕ) → (admission_call (table_of ts) s w latest k d y).answer.number ≡ 0
        → CallsAgree (table_of ts) ts s w (admission_call (table_of ts) s w latest k d y).answer
    three_times_called w latest k d y e =
        subst (λ (x : List Task). CallsAgree (table_of ts) x s w (admission_call (table_of ts) s w latest k d y).answer) the_tasks
        (kept_agree (table_of ts) (sixteen_places ts) k₀ d₀ ok s is_kept.0 w latest k d y e)

    -- DEMAND 3: a job that passes every other check is refused 14 exactly if no plan ends by the slot asked.
    pub too_late_called : (w : ℕ) (k d y : List ℕ) → (admission_call (table_of ts) s w NoLatest k d y).answer.number ≡ 0
        → (latest : Slot) → LateByCall (table_of ts) ts s w latest k d y
    too_late_called w k d y e latest =
        subst (λ (x : List Task). LateByCall (table_of ts) x s w latest k d y) the_tasks
        (kept_late (table_of ts) (sixteen_places ts) k₀ d₀ ok s is_kept.0 w k d y e latest)

  -- A state that was not reached, but passes 7 to 9, is as good: its arrays have sixteen and eight places, as every state's have.
  pub accepted_agrees : (s : State) → length s.requests ≡ 16 → length s.jobs ≡ 8 → (w : ℕ) (latest : Latest) (k d y : List ℕ)
      → (admission_call (table_of ts) s w latest k d y).answer.number ≡ 0
      → CallsAgree (table_of ts) ts s w (admission_call (table_of ts) s w latest k d y).answer
  accepted_agrees s requests jobs w latest k d y e =
      let t = table_of ts in
      let sixteen = sixteen_places ts in
      let m = admits t s w latest k d y e in
      let r = is_ready t sixteen k₀ d₀ ok in
      let f = feasible t sixteen k₀ d₀ ok in
      let arrays : Arrays t s = record { tasks = sixteen; requests = requests; jobs = jobs } in
      subst (λ (x : List Task). CallsAgree t x s w (admission_call t s w latest k d y).answer) the_tasks
      (kept_agree t sixteen k₀ d₀ ok s (passed-kept r f (shape r arrays m.seven) m.work_fits m.tallies_fit m.promises_fit) w latest k d y e)
