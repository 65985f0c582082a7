-- What is known of a shaped state through its slot: who runs, the state with the unit done, and the state at the next slot.
use mathlib.Core.Path.{◌≡◌, refl, sym, ap, ◌∙◌}
use mathlib.Core.Bool.{◌||◌}
use mathlib.Core.List.{List, [], ◌∷◌, ◌++◌}
use Prim.Native.Nat.{ℕ, suc, ◌+◌, ◌*◌, ◌-◌, ◌/◌, ◌%◌, ◌≤◌, ◌<◌}
use native.Mathlib.Omega.{arith}
use native.Mathlib.Nat.{mod-lt, div-add-mod'}
use lib.Dec.{ltb, eqb}
use lib.ListN.{length, take, drop}
use Rattle.paper.specs.declared.Table.{Table}
use Rattle.paper.specs.declared.State.{State}
use Rattle.paper.specs.declared.Who.{Who}
use Rattle.paper.specs.Demand.{pick}
use Rattle.paper.specs.Window.{window}
use Rattle.paper.specs.View.{Job, View, request_lefts, requests_of, no_request, padded, view_of, state_of, tasks_of}
use Rattle.paper.specs.Rule.{Does, First, first, enter, after, job_unit, idle_unit, tally, doing, runs_in, next, said, ready_word}
use Rattle.paper.specs.Refusals.{H, passed, overdue, overdue_next}
use Rattle.paper.specs.Calls.{slot_by}
use Rattle.theory.specs.Ready.{Ready, ready_pos}
use Rattle.theory.specs.States.{Shape, many_tasks_lem, view_back, with_lefts, put_lefts, enter-length, requests_length, stated_requests}
use Rattle.theory.specs.Padded.{take-padded}
use Rattle.theory.specs.DueBy.{due_by, late_first, oldest_by, late_slot}
use Rattle.theory.specs.Offsets.{later_by, first-offset, late_offset, due-offset, next-offset}
use Rattle.rule.specs.declared.First.{First as Found}
use Rattle.rule.specs.Owner.{first_of, found_of, oldest_of, owner_of, does_of, TaskFits}
use Rattle.rule.specs.Unit.{unit_of, CanRun}
use Rattle.rule.proofs.Firsts.{found_task, first_back}
use Rattle.rule.proofs.Units.{halfway, owner_runs, does_back, unit_is, can_run, halfway_lefts, halfway_jobs}
use Rattle.slot.specs.Next.{next_of, answer_of, MayRise}
use Rattle.slot.specs.Late.{work_by, too_late}

now_view : (n : ℕ) (s : State) → (view_of n s).now ≡ s.now.0
unfolding view_of
now_view n s = refl

-- ---- refusal 8 of a slot, by what the walk tells

oldest_work : (js : List Job) (u : ℕ) → work_by (oldest_of js) u ≡ oldest_by js u
oldest_work [] u = refl
oldest_work (j ∷ js) u = refl

-- ---- now rises, releases enter, the slot is tallied: on the view g in which the unit is done

next-step : (t : Table) (who : Who) (g : View) (d : Does) → does_of who ≡ d → length g.lefts ≡ t.count → length (tasks_of t) ≡ t.count
    → t.count ≤ 16
    → length g.jobs ≤ 8
    → next_of t who (state_of g)
    ≡ state_of (record {
      now = suc g.now;
      lefts = enter (tasks_of t) (suc g.now) g.lefts;
      jobs = g.jobs;
      given = tally (tasks_of t) (suc g.now) (g.given + job_unit d);
      idle = tally (tasks_of t) (suc g.now) (g.idle + idle_unit d);
    })
unfolding next_of state_of view_of
next-step t who g d e l m few j =
    let ls = enter (tasks_of t) (suc g.now) g.lefts in
    let back : request_lefts (take t.count (state_of g).requests) ≡ g.lefts =
    ap (λ (x : View). x.lefts) (view_back t.count g l few j) in
    let same : length ls ≡ length g.lefts = enter-length (tasks_of t) (suc g.now) g.lefts ∙ m ∙ sym l in
    let q : (state_of (with_lefts g ls)).requests ≡ requests_of ls ++ drop (length g.lefts) (state_of g).requests =
    ap (λ (x : State). x.requests) (put_lefts g ls same (omega arith)) in
    let p : requests_of ls ++ drop t.count (state_of g).requests ≡ (state_of (with_lefts g ls)).requests =
    ap (λ (n : ℕ). requests_of ls ++ drop n (state_of g).requests) (sym l) ∙ sym q in
    rw (e, back, p)

module _ {t : Table} {w : ℕ} {s : State} (r : Ready t w) (h : Shape t s) (h15 : s.now.0 < H) where
  abbrev v : View
  v = view_of t.count s

  abbrev k : Does
  k = runs_in (tasks_of t) v

  abbrev half : View
  half = halfway k v

  many : length (tasks_of t) ≡ t.count
  many = many_tasks_lem r h.arrays.tasks

  -- ---- what the walk at the offset tells

  module _ (f : Found) (is : f ≡ found_of (first (tasks_of t) (view_of t.count s).lefts (s.now.0 % w)) (due_by (tasks_of t) (view_of t.count s).lefts (s.now.0 % w) (suc (s.now.0 % w)))) where
    abbrev first_then : First
    first_then = first (tasks_of t) (view_of t.count s).lefts (s.now.0 % w)

    abbrev units : ℕ
    units = due_by (tasks_of t) (view_of t.count s).lefts (s.now.0 % w) (suc (s.now.0 % w))

    by_offset : overdue (tasks_of t) v || overdue_next (tasks_of t) v
        ≡ late_first first_then (s.now.0 % w)
        || (ltb 0 (oldest_by v.jobs s.now.0) || ltb 1 (units + oldest_by v.jobs (suc s.now.0)))
    by_offset =
        late_slot (tasks_of t) v h.jobs
        ∙ rw (
          now_view t.count s,
          late_offset (tasks_of t) r.good v.lefts s.now.0,
          due-offset (tasks_of t) r.good v.lefts s.now.0,
          r.is_window,
        )

    -- refusal 8
    pub eight : too_late f (s.now.0 % w) (oldest_of (view_of t.count s).jobs) s.now.0 ≡ overdue (tasks_of t) (view_of t.count s) || overdue_next (tasks_of t) (view_of t.count s)
    eight =
        rw (
          is,
          first_back first_then,
          oldest_work v.jobs s.now.0,
          oldest_work v.jobs (suc s.now.0),
        )
        (sym by_offset)

    pub task_in_lem : TaskFits f.first
    task_in_lem = rw is (found_task (tasks_of t) v.lefts (s.now.0 % w) (omega (arith, many, r.few)))

    -- the first request now
    pub first-now : later_by (s.now.0 - s.now.0 % w) (first_of f.first) ≡ first (tasks_of t) (view_of t.count s).lefts (view_of t.count s).now
    first-now =
        let W = window (tasks_of t) in
        let start : s.now.0 - s.now.0 % W ≡ s.now.0 / W * W = omega (arith, div-add-mod' s.now.0 W) in
        rw (
          is,
          first_back first_then,
          now_view t.count s,
          first-offset (tasks_of t) r.good v.lefts s.now.0,
          r.is_window,
          start,
        )

  -- ---- who runs, and the state with the unit done

  module _ (who : Who) (is : who ≡ owner_of (first (tasks_of t) (view_of t.count s).lefts (view_of t.count s).now) (oldest_of (view_of t.count s).jobs)) where
    pub who_is : who ≡ said (runs_in (tasks_of t) (view_of t.count s)) (view_of t.count s).jobs
    who_is = is ∙ owner_runs (tasks_of t) v

    pub who_can : CanRun who s
    who_can = rw who_is (can_run h many)

    does_is : does_of who ≡ k
    does_is = rw who_is (does_back (tasks_of t) v)

    u_is : unit_of who s ≡ state_of half
    u_is = rw who_is (unit_is h many)

    -- it can go onward, to the next offset
    pub may_rise : (at : ℕ) → at ≡ pick (eqb (suc (s.now.0 % w)) w) 0 (suc (s.now.0 % w)) → MayRise t at (unit_of who s)
    unfolding state_of view_of
    may_rise at e =
        let u = unit_of who s in
        let W = window (tasks_of t) in
        let n : u.now.0 ≡ s.now.0 = rw u_is in
        let a : u.given ≡ s.given = rw u_is in
        let i : u.idle ≡ s.idle = rw u_is in
        let sum = h.tallies in
        let p : 0 < W = rw (← r.is_window) (ready_pos r) in
        let short : W ≤ 30000 = rw (← r.is_window) r.short in
        let less = mod-lt s.now.0 {m = W} p in
        let rs = requests_of half.lefts in
        let l : length rs ≡ t.count = requests_length half.lefts ∙ halfway_lefts h many in
        let few = r.few in
        let front : take t.count (padded 16 no_request rs) ≡ rs =
        ap (λ (m : ℕ). take m (padded 16 no_request rs)) (sym l) ∙ take-padded no_request 16 rs (omega arith) in
        record {
          clock = omega arith;
          given = omega arith;
          idle = omega arith;
          stated = rw (u_is, front) (stated_requests half.lefts);
          offset = rw (n, ← r.is_window) (e ∙ sym (next-offset w s.now.0 (ready_pos r)));
        }

    -- the state at the next slot
    next-is : next_of t who (unit_of who s) ≡ state_of (next (tasks_of t) (view_of t.count s))
    unfolding next doing
    next-is =
        rw u_is (next-step t who half k does_is (halfway_lefts h many) many r.few (halfway_jobs h many))

    ready_next : ready_word (request_lefts (take t.count (state_of (next (tasks_of t) v)).requests)) ≡ ready_word (next (tasks_of t) v).lefts
    unfolding view_of next doing
    ready_next =
        let n = next (tasks_of t) v in
        let l : length n.lefts ≡ t.count = enter-length (tasks_of t) (suc v.now) (after k v.lefts) ∙ many in
        ap (λ (x : View). ready_word x.lefts) (view_back t.count n l r.few (halfway_jobs h many))

    -- THE SLOT: what was done is what the call answers
    pub slot_done : answer_of t who (next_of t who (unit_of who s)) ≡ slot_by passed (tasks_of t) (view_of t.count s) s
    slot_done = rw (next-is, who_is, ready_next)
