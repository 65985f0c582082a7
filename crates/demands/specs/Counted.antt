-- The tallies are tied to the slots run: from a window's start on, A counts the slots that said job, I those that said idle, and
-- F − A − I is the sum of Y.
use Prim.Native.Nat.{ℕ, suc, ◌+◌, ◌/◌, ◌%◌, ◌<◌}
use Rattle.std.specs.Prelude.{◌≡◌, refl, List, [], ◌∷◌, length}
use Rattle.std.proofs.Math.Path.{ap}
use Rattle.std.proofs.Common.{subst, ◌∙◌, inl, inr, ne_eqb}
use native.Mathlib.Omega.{arith}
use Rattle.paper.specs.declared.Task.{Task}
use Rattle.paper.specs.declared.Table.{Table}
use Rattle.paper.specs.declared.State.{State}
use Rattle.paper.specs.declared.Who.{Who}
use Rattle.paper.specs.declared.Who.TheVariants.{Idle, Task as TaskOf, Job as JobOf}
use Rattle.paper.specs.Window.{window}
use Rattle.paper.specs.Vectors.{sum, F, Y}
use Rattle.paper.specs.View.{Job, view_of, state_of, tasks_of, table_of}
use Rattle.paper.specs.Rule.{First, none_left, first-is, against, runs, first, said, job_unit, idle_unit, tally, doing, next}
use Rattle.paper.specs.Calls.{table_call, slot_call}
use Rattle.paper.specs.Reached.{FromCalls, start_called, slot_called, admission_called, ReachedByCalls}
use Rattle.theory.specs.Counting.{test, div_mono, Tick, starts, goes_on, tick}
use Rattle.demands.specs.Tallies.{tallies}
use Rattle.theory.specs.Ready.{ready_pos}
use Rattle.demands.specs.Accepted.{table_ready, slot_state, slot_who, admitted-state}
use Rattle.demands.specs.JobWork.{slots_that}
use Rattle.demands.specs.LentRun.{sixteen_places}
use Rattle.demands.specs.Called.{feasible, along, reached_kept, the_tasks}

-- ---- the statement

-- 1 for a slot that said job, and else 0
abbrev pub said_job : Who → ℕ
said_job Idle = 0
said_job (TaskOf j) = 0
said_job (JobOf p) = 1

-- 1 for a slot that said idle, and else 0
abbrev pub said_idle : Who → ℕ
said_idle Idle = 1
said_idle (TaskOf j) = 0
said_idle (JobOf p) = 0

-- 1 for a slot that said task, and else 0
abbrev pub said_task : Who → ℕ
said_task Idle = 0
said_task (TaskOf j) = 1
said_task (JobOf p) = 0

-- calls from s₀ to s, in one window of which s₀ is the start; ts are the table's tasks
pub record SlotsTallied (t : Table) (ts : List Task) {s₀ s : State} (r : FromCalls t s₀ s) : Type 0 where
  pub given : s.given ≡ slots_that said_job r
  pub idle : s.idle ≡ slots_that said_idle r
  pub all : s.now.0 ≡ s₀.now.0 + (slots_that said_job r + slots_that said_idle r + slots_that said_task r)
  pub left : s.given + s.idle + sum (Y ts (view_of t.count s).lefts (s.now.0 % window ts)) ≡ F ts

-- ---- what a slot says is what it does

said-is : (f : First) (js : List Job)
    → (said_job (said (against f js) js) ≡ job_unit (against f js))
    × (said_idle (said (against f js) js) ≡ idle_unit (against f js))
    × (said_job (said (against f js) js) + said_idle (said (against f js) js) + said_task (said (against f js) js) ≡ 1)
unfolding said
said-is none_left [] = (refl, refl, refl)
said-is none_left (j ∷ js) = (refl, refl, refl)
said-is (first-is i d) [] = (refl, refl, refl)
said-is (first-is i d) (j ∷ js) = elim (test j.promise d) [ inl y ↦ rw y.0 (refl, refl, refl) | inr n ↦ rw n.0 (refl, refl, refl) ]

record OneSlot (t : Table) (s : State) : Type 0 where
  now : (slot_call t s).state.now.0 ≡ suc s.now.0
  given : (slot_call t s).state.given ≡ tally (tasks_of t) (suc s.now.0) (s.given + said_job (slot_call t s).who)
  idle : (slot_call t s).state.idle ≡ tally (tasks_of t) (suc s.now.0) (s.idle + said_idle (slot_call t s).who)
  one : said_job (slot_call t s).who + said_idle (slot_call t s).who + said_task (slot_call t s).who ≡ 1

one_slot : (t : Table) (s : State) → (slot_call t s).number ≡ 0 → OneSlot t s
unfolding view_of state_of next doing runs
one_slot t s e =
    let ts = tasks_of t in
    let v = view_of t.count s in
    let q = slot_state t s e in
    let who = slot_who t s e in
    let k = said-is (first ts v.lefts v.now) v.jobs in
    record {
      now = ap (λ (x : State). x.now.0) q;
      given = ap (λ (x : State). x.given) q ∙ rw (who, k.0);
      idle = ap (λ (x : State). x.idle) q ∙ rw (who, k.1);
      one = rw who k.2;
    }

-- ---- along calls

module _ (t : Table) (k₀ d₀ : List ℕ) (ok : (table_call t k₀ d₀).answer.number ≡ 0) {s₀ : State} where
  counted_now : {s : State} (r : FromCalls t s₀ s)
      → s.now.0 ≡ s₀.now.0 + (slots_that said_job r + slots_that said_idle r + slots_that said_task r)
  unfolding slots_that view_of state_of
  counted_now start_called = omega arith
  counted_now (slot_called {s} r e) = let o = one_slot t s e in omega (arith, o.now, o.one, counted_now r)
  counted_now (admission_called {s} r w latest k d y e) =
      ap (λ (x : State). x.now.0) (admitted-state t s w latest k d y e) ∙ counted_now r

  counted : {s : State} (r : FromCalls t s₀ s) → s.now.0 / window (tasks_of t) ≡ s₀.now.0 / window (tasks_of t)
      → (s.given ≡ s₀.given + slots_that said_job r) × (s.idle ≡ s₀.idle + slots_that said_idle r)
  unfolding slots_that view_of state_of tally
  counted start_called h = (omega arith, omega arith)
  counted (slot_called {s} r e) h = go (tick W s.now.0 pos) (λ w. counted r w)
    where
      W : ℕ
      W = window (tasks_of t)

      pos : 0 < W
      pos = ready_pos (table_ready t k₀ d₀ ok)

      o : OneSlot t s
      o = one_slot t s e

      go : Tick W s.now.0
          → (s.now.0 / W ≡ s₀.now.0 / W → (s.given ≡ s₀.given + slots_that said_job r) × (s.idle ≡ s₀.idle + slots_that said_idle r))
          → ((slot_call t s).state.given ≡ s₀.given + (slots_that said_job r + said_job (slot_call t s).who))
          × ((slot_call t s).state.idle ≡ s₀.idle + (slots_that said_idle r + said_idle (slot_call t s).who))
      go (starts z q m) before = absurd (omega (arith, rw o.now at h, div_mono W {a = s₀.now.0} {b = s.now.0} pos (omega (arith, counted_now r))))
      go (goes_on z q m) before =
          let c = before (omega (arith, rw o.now at h)) in
          let same = ne_eqb (suc s.now.0 % W) 0 z in
          (omega (arith, rw same at o.given, c.0), omega (arith, rw same at o.idle, c.1))
  counted (admission_called {s} r w latest k d y e) h =
      let q = admitted-state t s w latest k d y e in
      let n = ap (λ (x : State). x.now.0) q in
      let c = counted r (rw n at h) in
      (ap (λ (x : State). x.given) q ∙ c.0, ap (λ (x : State). x.idle) q ∙ c.1)

-- ---- THE TALLIES

module _ (t : Table) (sixteen : length t.tasks ≡ 16) (k₀ d₀ : List ℕ) (ok : (table_call t k₀ d₀).answer.number ≡ 0) where
  table_tallies : {s₀ s : State} → ReachedByCalls t s₀ → s₀.now.0 % window (tasks_of t) ≡ 0 → (r : FromCalls t s₀ s)
      → s.now.0 / window (tasks_of t) ≡ s₀.now.0 / window (tasks_of t) → SlotsTallied t (tasks_of t) r
  unfolding view_of
  table_tallies {s₀} {s} reached start r same =
      let ts = tasks_of t in
      let k = (reached_kept t sixteen k₀ d₀ ok s₀ reached).0 in
      let none_yet = k.kept.small.tallies in
      let c = counted t k₀ d₀ ok r same in
      let v = view_of t.count s in
      let sound = (along t sixteen k₀ d₀ ok k r).0.kept.sound in
      record {
        given = omega (arith, c.0);
        idle = omega (arith, c.1);
        all = counted_now t k₀ d₀ ok r;
        left = tallies ts (table_ready t k₀ d₀ ok).good (feasible t sixteen k₀ d₀ ok) v sound.held.fits sound.tallied;
      }

-- Of any lent run that the table check accepts: from a reached state at a window's start, as long as that window lasts.
pub tallies_counted : (ts : List Task) (k₀ d₀ : List ℕ) → (table_call (table_of ts) k₀ d₀).answer.number ≡ 0
    → {s₀ s : State} → ReachedByCalls (table_of ts) s₀ → s₀.now.0 % window ts ≡ 0 → (r : FromCalls (table_of ts) s₀ s)
    → s.now.0 / window ts ≡ s₀.now.0 / window ts → SlotsTallied (table_of ts) ts r
tallies_counted ts k₀ d₀ ok {s₀} {s} reached start r same =
    let e = the_tasks ts k₀ d₀ ok in
    let w = ap window e in
    subst (λ (x : List Task). SlotsTallied (table_of ts) x r) e
    (table_tallies (table_of ts) (sixteen_places ts) k₀ d₀ ok reached (rw w start) r (rw w same))
