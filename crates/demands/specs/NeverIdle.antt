-- "(1,1,2), (1,2,2): accepted, F 0, any good work refused 12": of every accepted table with F 0, every state that calls reach, every good
-- work, every latest finish and all vectors that are long enough.
use Prim.Native.Nat.{ℕ, ◌≤◌, ◌<◌}
use Rattle.std.specs.Prelude.{◌≡◌, refl, List, [], ◌∷◌, ◌++◌}
use Rattle.std.proofs.Common.{sym, subst, ◌∙◌, arith}
use Rattle.std.proofs.Math.Path.{ap}
use Rattle.std.proofs.Math.Bool.{true}
use Rattle.std.proofs.Math.ListN.{length}
use borrow.Author.Tests.{eq-eqb, ne_eqb, le-ltb, lt-leb}
use Rattle.paper.specs.declared.Task.{Task}
use Rattle.paper.specs.declared.Table.{Table}
use Rattle.paper.specs.declared.State.{State}
use Rattle.paper.specs.declared.Latest.{Latest}
use Rattle.paper.specs.declared.Verdict.{Verdict}
use Rattle.paper.specs.Places.{K}
use Rattle.paper.specs.Vectors.{F}
use Rattle.paper.specs.Idle.{promise_of}
use Rattle.paper.specs.View.{View, view_of, tasks_of, table_of}
use Rattle.paper.specs.Rule.{Does, nothing, task, job, serve, runs_in, doing, next}
use Rattle.paper.specs.Refusals.{when, one_shorter, refusal_5, refusal_9_work, refusal_9_tallies, refusal_9_promise, refusal_10, refusal_11}
use Rattle.paper.specs.Refusals.{refusal_12, refusal_13, refusal_14}
use Rattle.paper.specs.Calls.{first_given, one_to_eight, power_on_call, table_call, admission_verdict, admission_call}
use Rattle.paper.specs.Reached.{From, start, slot, admit, start_called, ReachedByCalls}
use Rattle.paper.specs.Asked.{lent, holds}
use Rattle.paper.specs.Stars.{tight}
use Rattle.theory.specs.Verdicts.{AllPassed, all_none, passed-front, passed_first, given_first}
use Rattle.demands.specs.Called.{NeverRefused, the_tasks, reached_view, never_refused_called}
use Rattle.demands.specs.Accepted.{table_passed}

-- ---- where F is 0, no job ever waits

serve-none : (k : Does) → serve k [] ≡ []
unfolding serve
serve-none nothing = refl
serve-none (task j) = refl
serve-none job = refl

-- Along slots and admissions no job comes in, for no work is admitted.
pub none_waits : {ts : List Task} {v₀ v : View} → F ts ≡ 0 → v₀.jobs ≡ [] → From ts v₀ v → v.jobs ≡ []
unfolding next doing
none_waits z e start = e
none_waits {ts} z e (slot {v} r) = ap (serve (runs_in ts v)) (none_waits z e r) ∙ serve-none (runs_in ts v)
none_waits z e (admit r w a f) = absurd (omega arith)

-- In a state that calls reach, no job waits.
pub no_jobs : (ts : List Task) (k₀ d₀ : List ℕ) → (table_call (table_of ts) k₀ d₀).answer.number ≡ 0 → F ts ≡ 0
    → (s : State) → ReachedByCalls (table_of ts) s → (view_of (table_of ts).count s).jobs ≡ []
unfolding table_of
no_jobs ts k₀ d₀ ok z s reached = none_waits z refl (reached_view ts k₀ d₀ ok s reached)

-- ---- an accepted table, a state that is not refused 7 to 9, and vectors that are long enough

module _ (t : Table) (k₀ d₀ : List ℕ) (ok : (table_call t k₀ d₀).answer.number ≡ 0) (s : State) (fit : NeverRefused t (tasks_of t) s)
    (k d y : List ℕ) (long_k : length (K (tasks_of t)) ≤ length k) (long-d : length (K (tasks_of t)) ≤ length d) (long_y : length (K (tasks_of t)) ≤ length y) where
  five : (refusal_5 (tasks_of t) (k ∷ d ∷ y ∷ [])).number ≡ 0
  unfolding refusal_5 one_shorter
  five =
      let n = length (K (tasks_of t)) in
      rw (le-ltb (length k) n long_k, le-ltb (length d) n long-d, le-ltb (length y) n long_y)

  module _ (w : ℕ) (latest : Latest) where
    -- Of an admission's refusals only 10 to 14 are left to ask.
    pub ten_to_fourteen : let v = view_of t.count s in let p = promise_of (tasks_of t) v w in
        admission_verdict t s w latest k d y
        ≡ first_given (refusal_10 w ∷ refusal_11 v ∷ refusal_12 (tasks_of t) ∷ refusal_13 p ∷ refusal_14 p latest ∷ [])
    unfolding admission_verdict
    ten_to_fourteen =
        let ts = tasks_of t in
        let v = view_of t.count s in
        let p = promise_of ts v w in
        let a = table_passed t k₀ d₀ ok in
        let six = a.1.1.1 in
        let front = one_to_eight t s (k ∷ d ∷ y ∷ []) ++ (refusal_9_work ts v ∷ refusal_9_tallies ts v ∷ refusal_9_promise ts v ∷ []) in
        let number : Verdict → ℕ = λ (r : Verdict). r.number in
        let nine : AllPassed (refusal_9_work ts v ∷ refusal_9_tallies ts v ∷ refusal_9_promise ts v ∷ []) =
        (ap number fit.nine_work, (ap number fit.nine_tallies, (ap number fit.nine_promise, tt))) in
        passed-front front (refusal_10 w ∷ refusal_11 v ∷ refusal_12 ts ∷ refusal_13 p ∷ refusal_14 p latest ∷ []) (ap number (all_none front
        (a.0, (a.1.0, (a.1.1.0, (six.0, (five, (six.1.1.0, (ap number fit.seven, (ap number fit.eight, nine))))))))))

    -- Where F is 0 and fewer than eight jobs wait, good work is refused 12.
    pub refused_12 : F (tasks_of t) ≡ 0 → length (view_of t.count s).jobs < 8 → 1 ≤ w → w ≤ 30000
        → admission_verdict t s w latest k d y ≡ when true 12
    unfolding refusal_10 refusal_11 refusal_12
    refused_12 z few some_work most =
        let ts = tasks_of t in
        let v = view_of t.count s in
        let p = promise_of ts v w in
        let ten : (refusal_10 w).number ≡ 0 = rw (ne_eqb w 0 (λ e. omega arith), le-ltb 30000 w most) in
        let eleven : (refusal_11 v).number ≡ 0 = rw (lt-leb 8 (length v.jobs) few) in
        let twelve : refusal_12 ts ≡ when true 12 = rw (eq-eqb (F ts) 0 z) in
        ten_to_fourteen
        ∙ passed_first (refusal_10 w) (refusal_11 v ∷ refusal_12 ts ∷ refusal_13 p ∷ refusal_14 p latest ∷ []) ten
        ∙ passed_first (refusal_11 v) (refusal_12 ts ∷ refusal_13 p ∷ refusal_14 p latest ∷ []) eleven
        ∙ given_first (refusal_12 ts) (refusal_13 p ∷ refusal_14 p latest ∷ []) (omega (arith, ap (λ (r : Verdict). r.number) twelve))
        ∙ twelve

-- ---- THE THEOREM

-- Any good work is refused 12: an accepted table with F 0, any state that calls reach, any latest finish, any vectors as long as K.
pub never_idle : (ts : List Task) (k₀ d₀ : List ℕ) → (table_call (table_of ts) k₀ d₀).answer.number ≡ 0 → F ts ≡ 0
    → (s : State) → ReachedByCalls (table_of ts) s
    → (w : ℕ) → 1 ≤ w → w ≤ 30000 → (latest : Latest)
    → (k d y : List ℕ) → length (K ts) ≤ length k → length (K ts) ≤ length d → length (K ts) ≤ length y
    → (admission_call (table_of ts) s w latest k d y).answer.number ≡ 12
unfolding admission_call
never_idle ts k₀ d₀ ok z s reached w some_work most latest k d y long_k long-d long_y =
    let t = table_of ts in
    let e = the_tasks ts k₀ d₀ ok in
    let fit = subst (λ (x : List Task). NeverRefused t x s) (sym e) (never_refused_called ts k₀ d₀ ok s reached) in
    let n = ap (λ (x : List Task). length (K x)) e in
    let none_yet : (view_of t.count s).jobs ≡ [] = no_jobs ts k₀ d₀ ok z s reached in
    ap (λ (r : Verdict). r.number)
    (refused_12 t k₀ d₀ ok s fit k d y (omega arith) (omega arith) (omega arith) w latest (ap F e ∙ z) (rw none_yet (omega arith)) some_work most)

-- ---- the star's table

accepted_tight : (table_call (table_of tight) lent lent).answer.number ≡ 0
unfolding holds
accepted_tight = refl

no_idle_tight : F tight ≡ 0
unfolding holds
no_idle_tight = refl

places_tight : length (K tight) ≡ 3
unfolding holds
places_tight = refl

-- (1,1,2), (1,2,2): in any state that calls reach, any good work is refused 12.
pub tight_refused : (s : State) → ReachedByCalls (table_of tight) s → (w : ℕ) → 1 ≤ w → w ≤ 30000 → (latest : Latest)
    → (k d y : List ℕ) → 3 ≤ length k → 3 ≤ length d → 3 ≤ length y → (admission_call (table_of tight) s w latest k d y).answer.number ≡ 12
tight_refused s reached w some_work most latest k d y a b c =
    never_idle tight lent lent accepted_tight no_idle_tight s reached w some_work most latest k d y
    (rw places_tight a) (rw places_tight b) (rw places_tight c)

-- The star: at power-on.
pub tight_star : (w : ℕ) → 1 ≤ w → w ≤ 30000 → (latest : Latest) (k d y : List ℕ) → 3 ≤ length k → 3 ≤ length d → 3 ≤ length y
    → (admission_call (table_of tight) (power_on_call (table_of tight)).state w latest k d y).answer.number ≡ 12
tight_star w = tight_refused (power_on_call (table_of tight)).state start_called w
