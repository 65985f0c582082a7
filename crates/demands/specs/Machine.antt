-- Within the machine's bounds: a view that is sound, small and in bounds is never refused 7, and accepted slots and admissions keep it so.
-- Every state that passes 7 and 9, reached or not, has such a view.
use Rattle.std.specs.Prelude.{ℕ, zero, suc, ◌+◌, ◌-◌, ◌%◌, ◌≤◌, ◌<◌, ◌≡◌, refl, List, [], ◌∷◌, ◌++◌, None}
use Rattle.std.proofs.Common.{sym, ◌∙◌, arith, length-append}
use Rattle.std.proofs.Math.Path.{ap}
use Rattle.std.proofs.Math.Bool.{false}
use Rattle.std.proofs.Math.ListN.{length, take, drop, replicate}
use Rattle.std.proofs.Math.Seq.{drop-append_seam}
use borrow.Author.Tests.{le-ltb, ne_eqb}
use Rattle.paper.specs.declared.Task.{Task}
use Rattle.paper.specs.declared.Table.{Table}
use Rattle.paper.specs.declared.Request.{Request}
use Rattle.paper.specs.declared.State.{State}
use Rattle.paper.specs.Demand.{AllGood}
use Rattle.paper.specs.Window.{window}
use Rattle.paper.specs.Vectors.{F}
use Rattle.paper.specs.Idle.{promise_of}
use Rattle.paper.specs.View.{Job, View, power_on, view_of, no_request, no_job, request_of, requests_of, job_records, padded, state_of, tasks_of}
use Rattle.paper.specs.Rule.{Does, nothing, task, job, onward, serve, runs_in, doing, next}
use Rattle.paper.specs.Refusals.{H, passed, one_unclear, bad_left, bad_requests, bad_waiting, one_used, refusal_7, overfull_at, wrong_tallies}
use Rattle.paper.specs.Refusals.{wrong_promise_at}
use Rattle.paper.specs.Calls.{admitted}
use Rattle.paper.specs.Reached.{start, slot, admit}
use Rattle.demands.specs.Room.{Feasible, room_late}
use Rattle.demands.specs.SoundViews.{Sound, sound_start, sound_slot, sound_admit}
use Rattle.demands.specs.Shape.{Rising, Small, small_start, small_from, promises_rise}
use Rattle.demands.specs.Nine.{nine_sound}
use Rattle.theory.specs.Ready.{Ready}
use Rattle.theory.specs.Lasts.{length-works}
use Rattle.theory.specs.Padded.{padded_is, take-padded}
use Rattle.theory.specs.States.{AtMostC, KeptJobs, kept_left, Shape, many_tasks_lem, requests_length, records_length, view_back, enter-length}

-- ---- the bounds

-- each job has at most 30,000 left, and a promise up to H
abbrev pub InBounds : List Job → Type 0
InBounds [] = Unit {0}
InBounds (j ∷ js) = (j.left ≤ 30000) × (j.promise ≤ H) × InBounds js

-- of the view of a state, for a table of n tasks
pub record Machine (n : ℕ) (v : View) : Type 0 where
  pub many : length v.lefts ≡ n
  pub clock : v.now ≤ H
  pub few : length v.jobs ≤ 8
  pub jobs : InBounds v.jobs

-- all that accepted calls keep of a view
pub record Kept (ts : List Task) (v : View) : Type 0 where
  pub sound : Sound ts v
  pub small : Small ts v
  pub machine : Machine (length ts) v

-- ---- slots and admissions keep them

onward-bounds : (n p : ℕ) (js : List Job) → n ≤ 30000 → p ≤ H → InBounds js → InBounds (onward n p js)
unfolding onward
onward-bounds zero p js a b h = h
onward-bounds (suc n) p js a b h = (a, b, h)

serve-bounds : (k : Does) (js : List Job) → InBounds js → InBounds (serve k js)
unfolding serve
serve-bounds nothing js h = h
serve-bounds (task i) js h = h
serve-bounds job [] h = tt
serve-bounds job (j ∷ js) h = onward-bounds (j.left - 1) j.promise js (omega (arith, h.0)) h.1 h.2

onward-length : (n p : ℕ) (js : List Job) → length (onward n p js) ≤ suc (length js)
unfolding onward
onward-length zero p js = omega arith
onward-length (suc n) p js = omega arith

serve-length : (k : Does) (js : List Job) → length (serve k js) ≤ length js
unfolding serve
serve-length nothing js = omega arith
serve-length (task i) js = omega arith
serve-length job [] = omega arith
serve-length job (j ∷ js) = omega (arith, onward-length (j.left - 1) j.promise js)

more_bounds : (js : List Job) (j : Job) → InBounds js → j.left ≤ 30000 → j.promise ≤ H → InBounds (js ++ (j ∷ []))
more_bounds [] j h a b = (a, b, tt)
more_bounds (x ∷ js) j h a b = (h.0, h.1, more_bounds js j h.2 a b)

module _ (ts : List Task) (good : AllGood ts) (feasible : Feasible ts) where
  -- Power-on has it.
  pub kept_start : Kept ts (power_on ts)
  kept_start = record {
    sound = sound_start ts good feasible;
    small = small_start ts;
    machine = record { many = length-works ts; clock = omega arith; few = omega arith; jobs = tt };
  }

  -- A slot before the clock's end keeps it.
  pub kept_slot : (v : View) → Kept ts v → v.now < H → Kept ts (next ts v)
  unfolding next doing
  kept_slot v h below = record {
    sound = sound_slot ts good feasible v h.sound;
    small = small_from good h.small (slot start);
    machine = record {
      many = enter-length ts (suc v.now) _;
      clock = omega arith;
      few = omega (arith, serve-length (runs_in ts v) v.jobs, h.machine.few);
      jobs = serve-bounds (runs_in ts v) v.jobs h.machine.jobs;
    };
  }

  -- An admission that passes 10 to 13 keeps it.
  pub kept_admit : (v : View) (w : ℕ) → Kept ts v → 1 ≤ w → w ≤ 30000 → 1 ≤ F ts → length v.jobs < 8 → promise_of ts v w ≤ H
      → Kept ts (admitted ts v w)
  kept_admit v w h a b f few p = record {
    sound = sound_admit ts good feasible v w h.sound a f;
    small = small_from good h.small (admit start w a f);
    machine = record {
      many = h.machine.many;
      clock = h.machine.clock;
      few = rw (length-append v.jobs (record { left = w; promise = promise_of ts v w } ∷ [])) (omega arith);
      jobs = more_bounds v.jobs (record { left = w; promise = promise_of ts v w }) h.machine.jobs b p;
    };
  }

-- ---- such a view is not refused 7

good_left : (l c : ℕ) → l ≤ c → bad_left (request_of l).work c ≡ false
good_left zero c h = refl
good_left (suc l) c h = rw (ne_eqb (suc l) 0 (λ z. omega arith)) (le-ltb c (suc l) h)

good_requests : (ts : List Task) (ls : List ℕ) (rest : List Request) → length ls ≡ length ts → AtMostC ts ls → one_unclear rest ≡ false
    → bad_requests ts (requests_of ls ++ rest) ≡ false
unfolding bad_requests requests_of
good_requests [] [] rest e a q = q
good_requests [] (l ∷ ls) rest e a q = absurd (omega arith)
good_requests (t ∷ ts) [] rest e a q = absurd (omega arith)
good_requests (t ∷ ts) (l ∷ ls) rest e a q = rw (good_left l t.work a.0) (good_requests ts ls rest (omega arith) a.1 q)

all_clear : (m : ℕ) → one_unclear (replicate m no_request) ≡ false
unfolding one_unclear
all_clear zero = refl
all_clear (suc m) = all_clear m

all_unused : (m : ℕ) → one_used (replicate m no_job) ≡ false
unfolding one_used
all_unused zero = refl
all_unused (suc m) = all_unused m

good_waiting : (low after : ℕ) (js : List Job) → low ≤ suc after → Rising after js → InBounds js → bad_waiting low (job_records js) ≡ false
unfolding bad_waiting job_records
good_waiting low after [] h r b = refl
good_waiting low after (j ∷ js) h r b =
    rw (
      ne_eqb j.left 0 (λ z. omega (arith, r.1)),
      le-ltb 30000 j.left b.0,
      le-ltb j.promise low (omega (arith, r.0)),
      le-ltb H j.promise b.1,
    )
    (good_waiting (suc j.promise) j.promise js (omega arith) r.2 b.2)

module _ (ts : List Task) (good : AllGood ts) (few : length ts ≤ 16) (v : View) (h : Kept ts v) where
  -- Its promises rise, from now on.
  pub rises : Rising v.now v.jobs
  rises =
      promises_rise ts v.lefts v.now good 0 v.now v.jobs (λ t q. omega (arith, room_late ts v.lefts v.now t 0 q))
      h.sound.held.kept

  -- Its state is not refused 7.
  pub seven : refusal_7 ts (state_of v) ≡ passed
  unfolding refusal_7 state_of
  seven =
      let rs = requests_of v.lefts in
      let js = job_records v.jobs in
      let er : length rs ≡ length ts = requests_length v.lefts ∙ h.machine.many in
      let ej : length js ≡ length v.jobs = records_length v.jobs in
      let short : length js ≤ 8 = omega (arith, h.machine.few) in
      let a : bad_requests ts (padded 16 no_request rs) ≡ false =
      ap (bad_requests ts) (padded_is no_request 16 rs (omega arith))
      ∙ good_requests ts v.lefts (replicate (16 - length rs) no_request) h.machine.many h.small.lefts (all_clear (16 - length rs)) in
      let b : take (length v.jobs) (padded 8 no_job js) ≡ js =
      ap (λ (m : ℕ). take m (padded 8 no_job js)) (sym ej) ∙ take-padded no_job 8 js short in
      let c : drop (length v.jobs) (padded 8 no_job js) ≡ replicate (8 - length js) no_job =
      ap (λ (m : ℕ). drop m (padded 8 no_job js)) (sym ej)
      ∙ ap (drop (length js)) (padded_is no_job 8 js short)
      ∙ drop-append_seam js (replicate (8 - length js) no_job) in
      rw (
        le-ltb H v.now h.machine.clock,
        a,
        le-ltb 8 (length v.jobs) h.machine.few,
        b,
        good_waiting 0 v.now v.jobs (omega arith) rises h.machine.jobs,
        c,
        all_unused (8 - length js),
        le-ltb (v.now % window ts) (v.given + v.idle) h.small.tallies,
      )

-- ---- a state with such a view, and no more in it than the view shows

-- the state is that of its view, and the view has all that is kept
pub record KeptState (t : Table) (s : State) : Type 0 where
  pub whole : state_of (view_of t.count s) ≡ s
  pub kept : Kept (tasks_of t) (view_of t.count s)

module _ {t : Table} {W : ℕ} (ready : Ready t W) (sixteen : length t.tasks ≡ 16) where
  -- The table has as many tasks as it counts.
  pub many : length (tasks_of t) ≡ t.count
  many = many_tasks_lem ready sixteen

  -- They are at most sixteen.
  pub few : length (tasks_of t) ≤ 16
  few = omega (arith, many, ready.few)

  -- the state of such a view has that view
  pub view_kept : (v : View) → Kept (tasks_of t) v → view_of t.count (state_of v) ≡ v
  view_kept v h = view_back t.count v (h.machine.many ∙ many) ready.few h.machine.few

  -- So it is a kept state.
  pub state_kept : (v : View) → Kept (tasks_of t) v → KeptState t (state_of v)
  state_kept v h = let e = view_kept v h in record { whole = ap state_of e; kept = rw e h }

in_bounds : (low : ℕ) (js : List Job) → KeptJobs low js → InBounds js
in_bounds low [] k = tt
in_bounds low (j ∷ js) k = (k.0.most, k.0.in_clock, in_bounds (suc j.promise) js k.1)

-- EVERY STATE THAT PASSES 7 AND 9
pub passed-kept : {t : Table} {W : ℕ} {s : State} → Ready t W → Feasible (tasks_of t) → Shape t s
    → let v = view_of t.count s in overfull_at (tasks_of t) v ≡ None → wrong_tallies (tasks_of t) v ≡ false → wrong_promise_at (tasks_of t) v ≡ None
    → KeptState t s
unfolding view_of
passed-kept {t} {W} {s} r f h a b c =
    let v = view_of t.count s in
    record {
      whole = h.whole;
      kept = record {
        sound = (nine_sound (tasks_of t) r.good f v (kept_left 0 v.jobs h.jobs)).0 (a, b, c);
        small = record { lefts = h.lefts; tallies = h.tallies };
        machine = record {
          many = h.many_lefts ∙ sym (many_tasks_lem r h.arrays.tasks);
          clock = h.clock;
          few = omega (arith, h.many_jobs, h.few);
          jobs = in_bounds 0 v.jobs h.jobs;
        };
      };
    }
