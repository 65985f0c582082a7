-- Power-on is the state all zero with the releases at slot 0 in it.
use mathlib.Core.Path.{◌≡◌, refl, sym, ap, ◌∙◌}
use mathlib.Core.List.{List, [], ◌∷◌, ◌++◌}
use Prim.Native.Nat.{ℕ, zero, suc, ◌-◌, ◌≤◌, ◌<◌}
use native.Mathlib.Omega.{arith}
use native.Mathlib.Nat.{zero-mod}
use lib.ListN.{length, take, drop, replicate, get_or}
use Rattle.paper.specs.declared.Request.{Request}
use Rattle.paper.specs.declared.Job.{Job as JobRecord}
use Rattle.paper.specs.declared.Task.{Task}
use Rattle.paper.specs.declared.Table.{Table}
use Rattle.paper.specs.declared.State.{State}
use Rattle.paper.specs.declared.Refusal.{Refusal}
use Rattle.paper.specs.Demand.{works}
use Rattle.paper.specs.View.{request_lefts, requests_of, no_request, no_job, job_records, padded, power_on, state_of, tasks_of}
use Rattle.paper.specs.Rule.{enter}
use Rattle.paper.specs.Refusals.{passed}
use Rattle.paper.specs.Refused.{verdict_of}
use Rattle.paper.specs.Calls.{all_zero, power_on_verdict, power_on_call}
use Rattle.theory.specs.Said.{said_refuses}
use Rattle.theory.specs.Padded.{padded_is}
use Rattle.theory.specs.States.{requests_length}

-- at slot 0 every task is released
enter-start : (ts : List Task) (ls : List ℕ) → enter ts 0 ls ≡ works ts
unfolding enter works
enter-start [] ls = refl
enter-start (t ∷ ts) [] = rw (zero-mod t.period) (ap (λ (l : List ℕ). t.work ∷ l) (enter-start ts []))
enter-start (t ∷ ts) (l ∷ ls) = rw (zero-mod t.period) (ap (λ (r : List ℕ). t.work ∷ r) (enter-start ts ls))

works-length : (ts : List Task) → length (works ts) ≡ length ts
unfolding works
works-length [] = refl
works-length (t ∷ ts) = ap suc (works-length ts)

module _ {A : Type 0} (a : A) where
  drop-replicate : (m n : ℕ) → drop m (replicate n a) ≡ replicate (n - m) a
  drop-replicate zero n = let e : n ≡ n - 0 = omega arith in ap (λ (k : ℕ). replicate k a) e
  drop-replicate (suc m) zero = let e : 0 ≡ 0 - suc m = omega arith in ap (λ (k : ℕ). replicate k a) e
  drop-replicate (suc m) (suc n) =
      let e : n - m ≡ suc n - suc m = omega arith in
      drop-replicate m n ∙ ap (λ (k : ℕ). replicate k a) e

-- the sixteen places, of which the first n get the works
pub released : (ts : List Task) (n : ℕ) → length ts ≡ n → n ≤ 16
    → requests_of (enter ts 0 (request_lefts (take n (replicate 16 no_request)))) ++ drop n (replicate 16 no_request)
    ≡ padded 16 no_request (requests_of (works ts))
released ts n e h =
    let rs = requests_of (works ts) in
    let l : length rs ≡ n = requests_length (works ts) ∙ works-length ts ∙ e in
    rw (enter-start ts (request_lefts (take n (replicate 16 no_request))), drop-replicate no_request n 16)
    (sym (padded_is no_request 16 rs (omega arith) ∙ ap (λ (k : ℕ). rs ++ replicate (16 - k) no_request) l))

-- a list of one element alone
pub all_same : {A : Type 0} (a : A) (xs : List A) (n : ℕ) → length xs ≡ n → ((i : ℕ) → i < n → get_or xs i a ≡ a) → xs ≡ replicate n a
all_same a [] zero e h = refl
all_same a [] (suc n) e h = absurd (omega arith)
all_same a (x ∷ xs) zero e h = absurd (omega arith)
all_same {A} a (x ∷ xs) (suc n) e h =
    rw (h 0 (omega arith)) (ap (λ (l : List A). a ∷ l) (all_same a xs n (omega arith) (λ i k. h (suc i) (omega arith))))

pub clear_job : (l p : ℕ) → l ≡ 0 → p ≡ 0 → record { left = l; promise = record { 0 = p } } ≡ no_job
clear_job l p e f = rw (e, f)

-- the state of which every place is clear
pub zero_is : (k : ℕ) (rs : List Request) (js : List JobRecord) (w a i : ℕ)
    → k ≡ 0 → rs ≡ replicate 16 no_request → js ≡ replicate 8 no_job → w ≡ 0 → a ≡ 0 → i ≡ 0
    → record { now = record { 0 = k }; requests = rs; jobs = js; waiting = w; given = a; idle = i } ≡ all_zero
unfolding state_of requests_of job_records
zero_is k rs js w a i e f g h j l = rw (e, f, g, h, j, l)

pub zero_requests : all_zero.requests ≡ replicate 16 no_request
unfolding state_of requests_of
zero_requests = refl

-- the state all zero, with these requests
pub fresh_is : (ts : List Task) (n : ℕ) (s : State) → s ≡ all_zero → length ts ≡ n → n ≤ 16
    → record {
      now = s.now;
      requests = requests_of (enter ts 0 (request_lefts (take n s.requests))) ++ drop n s.requests;
      jobs = s.jobs;
      waiting = s.waiting;
      given = s.given;
      idle = s.idle;
    }
    ≡ state_of (power_on ts)
unfolding state_of requests_of
fresh_is ts n s q e h = rw (q, ← released ts n e h)

module _ (t : Table) where
  pub power_refused : (r : Refusal) → power_on_verdict t ≡ verdict_of r
      → record { number = (verdict_of r).number; place = (verdict_of r).place; state = all_zero } ≡ power_on_call t
  unfolding power_on_call
  power_refused r q = rw (q, said_refuses {v = verdict_of r} (state_of (power_on (tasks_of t))) all_zero r refl)

  pub power_accepted : power_on_verdict t ≡ passed → record { number = 0; place = 0; state = state_of (power_on (tasks_of t)) } ≡ power_on_call t
  unfolding power_on_call
  power_accepted q = rw q
