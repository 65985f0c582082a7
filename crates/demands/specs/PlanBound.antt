-- A plan's end leaves room: by any time from its end to the end of that window, what is due has been given slots, and so has the need;
-- each slot has one owner.
use Rattle.std.specs.Prelude.{ℕ, zero, suc, ◌+◌, ◌*◌, ◌-◌, ◌/◌, ◌≤◌, ◌<◌, ◌≡◌, refl, List, [], ◌∷◌, length, get_or, Some, slice_get}
use Rattle.std.proofs.Common.{zero-le, inl, inr, arith, le_refl, le_trans, mul-zero, mul-suc, le-leb, eq-eqb, ne_eqb}
use Rattle.std.proofs.Math.Nat.{sub_self, lt-div-mul-add, dvd-mul_left}
use Rattle.std.proofs.lemmas.Bool.{lt-leb}
use Rattle.paper.specs.declared.Task.{Task}
use Rattle.paper.specs.Demand.{Good, AllGood, dues, present, deadline_at, present_due, later_due, due}
use Rattle.paper.specs.Window.{window, window_end}
use Rattle.paper.specs.Vectors.{sum}
use Rattle.paper.specs.View.{View}
use Rattle.paper.specs.Idle.{job_lefts, need}
use Rattle.paper.specs.Plan.{Plan, is_request, is_waiting, is_new, given, work_of, Valid}
use Rattle.theory.specs.Counting.{test, dues-counts}
use Rattle.theory.specs.Tables.{good_at, Divide, divide_trans}
use Rattle.theory.specs.WindowLaws.{window-divides, window-pos}
use Rattle.demands.specs.Room.{Feasible, Room, room_by_window}
use Rattle.demands.specs.OneOwner.{sum_to, sum_to_mono, sum_to_last, count-mono, counts_le, of_task, one_request, shares}

-- ---- what is due of one task

-- A request before the present one has no work.
pub work_of-before : (t : Task) (l now r : ℕ) → r < present t now → work_of t l now r ≡ 0
unfolding work_of
work_of-before t l now r h = rw (le-leb (suc r) (present t now) h)

-- The present one has what is left of it.
pub work_of-present : (t : Task) (l now : ℕ) → work_of t l now (present t now) ≡ l
unfolding work_of
work_of-present t l now =
    rw (lt-leb (suc (present t now)) (present t now) (le_refl (suc (present t now))), eq-eqb (present t now) (present t now) refl)

-- A later one has all of its work.
pub work_of-later : (t : Task) (l now r : ℕ) → present t now < r → work_of t l now r ≡ t.work
unfolding work_of
work_of-later t l now r h =
    rw (lt-leb (suc r) (present t now) (omega arith), ne_eqb r (present t now) (λ e. omega arith))

-- the first n requests together: the present one, if it is among them, and the later ones
first-works : (t : Task) (l now n : ℕ) → present t now < n → l + t.work * (n - suc (present t now)) ≤ sum_to (work_of t l now) n
first-works t l now zero h = omega arith
first-works t l now (suc n) h = rw sum_to_last (elim (test n (present t now)) [
  | inl y ↦ let e : n ≡ present t now = omega arith in rw e (simp (sub_self, mul-zero, work_of-present) (omega arith))
  | inr k ↦
      let e : suc n - suc (present t now) ≡ suc (n - suc (present t now)) = omega arith in
      rw (e, work_of-later t l now n k.1, mul-suc) (omega (arith, first-works t l now n k.1))
])

-- where each request that is due by u gets at least its work, together they get at least what is due of the task
due-of_task : (t : Task) → Good t → (l now u : ℕ) (f : ℕ → ℕ)
    → ((r : ℕ) → r * t.period + t.deadline ≤ u → work_of t l now r ≤ f r)
    → present_due t l now u + later_due t now u ≤ sum_to f (dues t u)
unfolding present_due later_due deadline_at
due-of_task t g l now u f h =
    let enough : sum_to (work_of t l now) (dues t u) ≤ sum_to f (dues t u) =
    sum_to_mono (work_of t l now) f (dues t u) (λ r i. h r ((dues-counts t g r u).0 i)) in
    elim (test (deadline_at t now) u) [
      | inl y ↦ rw y.0 (omega (arith, first-works t l now (dues t u) ((dues-counts t g (present t now) u).1 y.1)))
      | inr k ↦ elim (test (dues t u) (present t now)) [
        | inl y ↦ let e : dues t u - suc (present t now) ≡ 0 = omega arith in rw (k.0, e, mul-zero) zero-le
        | inr n ↦ absurd (omega (arith, (dues-counts t g (present t now) u).0 n.1))
      ]
    ]

-- ---- over the table, and over the waiting jobs

due-le : (ts : List Task) (ls : List ℕ) (now u : ℕ) (f : ℕ → ℕ)
    → ((j : ℕ) (t : Task) → slice_get ts j ≡ Some t → present_due t (get_or ls j 0) now u + later_due t now u ≤ f j)
    → due ts ls now u ≤ sum_to f (length ts)
unfolding due sum_to
due-le [] ls now u f h = zero-le
due-le (t ∷ ts) [] now u f h = omega (arith, h 0 t refl, due-le ts [] now u (λ j. f (suc j)) (λ j. h (suc j)))
due-le (t ∷ ts) (l ∷ ls) now u f h = omega (arith, h 0 t refl, due-le ts ls now u (λ j. f (suc j)) (λ j. h (suc j)))

sum-le : (js : List ℕ) (f : ℕ → ℕ) → ((i : ℕ) → get_or js i 0 ≤ f i) → sum js ≤ sum_to f (length js)
unfolding sum sum_to
sum-le [] f h = zero-le
sum-le (x ∷ js) f h = omega (arith, h 0, sum-le js (λ i. f (suc i)) (λ i. h (suc i)))

-- ---- the window's end

window_end-above : (W e : ℕ) → 1 ≤ W → e ≤ window_end W e
unfolding window_end
window_end-above W e h = omega (arith, lt-div-mul-add {a = e + (W - 1)} {b = W} h)

window_end-divides : (ts : List Task) (e : ℕ) → Divide ts (window_end (window ts) e)
unfolding window_end
window_end-divides ts e = divide_trans ts (window ts) _ (window-divides ts) (dvd-mul_left (window ts) ((e + (window ts - 1)) / window ts))

-- ---- the theorem

module _ (ts : List Task) (good : AllGood ts) (v : View) (w : ℕ) (p : Plan) (e : ℕ) (ok : Valid ts v w p e) where
  -- up to the window's end, all that is due of a task has been given to it
  given_task : (u j : ℕ) (t : Task) → u ≤ window_end (window ts) e → slice_get ts j ≡ Some t
      → present_due t (get_or v.lefts j 0) v.now u + later_due t v.now u ≤ given p (of_task j) v.now u
  given_task u j t b i =
      le_trans
      (due-of_task t (good_at ts j t good i) (get_or v.lefts j 0) v.now u (λ r. given p (is_request j r) v.now u)
      (λ r d. le_trans (ok.meets j r t i (le_trans d b)) (count-mono (λ s. is_request j r (p s)) v.now _ _ (omega arith))))
      (counts_le (λ r s. is_request j r (p s)) (λ s. of_task j (p s)) (dues t u) (λ s. one_request j (dues t u) (p s)) v.now (u - v.now))

  room_inside : (u : ℕ) → e ≤ u → u ≤ window_end (window ts) e → v.now + need v w + due ts v.lefts v.now u ≤ u
  room_inside u a b =
      let more : e - v.now ≤ u - v.now = omega arith in
      omega (
        arith,
        ok.ahead,
        ok.new_done,
        count-mono (λ s. is_new (p s)) v.now (e - v.now) (u - v.now) more,
        due-le ts v.lefts v.now u (λ j. given p (of_task j) v.now u) (λ j t. given_task u j t b),
        sum-le (job_lefts v.jobs) (λ i. given p (is_waiting i) v.now u)
            (λ i. le_trans (ok.waiting_done i) (count-mono (λ s. is_waiting i (p s)) v.now _ _ more)),
        shares p (length ts) (length (job_lefts v.jobs)) v.now (u - v.now),
      )

  -- THE BOUND
  pub plan_room : Feasible ts → Room ts v.lefts v.now e (need v w)
  plan_room f =
      let B = window_end (window ts) e in
      let above : e ≤ B = window_end-above (window ts) e (window-pos ts good) in
      room_by_window ts v.lefts v.now e (need v w) B good f (window_end-divides ts e) (omega (arith, ok.ahead)) above room_inside
