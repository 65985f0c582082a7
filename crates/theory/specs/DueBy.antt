-- The units that are due by a time, of requests and of jobs. Work is late exactly if a unit is due, and a slot does one of those that
-- are due first: so a slot is refused 8 exactly if a unit is due by now, or more than one by the next now.
use Rattle.std.specs.Prelude.{ℕ, zero, suc, ◌+◌, ◌-◌, ◌≤◌, ◌<◌, ◌≡◌, refl, Bool, true, false, cond, ◌&&◌, ◌||◌, leb, ltb, get_or, set}
use Rattle.std.proofs.Common.{sym, inl, inr, le-leb}
use Rattle.std.proofs.Math.Bool.{and-true, and-false, or-false}
use mathlib.Core.List.{List, [], ◌∷◌}
use native.Mathlib.Omega.{arith}
use Rattle.std.proofs.Math.Decide.{dec_le}
use Rattle.std.proofs.Math.Nat.{lt_of_not-le}
use Rattle.std.proofs.lemmas.Bool.{lt-leb}
use Rattle.paper.specs.declared.Task.{Task}
use Rattle.paper.specs.Demand.{pick, deadline_at, present_due, later_due, due}
use Rattle.paper.specs.View.{Job, View}
use Rattle.paper.specs.Rule.{Does, nothing, task, job, First, none_left, first-is, better, first, after, onward, serve}
use Rattle.paper.specs.Refusals.{late_request, late_job, overdue, overdue_next}
use Rattle.theory.specs.Counting.{test, due_in, due-out, due-done}
use Rattle.theory.specs.RuleLaws.{Urgent, After, Earliest, idles, runs-task, runs-job, runs-earliest, spend_in, spend_out}
use Rattle.theory.specs.States.{KeptJobs, SomeLeft, kept_left}

-- the work left of the present requests whose deadline is at or before u
unfoldable pub due_by : List Task → List ℕ → ℕ → ℕ → ℕ
due_by [] ls now u = 0
due_by (t ∷ ts) [] now u = 0
due_by (t ∷ ts) (l ∷ ls) now u = present_due t l now u + due_by ts ls now u

-- the work left of the jobs whose promise is at or before u
unfoldable pub promised_by : List Job → ℕ → ℕ
promised_by [] u = 0
promised_by (j ∷ js) u = pick (leb j.promise u) j.left 0 + promised_by js u

-- ---- work is late exactly if a unit is due

or_some : (a b : ℕ) → ltb 0 a || ltb 0 b ≡ ltb 0 (a + b)
or_some zero b = let e : 0 + b ≡ b = omega arith in rw e
or_some (suc a) b = rw (le-leb 1 (suc a) (omega arith), le-leb 1 (suc a + b) (omega arith))

late_due : (ts : List Task) (ls : List ℕ) (now u : ℕ) → late_request ts ls now u ≡ ltb 0 (due_by ts ls now u)
unfolding late_request due_by
late_due [] ls now u = refl
late_due (t ∷ ts) [] now u = refl
late_due (t ∷ ts) (l ∷ ls) now u = elim (test (deadline_at t now) u) [
  | inl y ↦ rw (y.0, and-true, late_due ts ls now u, due_in t l now u y.1) (or_some l (due_by ts ls now u))
  | inr n ↦ rw (n.0, and-false, late_due ts ls now u, due-out t l now u n.1) (or_some 0 (due_by ts ls now u))
]

late_promised : (js : List Job) (u : ℕ) → SomeLeft js → late_job js u ≡ ltb 0 (promised_by js u)
unfolding late_job promised_by
late_promised [] u h = refl
late_promised (j ∷ js) u h = elim (test j.promise u) [
  | inl y ↦ rw (y.0, le-leb 1 (j.left + promised_by js u) (omega (arith, h.0)))
  | inr n ↦ rw (n.0, late_promised js u h.1) (or_some 0 (promised_by js u))
]

-- ---- before the earliest deadline, or promise, no unit is due

due_by-nil : (ts : List Task) (now u : ℕ) → due_by ts [] now u ≡ 0
unfolding due_by
due_by-nil [] now u = refl
due_by-nil (t ∷ ts) now u = refl

-- of all tasks, the work of requests after the present ones that is due by u
unfoldable pub later_dues : List Task → ℕ → ℕ → ℕ
later_dues [] now u = 0
later_dues (t ∷ ts) now u = later_due t now u + later_dues ts now u

none_present : (t : Task) (l now d u : ℕ) → (1 ≤ l → d ≤ deadline_at t now) → u < d → present_due t l now u ≡ 0
none_present t zero now d u a h = due-done t now u
none_present t (suc l) now d u a h = due-out t (suc l) now u (omega (arith, a (omega arith)))

-- Before the earliest deadline of an unfinished request only later requests are due.
pub quiet : (ts : List Task) (ls : List ℕ) (now d u : ℕ) → Urgent ts ls now d → u < d → due ts ls now u ≡ later_dues ts now u
unfolding due later_dues
quiet [] ls now d u a h = refl
quiet (t ∷ ts) [] now d u a h = omega (arith, quiet ts [] now d u (λ j. a (suc j)) h)
quiet (t ∷ ts) (l ∷ ls) now d u a h = omega (arith, none_present t l now d u (a 0 t refl) h, quiet ts ls now d u (λ j. a (suc j)) h)

due-parts : (ts : List Task) (ls : List ℕ) (now u : ℕ) → due ts ls now u ≡ due_by ts ls now u + later_dues ts now u
unfolding due due_by later_dues
due-parts [] ls now u = refl
due-parts (t ∷ ts) [] now u = omega (arith, due-parts ts [] now u, due_by-nil ts now u)
due-parts (t ∷ ts) (l ∷ ls) now u = omega (arith, due-parts ts ls now u)

none_due : (ts : List Task) (ls : List ℕ) (now d u : ℕ) → Urgent ts ls now d → u < d → due_by ts ls now u ≡ 0
none_due ts ls now d u a h = omega (arith, due-parts ts ls now u, quiet ts ls now d u a h)

none_promised : (low : ℕ) (js : List Job) (u : ℕ) → KeptJobs low js → u < low → promised_by js u ≡ 0
unfolding promised_by
none_promised low [] u k h = refl
none_promised low (j ∷ js) u k h =
    let p = k.0.rises in
    rw (lt-leb j.promise u (omega arith)) (omega (arith, none_promised (suc j.promise) js u k.1 (omega arith)))

-- ---- a slot does one of the units that are due, if any is

onward-left : (n p : ℕ) (js : List Job) → SomeLeft js → SomeLeft (onward n p js)
unfolding onward
onward-left zero p js h = h
onward-left (suc n) p js h = (omega arith, h)

serve-left : (k : Does) (js : List Job) → SomeLeft js → SomeLeft (serve k js)
unfolding serve
serve-left nothing js h = h
serve-left (task i) js h = h
serve-left job [] h = tt
serve-left job (j ∷ js) h = onward-left (j.left - 1) j.promise js h.1

onward-in : (n p u : ℕ) (js : List Job) → p ≤ u → promised_by (onward n p js) u ≡ n + promised_by js u
unfolding onward promised_by
onward-in zero p u js h = omega arith
onward-in (suc n) p u js h = rw (le-leb p u h)

onward-out : (n p u : ℕ) (js : List Job) → u < p → promised_by (onward n p js) u ≡ promised_by js u
unfolding onward promised_by
onward-out zero p u js h = refl
onward-out (suc n) p u js h = rw (lt-leb p u h) (omega arith)

after_none : (d u : ℕ) (js : List Job) → KeptJobs 0 js → After d js → u < d → promised_by js u ≡ 0
unfolding promised_by
after_none d u [] k a h = refl
after_none d u (j ∷ js) k a h =
    rw (lt-leb j.promise u (omega arith)) (omega (arith, none_promised (suc j.promise) js u k.1 (omega arith)))

module _ (ts : List Task) (ls : List ℕ) (now u : ℕ) where
  one_done : (js : List Job) {k : Does} → KeptJobs 0 js → Earliest ts ls now js k
      → due_by ts (after k ls) now u + promised_by (serve k js) u ≡ due_by ts ls now u + promised_by js u - 1
  unfolding after serve promised_by
  one_done [] h (idles c) =
      omega (arith, none_due ts ls now (suc u) u (λ j t e w. absurd (omega (arith, c j t e))) (omega arith))
  one_done js h (runs-task j t e w a d) = elim (dec_le (deadline_at t now) u) [
    | yes y ↦
        omega (arith, spend_in ts ls j now u t e w y, due-parts ts ls now u, due-parts ts (set ls j (get_or ls j 0 - 1)) now u)
    | no n ↦
        let o = lt_of_not-le n in
        omega (
          arith,
          spend_out ts ls j now u t e o,
          due-parts ts ls now u,
          due-parts ts (set ls j (get_or ls j 0 - 1)) now u,
          none_due ts ls now (deadline_at t now) u a o,
          after_none (deadline_at t now) u js h d o,
        )
  ]
  one_done (x ∷ js) h (runs-job a) = elim (dec_le x.promise u) [
    | yes y ↦ rw (le-leb x.promise u y) (omega (arith, onward-in (x.left - 1) x.promise u js y, h.0.some_left))
    | no n ↦
        let o = lt_of_not-le n in
        rw (lt-leb x.promise u o)
        (omega (
          arith,
          onward-out (x.left - 1) x.promise u js o,
          none_due ts ls now x.promise u a o,
          none_promised (suc x.promise) js u h.1 (omega arith),
        ))
  ]

  -- so work is late at the next now exactly if more than one unit is due by then
  more_than_one : (n : ℕ) → ltb 0 (n - 1) ≡ ltb 1 n
  more_than_one n = elim (test 2 n) [
    | inl y ↦ rw y.0 (le-leb 1 (n - 1) (omega arith))
    | inr o ↦ rw o.0 (lt-leb 1 (n - 1) (omega arith))
  ]

  late_after : (js : List Job) {k : Does} → KeptJobs 0 js → Earliest ts ls now js k
      → late_request ts (after k ls) now u || late_job (serve k js) u ≡ ltb 1 (due_by ts ls now u + promised_by js u)
  late_after js {k} h e =
      rw (
        late_due ts (after k ls) now u,
        late_promised (serve k js) u (serve-left k js (kept_left 0 js h)),
        or_some (due_by ts (after k ls) now u) (promised_by (serve k js) u),
        one_done js h e,
      )
      (more_than_one (due_by ts ls now u + promised_by js u))

-- ---- what a slot asks: the first deadline, the oldest job, and the units due by the next now

-- the request that is first has its deadline at or before u
abbrev pub late_first : First → ℕ → Bool
late_first none_left u = false
late_first (first-is j d) u = leb d u

sooner_late : (d e u : ℕ) (i j : ℕ) → leb d u || leb e u ≡ late_first (cond (leb d e) (first-is i d) (first-is j e)) u
sooner_late d e u i j = elim (test d e) [
  | inl y ↦ rw y.0 (elim (test d u) [
    | inl z ↦ rw z.0
    | inr n ↦ rw n.0 (lt-leb e u (omega arith))
  ])
  | inr n ↦ rw n.0 (elim (test d u) [
    | inl z ↦ rw z.0 (sym (le-leb e u (omega arith)))
    | inr o ↦ rw o.0
  ])
]

better_late : (b : Bool) (d u : ℕ) (p : First) → (b && leb d u) || late_first p u ≡ late_first (better b d p) u
better_late false d u none_left = refl
better_late false d u (first-is j e) = refl
better_late true d u none_left = or-false (leb d u)
better_late true d u (first-is j e) = sooner_late d e u 0 (suc j)

first-late : (ts : List Task) (ls : List ℕ) (now u : ℕ) → late_request ts ls now u ≡ late_first (first ts ls now) u
unfolding late_request first
first-late [] ls now u = refl
first-late (t ∷ ts) [] now u = refl
first-late (t ∷ ts) (l ∷ ls) now u =
    rw (first-late ts ls now u) (better_late (leb 1 l) (deadline_at t now) u (first ts ls now))

-- the oldest job's units
abbrev pub oldest_by : List Job → ℕ → ℕ
oldest_by [] u = 0
oldest_by (j ∷ js) u = pick (leb j.promise u) j.left 0

-- promises rise, so the oldest job is late if one is, and else it alone can be due by the next now
by_oldest : (a : Bool) (n now : ℕ) (js : List Job) → KeptJobs 0 js
    → (a || late_job js now) || ltb 1 (n + promised_by js (suc now)) ≡ a || (ltb 0 (oldest_by js now) || ltb 1 (n + oldest_by js (suc now)))
unfolding late_job promised_by
by_oldest true n now js k = refl
by_oldest false n now [] k = refl
by_oldest false n now (j ∷ js) k = elim (test j.promise now) [
  | inl y ↦ rw (y.0, le-leb 1 j.left k.0.some_left)
  | inr o ↦
      let p = none_promised (suc j.promise) js (suc now) k.1 (omega arith) in
      let q = none_promised (suc j.promise) js now k.1 (omega arith) in
      let m = pick (leb j.promise (suc now)) j.left 0 in
      let e : m + 0 ≡ m = omega arith in
      rw (o.0, late_promised js now (kept_left (suc j.promise) js k.1), q, p, e)
]

-- REFUSAL 8 OF A SLOT
pub late_slot : (ts : List Task) (v : View) → KeptJobs 0 v.jobs
    → overdue ts v || overdue_next ts v
    ≡ late_first (first ts v.lefts v.now) v.now
    || (ltb 0 (oldest_by v.jobs v.now) || ltb 1 (due_by ts v.lefts v.now (suc v.now) + oldest_by v.jobs (suc v.now)))
unfolding overdue overdue_next
late_slot ts v h =
    let now = v.now in
    rw (
      late_after ts v.lefts now (suc now) v.jobs h (runs-earliest ts v.lefts now v.jobs),
      first-late ts v.lefts now now,
    )
    (by_oldest (late_first (first ts v.lefts now) now) (due_by ts v.lefts now (suc now)) now v.jobs h)
