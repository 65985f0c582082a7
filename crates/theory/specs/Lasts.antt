-- A walk over the window's deadlines from the last one down: each task's last deadline that is not passed yet.
-- At the time u that is its last one up to u, and 0 where it has none. The next place down is the highest of them.
use Prim.Native.Nat.{ℕ, zero, suc, ◌+◌, ◌*◌, ◌-◌, ◌%◌, ◌≤◌, ◌<◌, max}
use Rattle.std.specs.Prelude.{◌≡◌, ◌≢◌, Bool, true, false, eqb, length, get_or, drop, replicate}
use Rattle.std.proofs.Math.Path.{refl, ap}
use Rattle.std.proofs.Common.{ap₂, eq-eqb, ne_eqb}
use mathlib.Core.List.{List, [], ◌∷◌, ◌++◌}
use Rattle.std.proofs.Math.Nat.{div-mul-le_self, div-add-mod', mul-mod_left}
use native.Mathlib.Omega.{arith}
use Rattle.std.proofs.Math.Decide.{dec_le, dec_lt}
use Rattle.std.proofs.Math.Seq.{drop-cons}
use Rattle.paper.specs.declared.Task.{Task}
use Rattle.paper.specs.Demand.{pick, Good, AllGood, dues, table_due, works}
use Rattle.paper.specs.Places.{spare, is_deadline}
use Rattle.theory.specs.Counting.{spare-is, period_pos, dues-counts, div_mono}
use Rattle.theory.specs.Verdicts.{or_true_right}

-- ---- one task

-- its last deadline up to u, which is that of the last request due by then
unfoldable pub last_of : Task → ℕ → ℕ
last_of t u = dues t u * t.period - spare t

-- of a task of period p, once the deadline at k is passed, if this is it
abbrev pub lower : ℕ → ℕ → ℕ → ℕ
lower k p l = pick (eqb l k) (l - p) l

module _ (t : Task) (g : Good t) where
  -- It is at most u.
  pub last_le : (u : ℕ) → last_of t u ≤ u
  unfolding last_of dues spare
  last_le u = omega (arith, div-mul-le_self (u + (t.period - t.deadline)) t.period)

  last_loud : (u : ℕ) → 0 < last_of t u → (last_of t u + spare t) % t.period ≡ 0
  unfolding last_of
  last_loud u h =
      let e : dues t u * t.period - spare t + spare t ≡ dues t u * t.period = omega arith in
      rw e (mul-mod_left (dues t u) t.period)

  dues-rise : {a b : ℕ} → a ≤ b → dues t a ≤ dues t b
  unfolding dues
  dues-rise h = div_mono t.period (period_pos t g) (omega arith)

  -- the deadline of the last request due by u
  last_is : (u r : ℕ) → dues t u ≡ suc r → last_of t u ≡ r * t.period + t.deadline
  unfolding last_of
  last_is u r e = rw e (omega (arith, spare-is t g))

  at_least : (k u n : ℕ) → dues t u ≡ n → last_of t u ≤ k → n ≤ dues t k
  at_least k u zero e h = omega arith
  at_least k u (suc r) e h = (dues-counts t g r k).1 (omega (arith, last_is u r e))

  -- between it and u none falls due
  pub dues-still : (u k : ℕ) → last_of t u ≤ k → k ≤ u → dues t k ≡ dues t u
  dues-still u k a b = omega (arith, dues-rise b, at_least k u (dues t u) refl a)

  last_still : (u k : ℕ) → last_of t u ≤ k → k ≤ u → last_of t k ≡ last_of t u
  unfolding last_of
  last_still u k a b = rw (dues-still u k a b)

  -- and at it one does
  one_less : (u k n : ℕ) → dues t u ≡ n → last_of t u ≡ suc k → dues t u ≡ suc (dues t k)
  unfolding last_of
  one_less u k zero e h = absurd (omega (arith, rw e at h))
  one_less u k (suc r) e h =
      let d = last_is u r e in
      let a : dues t k ≤ r = elim (dec_lt r (dues t k)) [ yes l ↦ absurd (omega (arith, (dues-counts t g r k).0 l)) | no l ↦ omega arith ] in
      omega (arith, before k r (omega arith))
    where
      before : (k r : ℕ) → suc k ≡ r * t.period + t.deadline → r ≤ dues t k
      before k zero q = omega arith
      before k (suc q) e = (dues-counts t g q k).1 (omega (arith, period_pos t g))

  -- At the last deadline one more has come than before it.
  pub dues-less : (u k : ℕ) → last_of t u ≡ suc k → dues t u ≡ suc (dues t k)
  dues-less u k h = one_less u k (dues t u) refl h

  last_less : (u k : ℕ) → last_of t u ≡ suc k → last_of t k ≡ last_of t u - t.period
  unfolding last_of
  last_less u k h = omega (arith, ap (λ (n : ℕ). n * t.period) (dues-less u k h))

  -- a deadline up to u is not above the last
  last_quiet : (u j : ℕ) → last_of t u < j → j ≤ u → (j + spare t) % t.period ≢ 0
  last_quiet u j a b z =
      let e : last_of t j ≡ j = unfold last_of dues spare in omega (arith, div-add-mod' (j + (t.period - t.deadline)) t.period) in
      omega (arith, last_still u j (omega arith) b)

  -- one step down, to just before the highest of all
  module _ (u k : ℕ) (h : last_of t u ≤ suc k) (b : suc k ≤ u) where
    -- Below the time k + 1, the last deadline is a period lower if it was k + 1.
    pub last_below : last_of t k ≡ lower (suc k) t.period (last_of t u)
    last_below = elim (dec_lt k (last_of t u)) [
      | yes l ↦ (let e : last_of t u ≡ suc k = omega arith in rw (eq-eqb (last_of t u) (suc k) e) (last_less u k e))
      | no l ↦ rw (ne_eqb (last_of t u) (suc k) (λ z. omega arith)) (last_still u k (omega arith) (omega arith))
    ]

    -- There one deadline less has come if the last was k + 1.
    pub dues-below : dues t u ≡ pick (eqb (last_of t u) (suc k)) 1 0 + dues t k
    dues-below = elim (dec_lt k (last_of t u)) [
      | yes l ↦ (let e : last_of t u ≡ suc k = omega arith in rw (eq-eqb (last_of t u) (suc k) e) (omega (arith, dues-less u k e)))
      | no l ↦ rw (ne_eqb (last_of t u) (suc k) (λ z. omega arith)) (omega (arith, dues-still u k (omega arith) (omega arith)))
    ]

-- ---- the tasks of a table

-- the last deadline up to u of each task
unfoldable pub lasts : List Task → ℕ → List ℕ
lasts [] u = []
lasts (t ∷ ts) u = last_of t u ∷ lasts ts u

-- the highest of them, 0 where there is none
unfoldable pub highest : List ℕ → ℕ
highest [] = 0
highest (l ∷ ls) = max l (highest ls)

-- the period of each task
unfoldable pub periods : List Task → List ℕ
periods [] = []
periods (t ∷ ts) = t.period ∷ periods ts

-- once the deadlines at k are passed: the last of each task, from their periods, and the work of those passed
unfoldable pub lowered : ℕ → List ℕ → List ℕ → List ℕ
lowered k [] ls = []
lowered k (p ∷ ps) [] = []
lowered k (p ∷ ps) (l ∷ ls) = lower k p l ∷ lowered k ps ls

-- the work of those tasks whose last deadline is k
unfoldable pub passed_work : ℕ → List ℕ → List ℕ → ℕ
passed_work k [] ls = 0
passed_work k (c ∷ cs) [] = 0
passed_work k (c ∷ cs) (l ∷ ls) = pick (eqb l k) c 0 + passed_work k cs ls

-- The highest last deadline is at most u.
pub highest-le : (ts : List Task) (u : ℕ) → AllGood ts → highest (lasts ts u) ≤ u
unfolding lasts highest
highest-le [] u g = omega arith
highest-le (t ∷ ts) u g = omega (arith, last_le t g.0 u, highest-le ts u g.1)

-- It is a deadline, if it is not 0.
pub highest-loud : (ts : List Task) (u : ℕ) → AllGood ts → 0 < highest (lasts ts u) → is_deadline ts (highest (lasts ts u)) ≡ true
unfolding lasts highest is_deadline
highest-loud [] u g h = absurd (omega arith)
highest-loud (t ∷ ts) u g h =
    elim (dec_le (highest (lasts ts u)) (last_of t u)) [
      | yes l ↦
          (let e : max (last_of t u) (highest (lasts ts u)) ≡ last_of t u = omega arith in
          rw (e, eq-eqb ((last_of t u + spare t) % t.period) 0 (last_loud t g.0 u (omega arith))))
      | no l ↦
          (let e : max (last_of t u) (highest (lasts ts u)) ≡ highest (lasts ts u) = omega arith in
          rw e (or_true_right (eqb ((highest (lasts ts u) + spare t) % t.period) 0) (highest-loud ts u g.1 (omega arith))))
    ]

-- Between it and u there is no deadline.
pub highest-quiet : (ts : List Task) (u j : ℕ) → AllGood ts → highest (lasts ts u) < j → j ≤ u → is_deadline ts j ≡ false
unfolding lasts highest is_deadline
highest-quiet [] u j g a b = refl
highest-quiet (t ∷ ts) u j g a b =
    rw (ne_eqb ((j + spare t) % t.period) 0 (last_quiet t g.0 u j (omega arith) b)) (highest-quiet ts u j g.1 (omega arith) b)

-- Between it and u no more work is due.
pub due-still : (ts : List Task) (u k : ℕ) → AllGood ts → highest (lasts ts u) ≤ k → k ≤ u → table_due ts k ≡ table_due ts u
unfolding lasts highest table_due
due-still [] u k g a b = refl
due-still (t ∷ ts) u k g a b =
    ap₂ (λ (m n : ℕ). t.work * m + n) (dues-still t g.0 u k (omega arith) b) (due-still ts u k g.1 (omega arith) b)

-- one step down, to just before a place that none of the lasts is above
pub lasts-below : (ts : List Task) (u k : ℕ) → AllGood ts → highest (lasts ts u) ≤ suc k → suc k ≤ u
    → lasts ts k ≡ lowered (suc k) (periods ts) (lasts ts u)
unfolding lasts highest periods lowered
lasts-below [] u k g a b = refl
lasts-below (t ∷ ts) u k g a b =
    ap₂ (λ (l : ℕ) (ls : List ℕ). l ∷ ls) (last_below t g.0 u k (omega arith) b) (lasts-below ts u k g.1 (omega arith) b)

work_less : (c m n : ℕ) (b : Bool) → m ≡ pick b 1 0 + n → c * m ≡ pick b c 0 + c * n
work_less c m n true e = rw e (omega arith)
work_less c m n false e = rw e (omega arith)

-- Just below it, the work of the tasks that have it is not due yet.
pub due_below : (ts : List Task) (u k : ℕ) → AllGood ts → highest (lasts ts u) ≤ suc k → suc k ≤ u
    → table_due ts u ≡ passed_work (suc k) (works ts) (lasts ts u) + table_due ts k
unfolding lasts highest passed_work works table_due
due_below [] u k g a b = refl
due_below (t ∷ ts) u k g a b =
    omega (
      arith,
      work_less t.work (dues t u) (dues t k) (eqb (last_of t u) (suc k)) (dues-below t g.0 u k (omega arith) b),
      due_below ts u k g.1 (omega arith) b,
    )

-- ---- rows of places, of which the first are the tasks' and the others hold 0

-- There are as many last deadlines as tasks.
pub length-lasts : (ts : List Task) (u : ℕ) → length (lasts ts u) ≡ length ts
unfolding lasts
length-lasts [] u = refl
length-lasts (t ∷ ts) u = ap suc (length-lasts ts u)

-- There are as many periods as tasks.
pub length-periods : (ts : List Task) → length (periods ts) ≡ length ts
unfolding periods
length-periods [] = refl
length-periods (t ∷ ts) = ap suc (length-periods ts)

-- There are as many Cs as tasks.
pub length-works : (ts : List Task) → length (works ts) ≡ length ts
unfolding works
length-works [] = refl
length-works (t ∷ ts) = ap suc (length-works ts)

-- Zeros behind do not change the highest.
pub highest-padded : (ls : List ℕ) (m : ℕ) → highest (ls ++ replicate m 0) ≡ highest ls
unfolding highest
highest-padded [] zero = refl
highest-padded [] (suc m) = omega (arith, highest-padded [] m)
highest-padded (l ∷ ls) m = ap (max l) (highest-padded ls m)

module _ (k : ℕ) where
  -- Zeros behind stay zeros when the deadline k + 1 is passed.
  pub lowered-padded : (ps ls : List ℕ) (m : ℕ) → length ps ≡ length ls
      → lowered (suc k) (ps ++ replicate m 0) (ls ++ replicate m 0) ≡ lowered (suc k) ps ls ++ replicate m 0
  unfolding lowered
  lowered-padded [] [] zero e = refl
  lowered-padded [] [] (suc m) e = rw (ne_eqb 0 (suc k) (λ z. omega arith)) (ap (λ (l : List ℕ). 0 ∷ l) (lowered-padded [] [] m e))
  lowered-padded [] (l ∷ ls) m e = absurd (omega arith)
  lowered-padded (p ∷ ps) [] m e = absurd (omega arith)
  lowered-padded (p ∷ ps) (l ∷ ls) m e = ap (λ (x : List ℕ). lower (suc k) p l ∷ x) (lowered-padded ps ls m (omega arith))

  -- Zeros behind add no work to what is passed at k + 1.
  pub work_padded : (cs ls : List ℕ) (m : ℕ) → length cs ≡ length ls
      → passed_work (suc k) (cs ++ replicate m 0) (ls ++ replicate m 0) ≡ passed_work (suc k) cs ls
  unfolding passed_work
  work_padded [] [] zero e = refl
  work_padded [] [] (suc m) e = rw (ne_eqb 0 (suc k) (λ z. omega arith)) (omega (arith, work_padded [] [] m e))
  work_padded [] (l ∷ ls) m e = absurd (omega arith)
  work_padded (c ∷ cs) [] m e = absurd (omega arith)
  work_padded (c ∷ cs) (l ∷ ls) m e = ap (λ (n : ℕ). pick (eqb l (suc k)) c 0 + n) (work_padded cs ls m (omega arith))

-- the next of two rows
module _ (k : ℕ) where
  -- Passing a deadline keeps how many there are.
  pub lowered-length : (ps ls : List ℕ) → length ps ≡ length ls → length (lowered k ps ls) ≡ length ls
  unfolding lowered
  lowered-length [] [] e = refl
  lowered-length [] (l ∷ ls) e = absurd (omega arith)
  lowered-length (p ∷ ps) [] e = absurd (omega arith)
  lowered-length (p ∷ ps) (l ∷ ls) e = ap suc (lowered-length ps ls (omega arith))

  -- Passing a deadline, place by place.
  pub lowered-at : (ps ls : List ℕ) (i : ℕ) → i < length ps → i < length ls
      → get_or (lowered k ps ls) i 0 ≡ lower k (get_or ps i 0) (get_or ls i 0)
  unfolding lowered
  lowered-at [] ls i a b = absurd (omega arith)
  lowered-at (p ∷ ps) [] i a b = absurd (omega arith)
  lowered-at (p ∷ ps) (l ∷ ls) zero a b = refl
  lowered-at (p ∷ ps) (l ∷ ls) (suc i) a b = lowered-at ps ls i (omega arith) (omega arith)

  -- The work passed at k, one task more in front.
  pub work_next : (cs ls : List ℕ) (i : ℕ) → i < length cs → i < length ls
      → passed_work k (drop i cs) (drop i ls) ≡ pick (eqb (get_or ls i 0) k) (get_or cs i 0) 0 + passed_work k (drop (suc i) cs) (drop (suc i) ls)
  unfolding passed_work
  work_next cs ls i a b = rw (drop-cons cs i 0 a, drop-cons ls i 0 b)
