-- Rows of sixteen places: filled from the front, and one step down over the first of them.
use mathlib.Core.Path.{◌≡◌, refl, sym, ap, ap₂, ◌∙◌}
use mathlib.Core.List.{List, [], ◌∷◌, ◌++◌, append_assoc}
use Prim.Native.Nat.{ℕ, zero, suc, ◌+◌, ◌*◌, ◌-◌, ◌≤◌, ◌<◌, ◌∣◌, max}
use native.Mathlib.Omega.{arith}
use lib.ListN.{length, take, drop, get_or, set, replicate, length-replicate, length-take, replicate-append-replicate}
use native.Mathlib.Numerals.{add-one}
use lib.Seq.{drop-cons, take-append-add, take_all}
use Rattle.paper.specs.declared.Task.{Task}
use Rattle.paper.specs.declared.Table.{Table}
use Rattle.paper.specs.Demand.{dues, table_due, works}
use Rattle.paper.specs.View.{tasks_of, no_task}
use Rattle.theory.specs.Lent.{put_more}
use Rattle.theory.specs.Padded.{take-replicate}
use Rattle.theory.specs.Tables.{Divide}
use Rattle.theory.specs.WindowLaws.{window-divides}
use Rattle.theory.specs.Limits.{Limits}
use Rattle.theory.specs.Ready.{Ready}
use Rattle.theory.specs.Lasts.{last_of, lasts, periods, highest-le, lasts-below, due_below, highest, lowered, passed_work, length-lasts, length-periods, length-works, highest-padded, lowered-padded, work_padded}
use Rattle.theory.specs.Most.{due-above}
use Rattle.places.specs.declared.Walk.{Walk}
use Rattle.places.specs.Stands.{row, Stands, RowsOf}

-- ---- the i-th of what some tasks have

-- no more than sixteen, of a table that has passed
pub few_tasks : {t : Table} → Limits t → length (tasks_of t) ≤ 16
unfolding tasks_of
few_tasks {t} l = omega (arith, length-take t.count t.tasks, l.few)

pub divides_at : (ts : List Task) (w i : ℕ) → Divide ts w → i < length ts → (get_or ts i no_task).period ∣ w
divides_at [] w i d h = absurd (omega arith)
divides_at (t ∷ ts) w zero d h = d.0
divides_at (t ∷ ts) w (suc i) d h = divides_at ts w i d.1 (omega arith)

pub period_divides : {t : Table} {w : ℕ} → Ready t w → (i : ℕ) → i < length (tasks_of t) → (get_or (tasks_of t) i no_task).period ∣ w
period_divides {t} {w} y i h = divides_at (tasks_of t) w i (rw y.is_window (window-divides (tasks_of t))) h

-- one task less that is still to come
pub due_next : (ts : List Task) (w i : ℕ) → i < length ts
    → table_due (drop i ts) w ≡ (get_or ts i no_task).work * dues (get_or ts i no_task) w + table_due (drop (i + 1) ts) w
unfolding table_due
due_next ts w i h = rw (drop-cons ts i no_task h, add-one i)

pub highest_next : (ls : List ℕ) (i : ℕ) → i < length ls → highest (drop i ls) ≡ max (get_or ls i 0) (highest (drop (i + 1) ls))
unfolding highest
highest_next ls i h = rw (drop-cons ls i 0 h, add-one i)

pub works_at : (ts : List Task) (i : ℕ) → i < length ts → get_or (works ts) i 0 ≡ (get_or ts i no_task).work
unfolding works
works_at [] i h = absurd (omega arith)
works_at (t ∷ ts) zero h = refl
works_at (t ∷ ts) (suc i) h = works_at ts i (omega arith)

pub periods-at : (ts : List Task) (i : ℕ) → i < length ts → get_or (periods ts) i 0 ≡ (get_or ts i no_task).period
unfolding periods
periods-at [] i h = absurd (omega arith)
periods-at (t ∷ ts) zero h = refl
periods-at (t ∷ ts) (suc i) h = periods-at ts i (omega arith)

pub lasts-at : (ts : List Task) (u i : ℕ) → i < length ts → get_or (lasts ts u) i 0 ≡ last_of (get_or ts i no_task) u
unfolding lasts
lasts-at [] u i h = absurd (omega arith)
lasts-at (t ∷ ts) u zero h = refl
lasts-at (t ∷ ts) u (suc i) h = lasts-at ts u i (omega arith)

-- ---- a row

drop-replicate : (c n : ℕ) → drop {A = ℕ} c (replicate n 0) ≡ replicate (n - c) 0
drop-replicate zero n =
    let e : n - 0 ≡ n = omega arith in
    rw e
drop-replicate (suc c) zero =
    let e : 0 - suc c ≡ 0 = omega arith in
    rw e
drop-replicate (suc c) (suc n) =
    let e : suc n - suc c ≡ n - c = omega arith in
    rw e (drop-replicate c n)

-- filled from its front
pub row_full : (xs : List ℕ) (n : ℕ) → length xs ≡ n → take n xs ++ drop n (replicate 16 0) ≡ row xs
row_full xs n e =
    ap₂ (λ (a b : List ℕ). a ++ b) (take_all n xs (omega arith))
    (drop-replicate n 16 ∙ ap (λ (m : ℕ). replicate (16 - m) 0) (sym e))

-- place i is given its number, after those before it
pub put_row : (xs : List ℕ) (i v : ℕ) → i < length xs → length xs ≤ 16 → v ≡ get_or xs i 0
    → set (take i xs ++ drop i (replicate 16 0)) i v ≡ take (i + 1) xs ++ drop (i + 1) (replicate 16 0)
put_row xs i v h m e = rw e (put_more xs (replicate 16 0) i 0 h (omega (arith, length-replicate {A = ℕ} 16 0)))

-- its first c places
take_row : (c : ℕ) (xs : List ℕ) → length xs ≤ c → c ≤ 16 → take c (row xs) ≡ xs ++ replicate (c - length xs) 0
take_row c xs h m =
    let e : c ≡ length xs + (c - length xs) = omega arith in
    ap (λ (n : ℕ). take n (row xs)) e
    ∙ take-append-add xs (replicate (16 - length xs) 0) (c - length xs)
    ∙ ap (λ (l : List ℕ). xs ++ l) (take-replicate 0 (c - length xs) (16 - length xs) (omega arith))

rest-row : (c : ℕ) (xs : List ℕ) → length xs ≤ c → c ≤ 16 → (xs ++ replicate (c - length xs) 0) ++ drop c (replicate 16 0) ≡ row xs
rest-row c xs h m =
    let e : c - length xs + (16 - c) ≡ 16 - length xs = omega arith in
    rw (drop-replicate c 16, append_assoc xs (replicate (c - length xs) 0) (replicate (16 - c) 0), replicate-append-replicate {A = ℕ} (c - length xs) (16 - c) 0, e)

-- one step down over the first c places of the rows, where the tasks are no more
module _ (k c : ℕ) (cs ps ls : List ℕ) (a : length cs ≡ length ls) (b : length ps ≡ length ls) (h : length ls ≤ c) (m : c ≤ 16) where
  lowered-row : lowered (suc k) (take c (row ps)) (take c (row ls)) ≡ lowered (suc k) ps ls ++ replicate (c - length ls) 0
  lowered-row = rw (take_row c ps (omega arith) m, take_row c ls h m, b) (lowered-padded k ps ls (c - length ls) b)

  pub row_lowered : length (lowered (suc k) ps ls) ≡ length ls
      → lowered (suc k) (take c (row ps)) (take c (row ls)) ++ drop c (replicate 16 0) ≡ row (lowered (suc k) ps ls)
  row_lowered e = rw (lowered-row, ← e) (rest-row c (lowered (suc k) ps ls) (omega arith) m)

  pub row_highest : highest (lowered (suc k) (take c (row ps)) (take c (row ls))) ≡ highest (lowered (suc k) ps ls)
  row_highest = rw lowered-row (highest-padded (lowered (suc k) ps ls) (c - length ls))

  pub row_work : passed_work (suc k) (take c (row cs)) (take c (row ls)) ≡ passed_work (suc k) cs ls
  row_work = rw (take_row c cs (omega arith) m, take_row c ls h m, a) (work_padded k cs ls (c - length ls) a)

-- ---- one step down of the walk

-- what a step over the first c places of the rows gives
pub record Step (c : ℕ) (cs ps : List ℕ) (s r : Walk) : Type 0 where
  pub lasts_are : r.lasts ≡ lowered s.place (take c ps) (take c s.lasts) ++ drop c (replicate 16 0)
  pub above_is : r.above ≡ s.above + passed_work s.place (take c cs) (take c s.lasts)
  pub place_is : r.place ≡ highest (lowered s.place (take c ps) (take c s.lasts))

module _ (t : Table) (w u c : ℕ) (s r : Walk) (few : t.count ≤ c) (m : c ≤ 16) (x : Stands t w u s)
    (e : Step c (row (works (tasks_of t))) (row (periods (tasks_of t))) s r) where
  shorter : length (lasts (tasks_of t) u) ≤ c
  unfolding tasks_of
  shorter = omega (arith, length-lasts (tasks_of t) u, length-take t.count t.tasks)

  stands-below : (k : ℕ) → s.place ≡ suc k → Stands t w k r
  stands-below k q =
      let ts = tasks_of t in
      let cs = works ts in
      let ps = periods ts in
      let ls = lasts ts u in
      let a : length cs ≡ length ls = length-works ts ∙ sym (length-lasts ts u) in
      let b : length ps ≡ length ls = length-periods ts ∙ sym (length-lasts ts u) in
      let high : highest ls ≤ suc k = omega (arith, x.place_is) in
      let in-u : suc k ≤ u = omega (arith, x.place_is, highest-le ts u x.ready.good) in
      let low : lasts ts k ≡ lowered (suc k) ps ls = lasts-below ts u k x.ready.good high in-u in
      record {
        ready = x.ready;
        inside = omega (arith, x.inside);
        place_is = rw (q, x.lasts_are) at e.place_is ∙ row_highest k c cs ps ls a b shorter m ∙ ap highest (sym low);
        above_is =
            omega (
              arith,
              rw (q, x.lasts_are, row_work k c cs ps ls a b shorter m) at e.above_is,
              x.above_is,
              due_below ts u k x.ready.good high in-u,
              due-above t w u x.ready x.inside,
              due-above t w k x.ready (omega (arith, x.inside)),
            );
        lasts_are =
            rw (q, x.lasts_are) at e.lasts_are
            ∙ row_lowered k c cs ps ls a b shorter m (sym (ap length low) ∙ length-lasts ts k ∙ sym (length-lasts ts u))
            ∙ ap row (sym low);
      }

pub step_stands : (t : Table) (w u c : ℕ) (cs ps : List ℕ) (s : Walk) → RowsOf t cs ps c → c ≤ 16 → Stands t w u s → 0 < s.place
    → (r : Walk) → Step c cs ps s r → Stands t w (s.place - 1) r
step_stands t w u c cs ps s rows m x pos r e =
    stands-below t w u c s r rows.wide m x (rw (rows.works-are, rows.periods-are) at e) (s.place - 1) (omega arith)
