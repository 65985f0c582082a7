-- A table that passes refusals 1 to 3, with its window: what every call knows of the table once these are asked.
use Rattle.std.specs.Prelude.{◌≡◌, refl, Bool, true, false, cond, ◌||◌, List, [], ◌∷◌, ℕ, suc, ◌≤◌, ◌<◌, ltb, None, Some}
use Rattle.std.proofs.Common.{arith, ltb-false}
use Rattle.paper.specs.declared.Task.{Task}
use Rattle.paper.specs.declared.Table.{Table}
use Rattle.paper.specs.Demand.{Good, AllGood}
use Rattle.paper.specs.Window.{window}
use Rattle.paper.specs.View.{tasks_of}
use Rattle.paper.specs.Refusals.{breaks, first_breaking, refusal_1, refusal_2, refusal_3}
use Rattle.paper.specs.Calls.{first_given, one_to_three}
use Rattle.theory.specs.WindowLaws.{window-pos}
use Rattle.theory.specs.Verdicts.{when_not, at_not, or_false_both, none_given}

-- ---- the limits of a task, as a test and as a statement

-- A task that does not break the limits keeps them.
pub keeps : (t : Task) → breaks t ≡ false → Good t
unfolding breaks
keeps t e =
    let c = t.work in
    let r = t.deadline in
    let p = t.period in
    let a = or_false_both (ltb c 1) (ltb r c || (ltb p r || ltb 10000 p)) e in
    let b = or_false_both (ltb r c) (ltb p r || ltb 10000 p) a.1 in
    let d = or_false_both (ltb p r) (ltb 10000 p) b.1 in
    record {
      some_work = ltb-false c 1 a.0;
      fits = ltb-false r c b.0;
      before_next = ltb-false p r d.0;
      small = ltb-false 10000 p d.1;
    }

keeps_more : (n : ℕ) (t : Task) (ts : List Task) (b : Bool) → breaks t ≡ b → (first_breaking (suc n) ts ≡ None → AllGood ts)
    → cond b (Some (suc n)) (first_breaking (suc n) ts) ≡ None → AllGood (t ∷ ts)
keeps_more n t ts true q r h = let z : ◌≡◌ {A = ℕ} 0 1 = cc in absurd (omega arith)
keeps_more n t ts false q r h = (keeps t q, r h)

-- refusal 2 passes only if every task keeps its limits
pub all_keep : (n : ℕ) (ts : List Task) → first_breaking n ts ≡ None → AllGood ts
unfolding first_breaking
all_keep n [] e = tt
all_keep n (t ∷ ts) e = keeps_more n t ts (breaks t) refl (all_keep (suc n) ts) e

-- ---- refusals 1 to 3

-- 1 passes only from one to sixteen tasks.
pub count-in : (n : ℕ) → (refusal_1 n).number ≡ 0 → (1 ≤ n) × (n ≤ 16)
unfolding refusal_1
count-in n e =
    let a = or_false_both (ltb n 1) (ltb 16 n) (when_not (ltb n 1 || ltb 16 n) 0 e) in
    (ltb-false n 1 a.0, ltb-false 16 n a.1)

-- 2 passes only if every task keeps its limits.
pub limits_kept : (ts : List Task) → (refusal_2 ts).number ≡ 0 → AllGood ts
unfolding refusal_2
limits_kept ts e = all_keep 0 ts (at_not (first_breaking 0 ts) 1 e)

-- 3 passes only a window of at most 30,000.
pub window-kept : (ts : List Task) → (refusal_3 ts).number ≡ 0 → window ts ≤ 30000
unfolding refusal_3
window-kept ts e = ltb-false 30000 (window ts) (when_not (ltb 30000 (window ts)) 2 e)

-- a table that passes them, and its window
pub record Ready (t : Table) (w : ℕ) : Type 0 where
  pub some_task : 1 ≤ t.count
  pub few : t.count ≤ 16
  pub good : AllGood (tasks_of t)
  pub is_window : w ≡ window (tasks_of t)
  pub short : w ≤ 30000

-- A table that passes 1 to 3 has all of this.
pub ready : (t : Table) → (first_given (one_to_three t)).number ≡ 0 → Ready t (window (tasks_of t))
ready t e =
    let a = none_given (one_to_three t) e in
    record {
      some_task = (count-in t.count a.0).0;
      few = (count-in t.count a.0).1;
      good = limits_kept (tasks_of t) a.1.0;
      is_window = refl;
      short = window-kept (tasks_of t) a.1.1.0;
    }

-- Its window is not 0.
pub ready_pos : {t : Table} {w : ℕ} → Ready t w → 0 < w
ready_pos {t} r = rw r.is_window (window-pos (tasks_of t) r.good)
