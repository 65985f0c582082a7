-- A table that passes refusals 1 and 2: what power-on knows of it. A table that is ready is one.
use Rattle.std.specs.Prelude.{◌≡◌, List, [], ◌∷◌, ℕ, zero, suc, ◌≤◌, ◌<◌, length, take, get_or}
use Rattle.std.proofs.Common.{arith, le_of_suc-le-suc, length-take-le}
use Rattle.paper.specs.declared.Task.{Task}
use Rattle.paper.specs.declared.Table.{Table}
use Rattle.paper.specs.Demand.{Good, AllGood}
use Rattle.paper.specs.View.{tasks_of, no_task}
use Rattle.paper.specs.Refusals.{refusal_1, refusal_2}
use Rattle.paper.specs.Calls.{power_on_verdict}
use Rattle.theory.specs.Verdicts.{none_given}
use Rattle.theory.specs.Ready.{Ready, count-in, limits_kept}

pub record Limits (t : Table) : Type 0 where
  pub some_task : 1 ≤ t.count
  pub few : t.count ≤ 16
  pub good : AllGood (tasks_of t)

pub limits : (t : Table) → (power_on_verdict t).number ≡ 0 → Limits t
unfolding power_on_verdict
limits t e =
    let a = none_given (refusal_1 t.count ∷ refusal_2 (tasks_of t) ∷ []) e in
    let n = count-in t.count a.0 in
    record { some_task = n.0; few = n.1; good = limits_kept (tasks_of t) a.1.0 }

pub ready_limits : {t : Table} {w : ℕ} → Ready t w → Limits t
ready_limits r = record { some_task = r.some_task; few = r.few; good = r.good }

-- as many tasks as it says
pub many : {t : Table} → Limits t → length t.tasks ≡ 16 → length (tasks_of t) ≡ t.count
unfolding tasks_of
many {t} l h = length-take-le t.count t.tasks (omega (arith, l.few))

good_place : (ts : List Task) (n i : ℕ) → AllGood (take n ts) → i < n → i < length ts → Good (get_or ts i no_task)
good_place [] n i g h k = absurd (omega arith)
good_place (t ∷ ts) zero i g h k = absurd (omega arith)
good_place (t ∷ ts) (suc n) zero g h k = g.0
good_place (t ∷ ts) (suc n) (suc i) g h k = good_place ts n i g.1 (le_of_suc-le-suc h) (le_of_suc-le-suc k)

-- each of its tasks keeps its limits
pub good_at : {t : Table} → Limits t → (i : ℕ) → i < t.count → i < length t.tasks → Good (get_or t.tasks i no_task)
unfolding tasks_of
good_at {t} l i h k = good_place t.tasks t.count i l.good h k
