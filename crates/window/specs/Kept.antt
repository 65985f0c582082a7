-- What is known of a table that passes refusals 1 and 2, or 1 to 3, is a fact, which its type keeps: it has one proof at most.
use Rattle.std.specs.Prelude.{List, [], ◌∷◌, ℕ, zero, suc, ◌<◌, length, get_or}
use Rattle.std.specs.Coded.{×_prop, Unit-prop}
use Rattle.std.proofs.Common.{arith}
use Rattle.std.proofs.Props.{props}
use Rattle.paper.specs.declared.Task.{Task}
use Rattle.paper.specs.declared.Table.{Table}
use Rattle.paper.specs.Demand.{Good, AllGood}
use Rattle.paper.specs.View.{no_task}
use Rattle.theory.specs.Limits.{Limits}
use Rattle.theory.specs.Ready.{Ready}

good_prop : (t : Task) → IsProp (Good t)
good_prop t = Prim.hlevel props

all_good_prop : (ts : List Task) → IsProp (AllGood ts)
all_good_prop [] = Unit-prop
all_good_prop (t ∷ ts) = ×_prop (good_prop t) (all_good_prop ts)

ruleset kept = (all_good_prop, props)

pub limits_prop : (t : Table) → IsProp (Limits t)
limits_prop t = Prim.hlevel kept

pub ready_prop : (t : Table) (w : ℕ) → IsProp (Ready t w)
ready_prop t w = Prim.hlevel kept

-- Each task of a good table is good.
pub good_at : (ts : List Task) (i : ℕ) → AllGood ts → i < length ts → Good (get_or ts i no_task)
good_at [] i g h = absurd (omega arith)
good_at (t ∷ ts) zero g h = g.0
good_at (t ∷ ts) (suc i) g h = good_at ts i g.1 (omega arith)
