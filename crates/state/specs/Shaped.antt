-- What refusal 7 asks of one waiting job, and the bounds of a state that refusal 8 is asked of.
use Rattle.std.specs.Prelude.{ℕ, ◌≤◌, Bool, ◌||◌, ltb, eqb}
use Rattle.paper.specs.declared.Table.{Table}
use Rattle.paper.specs.declared.Job.{Job}
use Rattle.paper.specs.declared.State.{State}
use Rattle.paper.specs.Refusals.{H}
use Rattle.theory.specs.States.{Shape}

-- "job left 0 or above 30,000, promises not rising or above H"
abbrev pub bad_job : ℕ → Job → Bool
bad_job low j = (eqb j.left 0 || ltb 30000 j.left) || (ltb j.promise.0 low || ltb H j.promise.0)

pub record InBounds (s : State) : Type 0 where
  pub clock : s.now.0 ≤ H
  pub few : s.waiting ≤ 8

pub shape_bounds : {t : Table} {s : State} → Shape t s → InBounds s
shape_bounds h = record { clock = h.clock; few = h.few }
