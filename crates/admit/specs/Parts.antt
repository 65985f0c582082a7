-- What admission asks after 9, in two parts, what it offers, and what it leaves.
use Rattle.std.specs.Prelude.{◌≡◌, List, [], ◌∷◌, ℕ, ◌<◌, leb, eqb}
use Rattle.paper.specs.declared.Slot.{Slot}
use Rattle.paper.specs.declared.Table.{Table}
use Rattle.paper.specs.declared.State.{State}
use Rattle.paper.specs.declared.Verdict.{Verdict}
use Rattle.paper.specs.declared.AdmissionAnswer.{AdmissionAnswer}
use Rattle.paper.specs.Places.{K}
use Rattle.paper.specs.Vectors.{D}
use Rattle.paper.specs.Idle.{promise_of}
use Rattle.paper.specs.View.{view_of, tasks_of}
use Rattle.paper.specs.Refusals.{when, refusal_10}
use Rattle.paper.specs.Calls.{accepted, filled, y_of, moving_verdict}
use Rattle.theory.specs.States.{Shape}

-- 10 to 12, for the number of waiting jobs and the idle slots of a window
abbrev pub ten_to_twelve : ℕ → ℕ → ℕ → List Verdict
ten_to_twelve work waiting idle = refusal_10 work ∷ when (leb 8 waiting) 11 ∷ when (eqb idle 0) 12 ∷ []

-- the promise of a job that passes 9 to 14, and room for it
pub record Offered (t : Table) (s : State) (work : ℕ) (p : Slot) : Type 0 where
  pub promise_is : p.0 ≡ promise_of (tasks_of t) (view_of t.count s) work
  pub room : s.waiting < 8

-- the same, of a table and a state that pass 1 to 8 too
pub record Accepted (t : Table) (s : State) (work : ℕ) (p : Slot) : Type 0 where
  pub is_shaped : Shape t s
  pub offers : Offered t s work p

-- the lent vectors, which were k, d and y: filled where 1 to 8 pass, and else as they were
pub record Lent (t : Table) (s : State) (k d y k' d' y' : List ℕ) : Type 0 where
  pub in_k : k' ≡ accepted (moving_verdict t s k d y) (filled (K (tasks_of t)) k) k
  pub in_d : d' ≡ accepted (moving_verdict t s k d y) (filled (D (tasks_of t)) d) d
  pub in_y : y' ≡ accepted (moving_verdict t s k d y) (filled (y_of (tasks_of t) (view_of t.count s)) y) y

-- an admission's answer where it refuses
abbrev pub refused_answer : Verdict → State → AdmissionAnswer
refused_answer v s = record { number = v.number; place = v.place; promise = record { 0 = 0 }; state = s }
