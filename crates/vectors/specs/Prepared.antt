-- The vectors that are made of a table and a state that pass 1 to 8: what the moving vectors and admission share.
use Rattle.std.specs.Prelude.{◌≡◌, false, List, ℕ, ◌≤◌, length, Result, Ok, Err, OnErr}
use Rattle.std.proofs.Common.{ap}
use Rattle.paper.specs.declared.Table.{Table}
use Rattle.paper.specs.declared.State.{State}
use Rattle.paper.specs.declared.Verdict.{Verdict}
use Rattle.paper.specs.declared.Refusal.{Refusal}
use Rattle.paper.specs.declared.MovingAnswer.{MovingAnswer}
use Rattle.paper.specs.Places.{K}
use Rattle.paper.specs.Vectors.{D}
use Rattle.paper.specs.View.{view_of, tasks_of}
use Rattle.paper.specs.Refusals.{overdue}
use Rattle.paper.specs.Refused.{verdict_of, Says}
use Rattle.paper.specs.Calls.{filled, y_of, moving_verdict, moving_call, MovingOutcome}
use Rattle.theory.specs.Said.{said_refuses}
use Rattle.theory.specs.States.{Shape}
use Rattle.table.specs.declared.JudgedTable.{JudgedTable}
use Rattle.moving.specs.declared.Made.{Made}
use Rattle.moving.specs.Vectors.{made_of}
use Rattle.vectors.specs.declared.Prepared.{Prepared}

-- lent vectors that are long enough, and not too many places
pub record Room (j : JudgedTable) (long_k long-d long_y : ℕ) : Type 0 where
  pub places : j.places ≡ length (K (tasks_of j.checked.within.table))
  pub few : j.places ≤ 1024
  pub in_k : j.places ≤ long_k
  pub in_d : j.places ≤ long-d
  pub in_y : j.places ≤ long_y

-- the numbers of the vectors, and K, D and Y in front of the lent ones, which were k, d and y
pub record Filled (t : Table) (s : State) (k d y : List ℕ) (made : Made) (k' d' y' : List ℕ) : Type 0 where
  pub numbers : made ≡ made_of (tasks_of t) (view_of t.count s).lefts s.now.0
  pub in_k : k' ≡ filled (K (tasks_of t)) k
  pub in_d : d' ≡ filled (D (tasks_of t)) d
  pub in_y : y' ≡ filled (y_of (tasks_of t) (view_of t.count s)) y

-- the same, of a table and a state that pass 1 to 8
pub record Prepares (t : Table) (s : State) (k d y k' d' y' : List ℕ) (p : Prepared) : Type 0 where
  pub table_is : p.checked.within.table ≡ t
  pub few : p.made.places ≤ 1024
  pub is_shaped : Shape t s
  pub on_time : overdue (tasks_of t) (view_of t.count s) ≡ false
  pub fills : Filled t s k d y p.made k' d' y'

-- the lent vectors as they were
pub record Kept (k d y k' d' y' : List ℕ) : Type 0 where
  pub in_k : k' ≡ k
  pub in_d : d' ≡ d
  pub in_y : y' ≡ y

-- the moving vectors' answer where they refuse
abbrev pub refused_answer : Verdict → MovingAnswer
refused_answer v = record { number = v.number; place = v.place; places = 0 }

-- the moving vectors' outcome is a part of what is prepared
abbrev pub moving_of : Result Prepared Refusal → List ℕ → List ℕ → List ℕ → MovingOutcome
moving_of (Ok p) k d y = record { answer = record { number = 0; place = 0; places = p.made.places }; k = k; d = d; y = y }
moving_of (Err r) k d y = record { answer = refused_answer (verdict_of r); k = k; d = d; y = y }

module _ (t : Table) (s : State) (k d y k' d' y' : List ℕ) where
  pub moving_of_lem : (r : Result Prepared Refusal) → Says (moving_verdict t s k d y) (Prepares t s k d y k' d' y') r
      → OnErr r (Kept k d y k' d' y') → moving_of r k' d' y' ≡ moving_call t s k d y
  unfolding moving_call
  moving_of_lem (Ok p) v o =
      let f = v.1.fills in
      let places_are : p.made.places ≡ length (K (tasks_of t)) = ap (λ (m : Made). m.places) f.numbers in
      rw (v.0, places_are, f.in_k, f.in_d, f.in_y)
  moving_of_lem (Err r) v o =
      rw (
        said_refuses (length (K (tasks_of t))) 0 r v,
        said_refuses (filled (K (tasks_of t)) k) k r v,
        said_refuses (filled (D (tasks_of t)) d) d r v,
        said_refuses (filled (y_of (tasks_of t) (view_of t.count s)) y) y r v,
        v,
        o.in_k,
        o.in_d,
        o.in_y,
      )
