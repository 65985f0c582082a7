-- What is known when 9 is asked: 1 to 8 have passed, and the vectors are made. And what its rules answer.
use Rattle.std.specs.Prelude.{ℕ, ◌-◌, ◌*◌, ◌/◌, ◌%◌, ◌≤◌, ◌≡◌, false, List, [], ◌∷◌, take, Option, Some, None}
use Rattle.paper.specs.declared.Task.{Task}
use Rattle.paper.specs.declared.State.{State}
use Rattle.paper.specs.declared.Offset.{Offset}
use Rattle.paper.specs.declared.Verdict.{Verdict}
use Rattle.paper.specs.Window.{window}
use Rattle.paper.specs.Places.{K}
use Rattle.paper.specs.Vectors.{Y}
use Rattle.paper.specs.View.{View, view_of, tasks_of}
use Rattle.paper.specs.Refusals.{overdue, refusal_9_work, refusal_9_tallies, refusal_9_promise}
use Rattle.theory.specs.States.{Shape}
use Rattle.moving.specs.Vectors.{made_of}
use Rattle.window.specs.declared.Windowed.{Windowed}
use Rattle.moving.specs.declared.Made.{Made}

-- of a table with its window and a state: their numbers, and K and Y in front of k and y
pub record Ground (w : Windowed) (s : State) (made : Made) (k y : List ℕ) : Type 0 where
  pub shape : Shape w.within.table s
  pub on_time : overdue (tasks_of w.within.table) (view_of w.within.table.count s) ≡ false
  pub few : made.places ≤ 1024
  pub numbers : made ≡ made_of (tasks_of w.within.table) (view_of w.within.table.count s).lefts s.now.0
  pub in_k : take made.places k ≡ K (tasks_of w.within.table)
  pub in_y : take made.places y ≡ Y (tasks_of w.within.table) (view_of w.within.table.count s).lefts (s.now.0 % window (tasks_of w.within.table))

-- the start of the state's window
abbrev pub start_of : Windowed → State → ℕ
start_of w s = s.now.0 / window (tasks_of w.within.table) * window (tasks_of w.within.table)

-- a time that is found, as an offset of the window that starts at b
abbrev pub found_from : ℕ → Option ℕ → Option Offset
found_from b None = None
found_from b (Some u) = Some (record { 0 = u - b })

-- 9, rule by rule
abbrev pub three_rules : List Task → View → List Verdict
three_rules ts v = refusal_9_work ts v ∷ refusal_9_tallies ts v ∷ refusal_9_promise ts v ∷ []
