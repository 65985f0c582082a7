-- Refusals 1 to 8, for lent vectors of which the shortest has n places, and what a caller knows of a table and a state that pass.
use Rattle.std.specs.Prelude.{◌≡◌, false, List, [], ◌∷◌, ◌++◌, ℕ, ◌≤◌, min, length, Result, None}
use Rattle.std.proofs.Common.{ap}
use Rattle.paper.specs.declared.Task.{Task}
use Rattle.paper.specs.declared.Table.{Table}
use Rattle.paper.specs.declared.State.{State}
use Rattle.paper.specs.declared.Verdict.{Verdict}
use Rattle.paper.specs.declared.Refusal.{Refusal}
use Rattle.paper.specs.Places.{K}
use Rattle.paper.specs.View.{View, view_of, tasks_of}
use Rattle.paper.specs.Refusals.{passed, overloaded_at, overdue, refusal_7, refusal_8}
use Rattle.paper.specs.Refused.{Says}
use Rattle.paper.specs.Calls.{first_given, moving_verdict}
use Rattle.theory.specs.Verdicts.{when_not, none_given, passed-front}
use Rattle.theory.specs.Said.{answered, says_answered, passed_number}
use Rattle.theory.specs.Ready.{Ready}
use Rattle.theory.specs.States.{Arrays, Shape, shape}
use Rattle.table.specs.declared.JudgedTable.{JudgedTable}
use Rattle.table.specs.Six.{up_to_six, shortest, six_lent, Passed, none_given_front, six_passed}

abbrev pub seven_and_eight : Table → State → List Verdict
seven_and_eight t s = refusal_7 (tasks_of t) s ∷ refusal_8 (tasks_of t) (view_of t.count s) ∷ []

abbrev pub up_to_eight : Table → State → ℕ → List Verdict
up_to_eight t s n = up_to_six t n ++ seven_and_eight t s

-- they are the paper's, for three lent vectors
pub eight_lent : (t : Table) (s : State) (k d y : List ℕ) (n : ℕ) → n ≡ min (length k) (min (length d) (length y))
    → first_given (up_to_eight t s n) ≡ moving_verdict t s k d y
unfolding moving_verdict shortest
eight_lent t s k d y n e = rw e (ap (λ (rs : List Verdict). first_given (rs ++ seven_and_eight t s)) (six_lent t k (d ∷ y ∷ [])))

-- a table and a state that pass 1 to 8
pub record Good (t : Table) (s : State) (n : ℕ) (j : JudgedTable) : Type 0 where
  pub table_is : j.checked.within.table ≡ t
  pub is_ready : Ready t j.checked.window
  pub places_are : j.places ≡ length (K (tasks_of t))
  pub few : length (K (tasks_of t)) ≤ 1024
  pub room : length (K (tasks_of t)) ≤ n
  pub fits : overloaded_at (tasks_of t) ≡ None
  pub is_shaped : Shape t s
  pub on_time : overdue (tasks_of t) (view_of t.count s) ≡ false

not_late : (ts : List Task) (v : View) → (refusal_8 ts v).number ≡ 0 → overdue ts v ≡ false
unfolding refusal_8
not_late ts v e = when_not (overdue ts v) 7 e

module _ (t : Table) (s : State) (n : ℕ) where
  -- what is answered is the verdict of 1 to 8
  pub eight_verdict : (a : Result JudgedTable Refusal) → Says (first_given (up_to_eight t s n)) (Good t s n) a → first_given (up_to_eight t s n) ≡ answered a
  eight_verdict = says_answered (first_given (up_to_eight t s n)) (Good t s n)

  -- A table that passes 1 to 6 passes them in front of 7 and 8 too.
  pub eight_after_six : (j : JudgedTable) → Passed t n j → Arrays t s → refusal_7 (tasks_of t) s ≡ passed → refusal_8 (tasks_of t) (view_of t.count s) ≡ passed → Good t s n j
  eight_after_six j p arrays seven eight =
      let r : Ready t j.checked.window = rw p.table_is at j.checked.ready in
      record {
        table_is = p.table_is;
        is_ready = r;
        places_are = p.places_are;
        few = p.few;
        room = p.room;
        fits = p.fits;
        is_shaped = shape r arrays (passed_number seven);
        on_time = not_late (tasks_of t) (view_of t.count s) (passed_number eight);
      }

module _ (t : Table) (s : State) (n : ℕ) (j : JudgedTable) (same : j.checked.within.table ≡ t) (counted : j.places ≡ length (K (tasks_of t))) where
  -- A checked table with the number of its places passes with a state where the paper's verdict has no number: it alone says what 1 to 8
  -- leave known.
  pub eight_good : Arrays t s → (first_given (up_to_eight t s n)).number ≡ 0 → Good t s n j
  eight_good arrays z =
      let front = none_given_front (up_to_six t n) (seven_and_eight t s) z in
      let a = none_given (seven_and_eight t s) (rw (passed-front (up_to_six t n) (seven_and_eight t s) front) at z) in
      let p = six_passed t n j same counted front in
      record {
        table_is = same;
        is_ready = p.is_ready;
        places_are = counted;
        few = p.few;
        room = p.room;
        fits = p.fits;
        is_shaped = shape p.is_ready arrays a.0;
        on_time = not_late (tasks_of t) (view_of t.count s) a.1.0;
      }
