-- Refusals 1 to 8 in their order: what a judgement of each leaves of the list.
use mathlib.Core.Path.{◌≡◌, ◌∙◌}
use mathlib.Core.List.{[], ◌∷◌}
use Prim.Native.Nat.{ℕ}
use Rattle.paper.specs.declared.Table.{Table}
use Rattle.paper.specs.declared.State.{State}
use Rattle.paper.specs.declared.Refusal.{Refusal}
use Rattle.paper.specs.View.{view_of, tasks_of}
use Rattle.paper.specs.Refusals.{passed, refusal_7, refusal_8}
use Rattle.paper.specs.Refused.{verdict_of}
use Rattle.paper.specs.Calls.{first_given}
use Rattle.theory.specs.Verdicts.{passed-all}
use Rattle.theory.specs.Said.{said_first, pass_first, said_front, pass_front}
use Rattle.table.specs.Six.{up_to_six}
use Rattle.vectors.specs.Eight.{seven_and_eight, up_to_eight}

module _ (t : Table) (s : State) (n : ℕ) where
  pub said_six : (r : Refusal) → first_given (up_to_six t n) ≡ verdict_of r → first_given (up_to_eight t s n) ≡ verdict_of r
  said_six r e = said_front (up_to_six t n) (seven_and_eight t s) r e

  module _ (six : first_given (up_to_six t n) ≡ passed) where
    after_6 : first_given (up_to_eight t s n) ≡ first_given (seven_and_eight t s)
    after_6 = pass_front (up_to_six t n) (seven_and_eight t s) six

    pub said_7 : (r : Refusal) → refusal_7 (tasks_of t) s ≡ verdict_of r → first_given (up_to_eight t s n) ≡ verdict_of r
    said_7 r e = after_6 ∙ said_first (refusal_8 (tasks_of t) (view_of t.count s) ∷ []) r e

    module _ (seven : refusal_7 (tasks_of t) s ≡ passed) where
      after_7 : first_given (up_to_eight t s n) ≡ first_given (refusal_8 (tasks_of t) (view_of t.count s) ∷ [])
      after_7 = after_6 ∙ pass_first (refusal_8 (tasks_of t) (view_of t.count s) ∷ []) seven

      pub said_8 : (r : Refusal) → refusal_8 (tasks_of t) (view_of t.count s) ≡ verdict_of r → first_given (up_to_eight t s n) ≡ verdict_of r
      said_8 r e = after_7 ∙ said_first [] r e

      pub pass_8 : refusal_8 (tasks_of t) (view_of t.count s) ≡ passed → first_given (up_to_eight t s n) ≡ passed
      pass_8 e = after_7 ∙ pass_first [] e ∙ passed-all
