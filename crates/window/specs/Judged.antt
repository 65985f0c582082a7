-- What refusals 1 to 3 answer, and what a caller knows of the table from it.
use Rattle.std.specs.Prelude.{◌≡◌, Result, Ok}
use Rattle.paper.specs.declared.Table.{Table}
use Rattle.paper.specs.declared.Refusal.{Refusal}
use Rattle.paper.specs.Refused.{Says}
use Rattle.paper.specs.Calls.{first_given, one_to_three}
use Rattle.theory.specs.Said.{answered, says_answered}
use Rattle.theory.specs.Ready.{Ready}
use Rattle.window.specs.declared.Windowed.{Windowed}

abbrev pub Judged : Table → Result Windowed Refusal → Type 0
Judged t x = Says (first_given (one_to_three t)) (λ w. w.within.table ≡ t) x

module _ (t : Table) (x : Result Windowed Refusal) (q : Judged t x) where
  pub judged-verdict : first_given (one_to_three t) ≡ answered x
  judged-verdict = says_answered (first_given (one_to_three t)) (λ w. w.within.table ≡ t) x q

  module _ (w : Windowed) (e : x ≡ Ok w) where
    pub judged-passes : (first_given (one_to_three t)).number ≡ 0
    judged-passes = rw (judged-verdict, e)

    pub judged-ready : Ready t w.window
    judged-ready = rw (rw e at q).1 at w.ready
