-- 9's third rule, one job on.
use Prim.Native.Nat.{ℕ, ◌+◌, ◌≤◌, ◌<◌}
use mathlib.Core.Path.{◌≡◌}
use mathlib.Core.Bool.{Bool, true, false, not, ◌||◌}
use Rattle.std.specs.Prelude.{None, Some}
use mathlib.Core.List.{List}
use native.Mathlib.Numerals.{add-one}
use lib.Dec.{eqb}
use lib.ListN.{length, drop, get_or, drop_of_length-le}
use Rattle.std.proofs.lemmas.List.{drop_more}
use Rattle.paper.specs.declared.Task.{Task}
use Rattle.paper.specs.declared.Job.{Job}
use Rattle.paper.specs.Vectors.{F}
use Rattle.paper.specs.Idle.{promise}
use Rattle.paper.specs.View.{jobs_of, no_job}
use Rattle.paper.specs.Refusals.{wrong_promise}

module _ (ts : List Task) (ls : List ℕ) (at i work : ℕ) (js : List Job) where
  abbrev pub wrong : Bool
  wrong = eqb (F ts) 0 || not (eqb (get_or js i no_job).promise.0 (promise ts ls at (work + (get_or js i no_job).left)))

  module _ (h : i < length js) where
    pub wrong_here : wrong ≡ true → wrong_promise ts ls at i work (jobs_of (drop i js)) ≡ Some (i + 1)
    unfolding wrong_promise jobs_of
    wrong_here e = rw (drop_more js i no_job h, e, add-one)

    pub right_here : wrong ≡ false
        → wrong_promise ts ls at i work (jobs_of (drop i js)) ≡ wrong_promise ts ls at (i + 1) (work + (get_or js i no_job).left) (jobs_of (drop (i + 1) js))
    unfolding wrong_promise jobs_of
    right_here e = rw (drop_more js i no_job h, e, add-one)

  pub none_wrong : length js ≤ i → wrong_promise ts ls at i work (jobs_of (drop i js)) ≡ None
  unfolding wrong_promise jobs_of
  none_wrong h = rw (drop_of_length-le js {i = i} h)
