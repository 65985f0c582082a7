-- The three rules of 9 in their order: what each test of the code leaves of the list.
use mathlib.Core.Path.{◌≡◌, refl, sym, ◌∙◌}
use mathlib.Core.Bool.{Bool, true, false, not}
use mathlib.Core.List.{List, [], ◌∷◌}
use Prim.Native.Nat.{ℕ, ◌+◌, ◌≤◌}
use native.Mathlib.Omega.{arith}
use lib.Dec.{eqb}
use lib.ListN.{length, take, length-take}
use lib.Seq.{take-length}
use Rattle.std.specs.Prelude.{is_some, Option, None, Some}
use Rattle.paper.specs.declared.Task.{Task}
use Rattle.paper.specs.declared.State.{State}
use Rattle.paper.specs.declared.Job.{Job}
use Rattle.paper.specs.declared.Offset.{Offset}
use Rattle.paper.specs.declared.Refusal.TheVariants.{Unfit}
use Rattle.paper.specs.Refused.{numbered}
use Rattle.paper.specs.Vectors.{D}
use Rattle.paper.specs.View.{View, jobs_of, view_of, tasks_of}
use Rattle.paper.specs.Refusals.{passed, found, overfull_at, wrong_tallies, wrong_promise, wrong_promise_at, refusal_9_work, refusal_9_tallies, refusal_9_promise}
use Rattle.paper.specs.Calls.{first_given}
use Rattle.theory.specs.Verdicts.{when_given, when_passed, passed-all}
use Rattle.theory.specs.Said.{said_first, pass_first}
use Rattle.window.specs.declared.Windowed.{Windowed}
use Rattle.promise.specs.declared.Vectors.{Vectors}
use Rattle.promise.specs.Holds.{HoldsInFront}
use Rattle.fit.specs.Ground.{Ground, start_of, found_from, three_rules}
use Rattle.fit.specs.Lefts.{Lefts, kept_lefts}
use Rattle.fit.proofs.Over.{left_most}

-- ---- what is found is some

found_is : (b : ℕ) (o : Option ℕ) → is_some (found_from b o) ≡ found o
found_is b None = refl
found_is b (Some u) = refl

is_found : (o : Option ℕ) → is_some o ≡ found o
is_found None = refl
is_found (Some u) = refl

module _ (w : Windowed) (s : State) (v : Vectors) (g : Ground w s v.made v.k.now v.y.now) (in_d : take v.made.places v.d.now ≡ D (tasks_of w.within.table)) where
  abbrev ts : List Task
  ts = tasks_of w.within.table

  abbrev view : View
  view = view_of w.within.table.count s

  pub left_small : v.made.left ≤ 30000
  left_small = omega (arith, left_most w s v.made v.k.now v.y.now g, w.ready.short)

  pub holds : HoldsInFront ts view.lefts s.now.0 v
  holds = record { numbers = g.numbers; in_k = g.in_k; in_d = in_d; in_y = g.in_y }

  pub lefts_in : (js : List Job) → js ≡ take s.waiting s.jobs → (length js ≤ 8) × Lefts (length js) js
  unfolding view_of
  lefts_in js e =
      let n = length-take s.waiting s.jobs in
      (rw e (omega (arith, n, g.shape.few)), kept_lefts 0 (length js) js (rw (take-length js, e) g.shape.jobs) (omega arith))

  -- ---- in their order

  module _ (a : Option Offset) (ea : a ≡ found_from (start_of w s) (overfull_at ts view)) where
    work_is : is_some a ≡ found (overfull_at ts view)
    work_is = rw ea (found_is (start_of w s) (overfull_at ts view))

    pub work_broken : is_some a ≡ true → first_given (three_rules ts view) ≡ numbered 9 0
    unfolding refusal_9_work
    work_broken h = said_first (refusal_9_tallies ts view ∷ refusal_9_promise ts view ∷ []) Unfit (when_given 9 (sym work_is ∙ h))

    module _ (h : is_some a ≡ false) (b : Bool) (eb : b ≡ not (eqb (s.given + s.idle + v.made.left) v.made.idle)) where
      after-work : first_given (three_rules ts view) ≡ first_given (refusal_9_tallies ts view ∷ refusal_9_promise ts view ∷ [])
      unfolding refusal_9_work
      after-work = pass_first (refusal_9_tallies ts view ∷ refusal_9_promise ts view ∷ []) (when_passed 9 (sym work_is ∙ h))

      tallies_are : b ≡ wrong_tallies ts view
      unfolding wrong_tallies view_of
      tallies_are = rw (eb, g.numbers)

      pub tallies_broken : b ≡ true → first_given (three_rules ts view) ≡ numbered 9 0
      unfolding refusal_9_tallies
      tallies_broken x = after-work ∙ said_first (refusal_9_promise ts view ∷ []) Unfit (when_given 9 (sym tallies_are ∙ x))

      module _ (x : b ≡ false) (c : Option ℕ) (js : List Job) (ej : js ≡ take s.waiting s.jobs)
          (ec : c ≡ wrong_promise ts view.lefts s.now.0 0 0 (jobs_of js)) where
        after-tallies : first_given (three_rules ts view) ≡ first_given (refusal_9_promise ts view ∷ [])
        unfolding refusal_9_tallies
        after-tallies = after-work ∙ pass_first (refusal_9_promise ts view ∷ []) (when_passed 9 (sym tallies_are ∙ x))

        promise-is : is_some c ≡ found (wrong_promise_at ts view)
        unfolding wrong_promise_at view_of
        promise-is = rw (ec, ej) (is_found (wrong_promise ts view.lefts s.now.0 0 0 view.jobs))

        pub promise-broken : is_some c ≡ true → first_given (three_rules ts view) ≡ numbered 9 0
        unfolding refusal_9_promise
        promise-broken z = after-tallies ∙ said_first [] Unfit (when_given 9 (sym promise-is ∙ z))

        pub none_broken : is_some c ≡ false → first_given (three_rules ts view) ≡ passed
        unfolding refusal_9_promise
        none_broken z = after-tallies ∙ pass_first [] (when_passed 9 (sym promise-is ∙ z)) ∙ passed-all
