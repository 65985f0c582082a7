-- 10 to 14 in their order: what each test of the code leaves of the list.
use mathlib.Core.Path.{◌≡◌, ◌∙◌}
use mathlib.Core.Bool.{true, false, ◌||◌}
use mathlib.Core.List.{List, [], ◌∷◌}
use Prim.Native.Nat.{ℕ, ◌≤◌, ◌<◌}
use lib.Dec.{leb, ltb, eqb}
use borrow.Author.Tests.{eq-eqb, ne_eqb, lt-ltb, le-ltb, le-leb, lt-leb}
use Rattle.paper.specs.declared.Latest.{Latest}
use Rattle.paper.specs.declared.Verdict.{Verdict}
use Rattle.paper.specs.declared.Refusal.TheVariants.{BadWork, EightWait, NeverIdle, PastTheClock, TooLate}
use Rattle.paper.specs.Refusals.{H, passed, when, too_late, refusal_10, refusal_13, refusal_14}
use Rattle.paper.specs.Refused.{numbered}
use Rattle.paper.specs.Calls.{first_given}
use Rattle.theory.specs.Verdicts.{when_given, when_passed, or_true_right, passed-all}
use Rattle.theory.specs.Said.{said_first, pass_first}
use Rattle.admit.specs.Parts.{ten_to_twelve}

module _ (work waiting idle : ℕ) where
  abbrev after-11 : List Verdict
  after-11 = when (eqb idle 0) 12 ∷ []

  abbrev after-10 : List Verdict
  after-10 = when (leb 8 waiting) 11 ∷ after-11

  bad : eqb work 0 || ltb 30000 work ≡ true → first_given (ten_to_twelve work waiting idle) ≡ numbered 10 0
  unfolding refusal_10
  bad e = said_first after-10 BadWork (when_given 10 e)

  pub no_work : work ≡ 0 → first_given (ten_to_twelve work waiting idle) ≡ numbered 10 0
  no_work e = bad (rw (eq-eqb work 0 e))

  pub much_work : 30000 < work → first_given (ten_to_twelve work waiting idle) ≡ numbered 10 0
  much_work h = bad (or_true_right (eqb work 0) (lt-ltb 30000 work h))

  module _ (some : work ≡ 0 → ⊥) (most : work ≤ 30000) where
    past_10 : first_given (ten_to_twelve work waiting idle) ≡ first_given after-10
    unfolding refusal_10
    past_10 = pass_first after-10 (when_passed 10 (rw (ne_eqb work 0 some, le-ltb 30000 work most)))

    pub many_wait : 8 ≤ waiting → first_given (ten_to_twelve work waiting idle) ≡ numbered 11 0
    many_wait h = past_10 ∙ said_first after-11 EightWait (when_given 11 (le-leb 8 waiting h))

    past_11 : waiting < 8 → first_given (ten_to_twelve work waiting idle) ≡ first_given after-11
    past_11 h = past_10 ∙ pass_first after-11 (when_passed 11 (lt-leb 8 waiting h))

    pub none_idle : waiting < 8 → idle ≡ 0 → first_given (ten_to_twelve work waiting idle) ≡ numbered 12 0
    none_idle h e = past_11 h ∙ said_first [] NeverIdle (when_given 12 (eq-eqb idle 0 e))

    pub some_idle : waiting < 8 → (idle ≡ 0 → ⊥) → first_given (ten_to_twelve work waiting idle) ≡ passed
    some_idle h z = past_11 h ∙ pass_first [] (when_passed 12 (ne_eqb idle 0 z)) ∙ passed-all

module _ (p : ℕ) (latest : Latest) where
  abbrev two : List Verdict
  two = refusal_13 p ∷ refusal_14 p latest ∷ []

  pub past_clock : H < p → first_given two ≡ numbered 13 0
  unfolding refusal_13
  past_clock h = said_first (refusal_14 p latest ∷ []) PastTheClock (when_given 13 (lt-ltb H p h))

  in_clock : p ≤ H → first_given two ≡ first_given (refusal_14 p latest ∷ [])
  unfolding refusal_13
  in_clock h = pass_first (refusal_14 p latest ∷ []) (when_passed 13 (le-ltb H p h))

  pub late : p ≤ H → too_late p latest ≡ true → first_given two ≡ numbered 14 0
  unfolding refusal_14
  late h e = in_clock h ∙ said_first [] TooLate (when_given 14 e)

  pub in_time : p ≤ H → too_late p latest ≡ false → first_given two ≡ passed
  unfolding refusal_14
  in_time h e = in_clock h ∙ pass_first [] (when_passed 14 e) ∙ passed-all

-- ---- what each function is left with

pub ruleset before_the_promise = (no_work, much_work, many_wait, none_idle, some_idle)

pub ruleset after_the_promise = (past_clock, late, in_time)
