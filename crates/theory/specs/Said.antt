-- Laws of judgements: what a refusal or a pass of one of a call's refusals means for the whole list, and for the outcome.
-- The calls' code asks one judgement after the other by `?`; these say that the first refusal is the paper's.
use Rattle.std.specs.Prelude.{◌≡◌, refl, ℕ, ◌-◌, List, [], ◌∷◌, ◌++◌, ◌<◌, get_or, Result, Ok, Err}
use Rattle.std.proofs.Common.{sym, ap, ◌∙◌, arith}
use Rattle.paper.specs.declared.Verdict.{Verdict}
use Rattle.paper.specs.declared.Refusal.{Refusal}
use Rattle.paper.specs.declared.Refusal.TheVariants.{NoOrManyTasks, TaskOutOfLimits, WindowTooLong, TooManyPlaces, VectorTooShort, Overloaded}
use Rattle.paper.specs.declared.Refusal.TheVariants.{Misshapen, Overdue, Unfit, BadWork, EightWait, NeverIdle, PastTheClock, TooLate, ClockAtItsEnd}
use Rattle.paper.specs.declared.Refusal.TheVariants.{Cut, UnknownTag, WrongLength, WrongOrder, InputTooLong, RunTooLong}
use Rattle.paper.specs.Refusals.{passed}
use Rattle.paper.specs.Refused.{verdict_of, Says}
use Rattle.paper.specs.Calls.{first_given, accepted}
use Rattle.theory.specs.Verdicts.{given_first, passed_first, passed-front, given_front, accepted_is, refused_is}

-- Every refusal has a number.
pub numbered_from1 : (r : Refusal) → 0 < (verdict_of r).number
numbered_from1 (NoOrManyTasks p) = omega arith
numbered_from1 (TaskOutOfLimits p) = omega arith
numbered_from1 WindowTooLong = omega arith
numbered_from1 TooManyPlaces = omega arith
numbered_from1 VectorTooShort = omega arith
numbered_from1 (Overloaded p) = omega arith
numbered_from1 Misshapen = omega arith
numbered_from1 Overdue = omega arith
numbered_from1 Unfit = omega arith
numbered_from1 BadWork = omega arith
numbered_from1 EightWait = omega arith
numbered_from1 NeverIdle = omega arith
numbered_from1 PastTheClock = omega arith
numbered_from1 TooLate = omega arith
numbered_from1 ClockAtItsEnd = omega arith
numbered_from1 (Cut p) = omega arith
numbered_from1 (UnknownTag p) = omega arith
numbered_from1 (WrongLength p) = omega arith
numbered_from1 (WrongOrder p) = omega arith
numbered_from1 InputTooLong = omega arith
numbered_from1 (RunTooLong p) = omega arith

-- the refusals at a place, by number from 1
abbrev by_number : ℕ → List Refusal
by_number p =
    NoOrManyTasks p ∷ TaskOutOfLimits p ∷ WindowTooLong ∷ TooManyPlaces ∷ VectorTooShort ∷ Overloaded p ∷ Misshapen ∷ Overdue ∷ Unfit ∷ BadWork
    ∷ EightWait ∷ NeverIdle ∷ PastTheClock ∷ TooLate ∷ ClockAtItsEnd ∷ Cut p ∷ UnknownTag p ∷ WrongLength p ∷ WrongOrder p ∷ InputTooLong
    ∷ RunTooLong p ∷ []

abbrev refusal_of : Verdict → Refusal
refusal_of v = get_or (by_number v.place) (v.number - 1) WindowTooLong

back : (r : Refusal) → refusal_of (verdict_of r) ≡ r
back (NoOrManyTasks p) = refl
back (TaskOutOfLimits p) = refl
back WindowTooLong = refl
back TooManyPlaces = refl
back VectorTooShort = refl
back (Overloaded p) = refl
back Misshapen = refl
back Overdue = refl
back Unfit = refl
back BadWork = refl
back EightWait = refl
back NeverIdle = refl
back PastTheClock = refl
back TooLate = refl
back ClockAtItsEnd = refl
back (Cut p) = refl
back (UnknownTag p) = refl
back (WrongLength p) = refl
back (WrongOrder p) = refl
back InputTooLong = refl
back (RunTooLong p) = refl

-- Two refusals with one verdict are one refusal: a clause that says the verdict leaves no other outcome.
pub one_refusal : (r q : Refusal) → verdict_of r ≡ verdict_of q → r ≡ q
one_refusal r q e = sym (back r) ∙ ap refusal_of e ∙ back q

-- What says a refusal has its number.
pub said_number : {v : Verdict} (r : Refusal) → v ≡ verdict_of r → 0 < v.number
said_number r e = rw e (numbered_from1 r)

-- What is passed has none.
pub passed_number : {v : Verdict} → v ≡ passed → v.number ≡ 0
passed_number e = rw e

-- What a judgement answers, as a verdict.
abbrev pub answered : {A : Type 0} → Result A Refusal → Verdict
answered (Ok a) = passed
answered (Err r) = verdict_of r

-- A judgement that says a verdict answers it.
pub says_answered : {A : Type 0} (v : Verdict) (P : A → Type 0) (r : Result A Refusal) → Says v P r → v ≡ answered r
says_answered v P (Ok a) said = said.0
says_answered v P (Err e) said = said

-- ---- one refusal in front of others

module _ {v : Verdict} (rs : List Verdict) where
  -- A refusal decides, whatever comes after it.
  pub said_first : (r : Refusal) → v ≡ verdict_of r → first_given (v ∷ rs) ≡ verdict_of r
  said_first r e = given_first v rs (said_number r e) ∙ e

  -- A pass leaves it to the others.
  pub pass_first : v ≡ passed → first_given (v ∷ rs) ≡ first_given rs
  pass_first e = passed_first v rs (passed_number e)

-- ---- a list in two parts

module _ (rs ss : List Verdict) where
  -- A refusal in the first part decides.
  pub said_front : (r : Refusal) → first_given rs ≡ verdict_of r → first_given (rs ++ ss) ≡ verdict_of r
  said_front r e = given_front rs ss (said_number r e) ∙ e

  -- Where the first part passes, the second decides.
  pub pass_front : first_given rs ≡ passed → first_given (rs ++ ss) ≡ first_given ss
  pass_front e = passed-front rs ss (passed_number e)

-- ---- the outcome

module _ {A : Type 0} {v : Verdict} (good bad : A) where
  -- A pass lets the good outcome through.
  pub pass_accepts : v ≡ passed → accepted v good bad ≡ good
  pass_accepts e = accepted_is v good bad (passed_number e)

  -- A refusal lets the other through.
  pub said_refuses : (r : Refusal) → v ≡ verdict_of r → accepted v good bad ≡ bad
  said_refuses r e = refused_is v good bad (said_number r e)
