-- Laws of a call's list of refusals: what is first given, and that nothing is given exactly if every one passes.
-- The calls' code asks one refusal after the other; these say that it answers what the paper's list answers.
use Rattle.std.specs.Prelude.{◌≡◌, refl, Bool, true, false, ◌&&◌, ◌||◌, List, [], ◌∷◌, ◌++◌, ℕ, suc, ◌<◌, Option, None, Some}
use Rattle.std.proofs.Common.{sym, ap, ◌∙◌, arith, eq-eqb, ne_eqb}
use Rattle.std.proofs.Math.Decide.{ℕ_discrete}
use Rattle.paper.specs.declared.Verdict.{Verdict}
use Rattle.paper.specs.Refusals.{passed, when, at, found}
use Rattle.paper.specs.Calls.{first_given, accepted}

-- ---- one refusal

-- A refusal whose test is true gives its number, and place 0.
pub when_given : {b : Bool} (n : ℕ) → b ≡ true → when b n ≡ record { number = n; place = 0 }
when_given n e = rw e

-- One whose test is false is passed.
pub when_passed : {b : Bool} (n : ℕ) → b ≡ false → when b n ≡ passed
when_passed n e = rw e

-- One that is passed has a test that is false.
pub when_not : (b : Bool) (n : ℕ) → (when b (suc n)).number ≡ 0 → b ≡ false
when_not true n e = absurd (omega arith)
when_not false n e = refl

-- One with a place that is passed found none.
pub at_not : (o : Option ℕ) (n : ℕ) → (at o (suc n)).number ≡ 0 → o ≡ None
at_not None n e = refl
at_not (Some p) n e = absurd (omega arith)

-- What is not found is none.
pub found_not : (o : Option ℕ) → found o ≡ false → o ≡ None
found_not None e = refl
found_not (Some n) e = let z : ◌≡◌ {A = ℕ} 0 1 = cc in absurd (omega arith)

-- Where "a or b" is false, both are.
pub or_false_both : (a b : Bool) → a || b ≡ false → (a ≡ false) × (b ≡ false)
or_false_both true b e = (e, cc)
or_false_both false b e = (refl, e)

-- Where "a and b" is true, both are.
pub and_true_both : (a b : Bool) → a && b ≡ true → (a ≡ true) × (b ≡ true)
and_true_both true b e = (refl, e)
and_true_both false b e = let z : ◌≡◌ {A = ℕ} 0 1 = cc in absurd (omega arith)

-- Where b is true, so is "a or b".
pub or_true_right : (a : Bool) {b : Bool} → b ≡ true → a || b ≡ true
or_true_right true e = refl
or_true_right false e = e

-- ---- a list of refusals

module _ (r : Verdict) (rs : List Verdict) where
  -- A refusal that is given decides, whatever comes after it.
  pub given_first : 0 < r.number → first_given (r ∷ rs) ≡ r
  unfolding first_given
  given_first h = rw (ne_eqb r.number 0 (λ z. omega arith))

  -- One that is passed leaves it to the others.
  pub passed_first : r.number ≡ 0 → first_given (r ∷ rs) ≡ first_given rs
  unfolding first_given
  passed_first e = rw (eq-eqb r.number 0 e)

-- Of no refusal, none is given.
pub passed-all : first_given [] ≡ passed
unfolding first_given
passed-all = refl

-- every one of them is passed
abbrev pub AllPassed : List Verdict → Type 0
AllPassed [] = Unit {0}
AllPassed (r ∷ rs) = (r.number ≡ 0) × AllPassed rs

-- nothing is given exactly if every one passes
pub none_given : (rs : List Verdict) → (first_given rs).number ≡ 0 → AllPassed rs
none_given [] e = tt
none_given (r ∷ rs) e =
    elim (ℕ_discrete r.number 0) [
      | yes z ↦ (z, none_given rs (rw (passed_first r rs z) at e))
      | no z ↦ absurd (z (rw (given_first r rs (omega arith)) at e))
    ]

-- Where every one is passed, none is given.
pub all_none : (rs : List Verdict) → AllPassed rs → first_given rs ≡ passed
all_none [] a = passed-all
all_none (r ∷ rs) a = passed_first r rs a.0 ∙ all_none rs a.1

-- If all of two lists are passed, so are all of the first.
pub passed-part : (rs ss : List Verdict) → AllPassed (rs ++ ss) → AllPassed rs
passed-part [] ss a = tt
passed-part (r ∷ rs) ss a = (a.0, passed-part rs ss a.1)

-- a list in two parts: the first decides, or the second does
pub passed-front : (rs ss : List Verdict) → (first_given rs).number ≡ 0 → first_given (rs ++ ss) ≡ first_given ss
passed-front [] ss e = refl
passed-front (r ∷ rs) ss e =
    let a = none_given (r ∷ rs) e in
    passed_first r (rs ++ ss) a.0 ∙ passed-front rs ss (rw (passed_first r rs a.0) at e)

-- Where one of the first list is given, it decides.
pub given_front : (rs ss : List Verdict) → 0 < (first_given rs).number → first_given (rs ++ ss) ≡ first_given rs
given_front [] ss h = absurd (omega (arith, ap (λ (v : Verdict). v.number) passed-all))
given_front (r ∷ rs) ss h =
    elim (ℕ_discrete r.number 0) [
      | yes z ↦ passed_first r (rs ++ ss) z ∙ given_front rs ss (rw (passed_first r rs z) at h) ∙ sym (passed_first r rs z)
      | no z ↦ given_first r (rs ++ ss) (omega arith) ∙ sym (given_first r rs (omega arith))
    ]

-- ---- what a verdict lets through

module _ {A : Type 0} (r : Verdict) (good bad : A) where
  -- A verdict without a number lets the good outcome through.
  pub accepted_is : r.number ≡ 0 → accepted r good bad ≡ good
  accepted_is e = rw (eq-eqb r.number 0 e)

  -- One with a number lets the other through.
  pub refused_is : 0 < r.number → accepted r good bad ≡ bad
  refused_is h = rw (ne_eqb r.number 0 (λ z. omega arith))
