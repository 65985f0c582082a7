-- A list of one refusal gives that refusal: the last that a call asks is what it answers.
use Rattle.std.specs.Prelude.{◌≡◌, Bool, true, false, [], ◌∷◌, ℕ, suc, Option, None, Some}
use Rattle.std.proofs.Math.Path.{refl}
use Rattle.std.proofs.Common.{arith}
use Rattle.paper.specs.Refusals.{when, at}
use Rattle.paper.specs.Calls.{first_given}
use Rattle.theory.specs.Verdicts.{given_first}

-- Of a refusal that names no place.
pub one_when : (b : Bool) (n : ℕ) → first_given (when b (suc n) ∷ []) ≡ when b (suc n)
one_when true n = given_first (record { number = suc n; place = 0 }) [] (omega arith)
one_when false n = unfold first_given in refl

-- Of a refusal that names a place.
pub one_at : (o : Option ℕ) (n : ℕ) → first_given (at o (suc n) ∷ []) ≡ at o (suc n)
one_at None n = unfold first_given in refl
one_at (Some p) n = given_first (record { number = suc n; place = p }) [] (omega arith)
