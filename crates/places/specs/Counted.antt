-- What one walk over the places finds: their number up to 1,025, and refusal 6 of a table that passes 4, with the time that it names.
use Rattle.std.specs.Prelude.{◌≡◌, ◌≤◌, ◌<◌, min, List, length}
use Rattle.std.proofs.Common.{arith}
use borrow.Author.Tests.{lt-ltb, le-ltb}
use Rattle.paper.specs.declared.Task.{Task}
use Rattle.paper.specs.Places.{K}
use Rattle.paper.specs.Refusals.{at, passed, overloaded_at, refusal_4, refusal_6}
use Rattle.paper.specs.Refused.{numbered}
use Rattle.theory.specs.Verdicts.{when_given, when_passed}
use Rattle.places.specs.declared.Count.{Count}

pub record Counted (ts : List Task) (c : Count) : Type 0 where
  pub places_are : c.places ≡ min (length (K ts)) 1025
  pub over_is : length (K ts) ≤ 1024 → c.over ≡ overloaded_at ts
  pub six_is : length (K ts) ≤ 1024 → at c.over 6 ≡ refusal_6 ts

-- what it finds of a table that passes 4
pub record AllCounted (ts : List Task) (c : Count) : Type 0 where
  pub places_are : c.places ≡ length (K ts)
  pub over_is : c.over ≡ overloaded_at ts

module _ (ts : List Task) (c : Count) (x : Counted ts c) where
  -- A count above 1,024 says that 4 is given,
  pub four_given : 1024 < c.places → refusal_4 ts ≡ numbered 4 0
  unfolding refusal_4
  four_given h = when_given 4 (lt-ltb 1024 (length (K ts)) (omega (arith, x.places_are)))

  -- and any other that 4 is passed, and is of all places.
  pub all_counted : c.places ≤ 1024 → (refusal_4 ts ≡ passed) × AllCounted ts c
  unfolding refusal_4
  all_counted h =
      let few : length (K ts) ≤ 1024 = omega (arith, x.places_are) in
      (when_passed 4 (le-ltb 1024 (length (K ts)) few), record { places_are = omega (arith, x.places_are); over_is = x.over_is few })
